use Rattle.std.proofs.Common.{◌≡◌, [], ◌∷◌, map, Ok, Err, sym, ap, ◌∙◌, rules}
use Rattle.entries.specs.Fields.{checked}
use Rattle.entries.specs.declared.entry.Entry.{Entry}
use Rattle.entries.proofs.Passed.{goes_on, stops}
use Rattle.book.specs.Checks.{cash_check, payers_of}
use Rattle.book.specs.Held.{standing_on}
use Rattle.book.proofs.book.Ledger.check_cash.Goals as goal

pub returns-in_err-check_cash_of-in-Market : goal.returns-in_err-check_cash_of-in-Market
returns-in_err-check_cash_of-in-Market c =
    let v = standing_on c.args.self.now in
    let e = c.args.entry.now in
    let seller = c.in-Market.seller in
    let buyer = c.in-Market.buyer in
    let refusal = c.in_err-check_cash_of-in-Market.field-0.0 in
    let here : checked (cash_check v e seller ∷ []) ≡ Err refusal = search rules in
    let told : c.from_residual.result ≡ Err refusal = search rules in
    told ∙ sym (ap (λ (x : Entry). checked (map (cash_check v e) (payers_of x))) c.in-Market.is ∙ stops (cash_check v e seller ∷ []) (cash_check v e buyer ∷ []) refusal here)

pub returns-in_ok-check_cash_of-in-Market : goal.returns-in_ok-check_cash_of-in-Market
returns-in_ok-check_cash_of-in-Market c =
    let v = standing_on c.args.self.now in
    let e = c.args.entry.now in
    let seller = c.in-Market.seller in
    let buyer = c.in-Market.buyer in
    let here : checked (cash_check v e seller ∷ []) ≡ Ok tt = search rules in
    let there : c.check_cash_of-in-Market.result ≡ checked (cash_check v e buyer ∷ []) = search rules in
    there ∙ sym (ap (λ (x : Entry). checked (map (cash_check v e) (payers_of x))) c.in-Market.is ∙ goes_on (cash_check v e seller ∷ []) (cash_check v e buyer ∷ []) here)
