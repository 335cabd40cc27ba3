use Rattle.std.proofs.Common.{◌≡◌, ◌++◌, Ok, Err, sym, ◌∙◌, rules}
use Rattle.entries.specs.Fields.{checked, field_checks}
use Rattle.entries.proofs.Passed.{stops}
use Rattle.book.specs.Books.{held, terms_by}
use Rattle.book.specs.Checks.{book_checks, cash_checks, cover_checks, kwh_checks, state_checks}
use Rattle.book.specs.Held.{standing_on}
use Rattle.book.proofs.Unrefused.{by_book, by_cash, by_checks, by_cover, by_kwh, sane_by}
use Rattle.book.proofs.book.Book.check.Goals as goal

pub returns-in_err-check_fields : goal.returns-in_err-check_fields
returns-in_err-check_fields g c =
    let b = c.args.self.now in
    let h = held b in
    let v = standing_on h in
    let e = c.args.entry.now in
    let m = terms_by g.P.Pricing.map g.S.Sharing.map b in
    let f = c.sizes-sizes.ensures.fits in
    let refusal = c.in_err-check_fields.field-0.0 in
    let here : checked (field_checks h.sizes e) ≡ Err refusal = search rules in
    let told : c.from_residual.result ≡ Err refusal = search rules in
    told ∙ sym (by_checks m h e f ∙ stops (field_checks h.sizes e) (book_checks m v e) refusal here)

pub returns-in_err-check_state : goal.returns-in_err-check_state
returns-in_err-check_state g c =
    let b = c.args.self.now in
    let h = held b in
    let v = standing_on h in
    let e = c.args.entry.now in
    let m = terms_by g.P.Pricing.map g.S.Sharing.map b in
    let f = c.sizes-sizes.ensures.fits in
    let ok0 : checked (field_checks h.sizes e) ≡ Ok tt = search rules in
    let refusal = c.in_err-check_state.field-0.0 in
    let here : checked (state_checks v e) ≡ Err refusal = search rules in
    let told : c.from_residual-in_err-check_state.result ≡ Err refusal = search rules in
    told ∙ sym (by_book m h e f ok0 ∙ stops (state_checks v e) (kwh_checks v e ++ (cash_checks v e ++ cover_checks m v e)) refusal here)

pub check_kwh-requires : goal.check_kwh-requires
check_kwh-requires g c =
    let h = held c.args.self.now in
    let e = c.args.entry.now in
    let ok0 : checked (field_checks h.sizes e) ≡ Ok tt = search rules in
    sane_by h.sizes e ok0

pub returns-in_err-check_kwh : goal.returns-in_err-check_kwh
returns-in_err-check_kwh g c =
    let b = c.args.self.now in
    let h = held b in
    let v = standing_on h in
    let e = c.args.entry.now in
    let m = terms_by g.P.Pricing.map g.S.Sharing.map b in
    let f = c.sizes-sizes.ensures.fits in
    let ok0 : checked (field_checks h.sizes e) ≡ Ok tt = search rules in
    let ok1 : checked (state_checks v e) ≡ Ok tt = search rules in
    let refusal = c.in_err-check_kwh.field-0.0 in
    let here : checked (kwh_checks v e) ≡ Err refusal = search rules in
    let told : c.from_residual-in_err-check_kwh.result ≡ Err refusal = search rules in
    told ∙ sym (by_kwh m h e f ok0 ok1 ∙ stops (kwh_checks v e) (cash_checks v e ++ cover_checks m v e) refusal here)

pub check_cash-requires : goal.check_cash-requires
check_cash-requires g c =
    let h = held c.args.self.now in
    let e = c.args.entry.now in
    let ok0 : checked (field_checks h.sizes e) ≡ Ok tt = search rules in
    sane_by h.sizes e ok0

pub returns-in_err-check_cash : goal.returns-in_err-check_cash
returns-in_err-check_cash g c =
    let b = c.args.self.now in
    let h = held b in
    let v = standing_on h in
    let e = c.args.entry.now in
    let m = terms_by g.P.Pricing.map g.S.Sharing.map b in
    let f = c.sizes-sizes.ensures.fits in
    let ok0 : checked (field_checks h.sizes e) ≡ Ok tt = search rules in
    let ok1 : checked (state_checks v e) ≡ Ok tt = search rules in
    let ok2 : checked (kwh_checks v e) ≡ Ok tt = search rules in
    let refusal = c.in_err-check_cash.field-0.0 in
    let here : checked (cash_checks v e) ≡ Err refusal = search rules in
    let told : c.from_residual-in_err-check_cash.result ≡ Err refusal = search rules in
    told ∙ sym (by_cash m h e f ok0 ok1 ok2 ∙ stops (cash_checks v e) (cover_checks m v e) refusal here)

pub check_cover-requires : goal.check_cover-requires
check_cover-requires g c =
    let h = held c.args.self.now in
    let e = c.args.entry.now in
    let ok0 : checked (field_checks h.sizes e) ≡ Ok tt = search rules in
    sane_by h.sizes e ok0

pub returns : goal.returns
returns g c =
    let b = c.args.self.now in
    let h = held b in
    let v = standing_on h in
    let e = c.args.entry.now in
    let m = terms_by g.P.Pricing.map g.S.Sharing.map b in
    let f = c.sizes-sizes.ensures.fits in
    let ok0 : checked (field_checks h.sizes e) ≡ Ok tt = search rules in
    let ok1 : checked (state_checks v e) ≡ Ok tt = search rules in
    let ok2 : checked (kwh_checks v e) ≡ Ok tt = search rules in
    let ok3 : checked (cash_checks v e) ≡ Ok tt = search rules in
    c.check_cover.ensures ∙ sym (by_cover m h e f ok0 ok1 ok2 ok3)
