use Rattle.std.proofs.Common.{◌≡◌, List, map, ℤ, pos, ap, ◌∙◌, rules}
use Rattle.units.specs.Sums.{page, sum_n}
use Rattle.hourly.specs.Cells.{read}
use Rattle.hourly.specs.Records.{record_read}
use Rattle.sheet.specs.declared.gathered.Gathered.{Gathered}
use Rattle.sheet.specs.declared.priced.Priced.{Priced}
use Rattle.sheet.specs.Evaluation.{added, amounts, first_amounts, operator_by, operator_part, parts, parts_by, remainder, weights}
use Rattle.sheet.specs.Gathering.{facts, gather_refusal, rows_gathered}
use Rattle.sheet.specs.Sheets.{evaluated, hour_facts, written}
use Rattle.sheet.proofs.Whole.{added-pages, conserves, even, page-remainder, same-facts, same-figures}
use Rattle.sheet.proofs.evaluate.evaluate.Goals as goal

pub returns : goal.returns
returns g c =
    let s = c.gather.result in
    let h = facts s in
    let p = c.price.result in
    let b = c.balance.result in
    let f = g.P.Pricing.map c.args.pricing.now in
    let r = g.S.Sharing.map c.args.sharing.now in
    let laws = g.met.S.Sharing.lawful c.args.sharing.now in
    let hp : b.priced ≡ p = c.balance.ensures.priced in
    let hs : p.gathered ≡ s = c.price.ensures.gathered in
    let gs : b.priced.gathered ≡ s = ap (λ (x : Priced). x.gathered) hp ∙ hs in
    let firsts : p.firsts ≡ page (first_amounts f h) = c.price.ensures.firsts in
    let rest : b.remainder ≡ remainder f h = c.balance.ensures.remainder ∙ page-remainder f h p.firsts firsts in
    let shares : b.parts ≡ page (parts f r h) =
    c.balance.ensures.parts
    ∙ ap (λ (x : Gathered). page (parts_by r b.remainder (weights (facts x).rows))) hs
    ∙ ap (λ (n : ℤ). page (parts_by r n (weights h.rows))) rest in
    let hour : facts b.priced.gathered ≡ h = ap facts gs in
    let e1 = ap (λ (x : Priced). x.imbalances) hp ∙ c.price.ensures.imbalances in
    let e2 = ap (λ (x : Priced). x.system) hp ∙ c.price.ensures.system in
    let e3 = ap (λ (x : Priced). x.prices) hp ∙ c.price.ensures.prices in
    let e4 = ap (λ (x : Priced). x.firsts) hp ∙ firsts in
    let e5 = c.balance.ensures.weight ∙ ap (λ (x : Gathered). pos (sum_n (weights (facts x).rows))) hs in
    let e6 : b.amounts ≡ page (amounts f r h) = c.balance.ensures.amounts ∙ ap (λ (xs : List ℤ). added xs b.parts) firsts ∙ ap (added (page (first_amounts f h))) shares ∙ added-pages (first_amounts f h) (parts f r h) (even f r laws h) in
    let e7 : b.operator ≡ operator_part f h = c.balance.ensures.operator ∙ ap (λ (x : Gathered). operator_by b.remainder (weights (facts x).rows)) hs ∙ ap (λ (n : ℤ). operator_by n (weights h.rows)) rest in
    let cells = map read c.args.cells.now in
    let k = hour_facts c.args.hour cells (record_read c.args.deliveries.now) in
    let refused : s.refusal ≡ gather_refusal c.args.hour cells = search rules in
    let rows : h.rows ≡ rows_gathered c.args.hour cells = search rules in
    record {
      refusal = ap (λ (x : Gathered). x.refusal) gs ∙ refused;
      evaluated = same-figures (written b) (evaluated f r h) hour e1 e2 e3 e4 rest e5 shares e6 e7 ∙ ap (evaluated f r) (same-facts h k rows c.gather.ensures.deliveries);
      conserves = conserves f r laws;
    }
