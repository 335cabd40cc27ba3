use Rattle.std.proofs.Common.{◌≡◌, ◌-ℤ◌, ap, ◌∙◌, w64, to_z, of_z, rules}
use Rattle.sheet.specs.Evaluation.{imbalance}
use Rattle.sheet.proofs.price.imbalance_of.Goals as goal

pub returns-clause-value : goal.returns-clause-value
returns-clause-value c =
    let r = c.row.inside in
    let e : to_z w64 (of_z w64 (to_z w64 (of_z w64 (to_z w64 (of_z w64 r.reading) -ℤ to_z w64 (of_z w64 r.position))) -ℤ to_z w64 (of_z w64 r.regulating))) ≡ (r.reading -ℤ r.position) -ℤ r.regulating = search rules in
    e ∙ ap imbalance c.row.view_is
