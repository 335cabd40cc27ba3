use Rattle.std.proofs.Common.{◌≡◌, map, ap, ◌∙◌, w64, to_z, of_z, rules}
use Rattle.units.specs.Sums.{sum_z}
use Rattle.units.proofs.Summing.{sum_z-page}
use Rattle.sheet.specs.Gathering.{facts}
use Rattle.sheet.proofs.totalled.Goals as goal

pub returns-clause-total : goal.returns-clause-total
returns-clause-total g c =
    let z : to_z w64 (of_z w64 c.sum-total.result) ≡ c.sum-total.result = search rules in
    z ∙ c.sum-total.ensures.value ∙ ap sum_z c.figures_of-figures.ensures.value ∙ sum_z-page (map (g.F.Figure.figure c.args.figure.now) (facts c.args.sheet.now).rows)
