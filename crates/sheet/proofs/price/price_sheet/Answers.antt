use Rattle.std.proofs.Common.{◌≡◌, map, ap, ◌∙◌, rules}
use Rattle.units.specs.Sums.{page}
use Rattle.pricing.specs.declared.prices.Prices.{Prices}
use Rattle.sheet.specs.Evaluation.{first_amount, prices_of}
use Rattle.sheet.specs.Gathering.{facts}
use Rattle.sheet.proofs.price.price_sheet.Goals as goal

pub returns-clause-firsts : goal.returns-clause-firsts
returns-clause-firsts g c =
    let h = facts c.args.sheet in
    let e : c.prices_by-prices.result ≡ prices_of (g.P.Pricing.map c.args.rule.now) h = search rules in
    c.figures_of-firsts.ensures.value ∙ ap (λ (p : Prices). page (map (first_amount p) h.rows)) e
