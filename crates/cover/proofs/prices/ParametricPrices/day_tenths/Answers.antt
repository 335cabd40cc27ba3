use Rattle.std.proofs.Common.{ℕ, ◌+◌, get_or, ◌+ℤ◌, ◌∙◌, arith, rules, tests}
use Rattle.std.specs.List.{enumerate_from}
use Rattle.std.proofs.lemmas.Iterator.{YieldsList-from_map, YieldsList-from_slice}
use Rattle.std.proofs.lemmas.Iterator.Adapters.{at_most_from_enumerate, at_most_from_yields_List, fits_from_length}
use Rattle.std.proofs.lemmas.Iterator.Consumers.{YieldsList-at, YieldsList-from_enumerate, sum_by_from_yields_List}
use Rattle.hourly.specs.declared.plain.PlainCell.{PlainCell}
use Rattle.hourly.specs.Cells.{blank, read}
use Rattle.cover.specs.Prices.{exposure}
use Rattle.cover.specs.Need.{added, price_at}
use Rattle.cover.proofs.Bounds.{day_small, traded_small}
use Rattle.cover.proofs.Totals.{day_sum}
use Rattle.cover.proofs.prices.ParametricPrices.day_tenths.Goals as goal

pub sum-requires-clause-fits : goal.sum-requires-clause-fits
sum-requires-clause-fits c =
    fits_from_length _ _ 24 _ (at_most_from_enumerate (at_most_from_yields_List (YieldsList-from_slice c.args.cells.now cc) (omega (arith, c.requires.whole)))) c.map.ensures.closure (omega arith) (λ x r q k. search rules)

pub returns-clause-value : goal.returns-clause-value
returns-clause-value c =
    let ps = c.args.self.now.hours in
    let row = c.args.cells.now in
    let t = c.args.trade.now.trade in
    let h : ℕ × PlainCell → ℕ = λ p. exposure (price_at ps p.0) ((read p.1).position +ℤ added t.start t.end t.kwh (c.args.first + p.0)) in
    sum_by_from_yields_List h (enumerate_from 0 row) c.map.result c.sum.result c.sum.ensures.ran
    (YieldsList-from_map _ h (YieldsList-at c.map.ensures.source (YieldsList-from_enumerate (YieldsList-at c.enumerate.ensures.source (YieldsList-from_slice row cc)) c.enumerate.ensures.count)) c.map.ensures.closure (λ x r q k. search (rules, tests)))
    ∙ day_sum ps row t.start t.end t.kwh c.args.first 24 c.requires.whole

pub returns-clause-bound : goal.returns-clause-bound
returns-clause-bound c =
    let table = c.args.self.now in
    let row = c.args.cells.now in
    let t = c.args.trade.now in
    rw (returns-clause-value c) (day_small table.hours table.priced 998999 (λ h. (read (get_or row h blank)).position +ℤ added t.trade.start t.trade.end t.trade.kwh (c.args.first + h)) (λ h. traded_small (get_or row h blank) t.trade.start t.trade.end t.trade.kwh (c.args.first + h) t.modest) 24)
