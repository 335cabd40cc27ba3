use Rattle.std.proofs.Common.{ℕ, ◌+◌, ◌*◌, cond, length, get_or, ◌+ℤ◌, ap, ◌∙◌, arith, rules, tests}
use Rattle.std.specs.List.{enumerate_from, filter, slice_range}
use Rattle.std.proofs.lemmas.Iterator.{YieldsList-from_map, YieldsList-from_slice}
use Rattle.std.proofs.lemmas.Iterator.Adapters.{at_most_from_Filter, at_most_from_enumerate, at_most_from_yields_List, fits_from_length}
use Rattle.std.proofs.lemmas.Iterator.Consumers.{YieldsList-at, YieldsList-from_enumerate, YieldsList-from_filter, sum_by_from_yields_List}
use Rattle.hourly.specs.Cells.{blank, read}
use Rattle.cover.specs.Need.{added, day_counted, day_in, day_tenths, position_with}
use Rattle.cover.proofs.Bounds.{few_days, tenths_with_small}
use Rattle.cover.proofs.Totals.{day_placed, days_sum, total_below}
use Rattle.cover.proofs.prices.ParametricPrices.tenths.Goals as goal

pub sum-requires-clause-fits : goal.sum-requires-clause-fits
sum-requires-clause-fits g c =
    let few = few_days (length c.args.days.now) (length c.args.cells.now) c.requires in
    fits_from_length _ _ 62 _ (at_most_from_Filter _ (at_most_from_enumerate (at_most_from_yields_List (YieldsList-from_slice c.args.days.now cc) few))) c.map.ensures.closure (omega arith) (λ x r q k. search rules)

pub returns-clause-value : goal.returns-clause-value
returns-clause-value g c =
    let ps = c.args.self.now.hours in
    let days = c.args.days.now in
    let cells = c.args.cells.now in
    let t = c.args.trade.now.trade in
    let D = g.row.D.Denot in
    let counts = day_in g.D.Counts.counts g.D.Counts.past days in
    let f : ℕ → ℕ = λ d. day_tenths ps 24 (λ h. (read (get_or (slice_range cells (d * 24) (d * 24 + 24)) h blank)).position +ℤ added t.start t.end t.kwh (d * 24 + h)) in
    let h : ℕ × D → ℕ = λ p. f p.0 in
    sum_by_from_yields_List h (filter (λ (p : ℕ × D). g.D.Counts.counts p.1) (enumerate_from 0 days)) c.map.result c.sum.result c.sum.ensures.ran
    (YieldsList-from_map _ h
    (YieldsList-at c.map.ensures.source
    (YieldsList-from_filter _ (λ (p : ℕ × D). g.D.Counts.counts p.1)
    (YieldsList-at c.filter.ensures.source (YieldsList-from_enumerate (YieldsList-at c.enumerate.ensures.source (YieldsList-from_slice days cc)) c.enumerate.ensures.count))
    c.filter.ensures.closure (λ x r q k. search (rules, tests))))
    c.map.ensures.closure (λ x r q k. search (rules, tests)))
    ∙ days_sum g.D.Counts.counts g.D.Counts.past days f
    ∙ total_below (λ d. cond (counts d) (f d) 0) (day_counted ps (λ d. 24) counts (position_with cells t.start t.end t.kwh)) (length days)
    (λ d _. ap (λ (n : ℕ). cond (counts d) n 0) (day_placed ps cells t.start t.end t.kwh d 24 (omega arith)))

pub returns-clause-bound : goal.returns-clause-bound
returns-clause-bound g c =
    let table = c.args.self.now in
    let t = c.args.trade.now in
    rw (returns-clause-value g c) (tenths_with_small g.D.Counts.counts g.D.Counts.past table.hours c.args.days.now c.args.cells.now table.priced c.requires t.trade.start t.trade.end t.trade.kwh t.modest)
