use Rattle.std.proofs.Common.{ℕ, cond, length, pos, Some, None, ap, ◌∙◌, arith}
use Rattle.cover.specs.Need.{fits, rounded_up}
use Rattle.cover.proofs.Bounds.{tenths_small}
use Rattle.cover.proofs.Totals.{untraded_tenths}
use Rattle.cover.proofs.need_now.Goals as goal

pub returns-clause-value : goal.returns-clause-value
returns-clause-value g c =
    let days = c.args.days.now in
    let cells = c.args.cells.now in
    let t = c.none.result.trade in
    c.need_after.ensures.value
    ∙ ap (λ (n : ℕ). cond (fits (length days) (length cells)) (Some (pos (rounded_up n))) None) (untraded_tenths g.D.Counts.counts g.D.Counts.past c.args.prices.now.hours days cells t.start t.end t.kwh c.none.ensures)

pub returns-clause-bound : goal.returns-clause-bound
returns-clause-bound g c = λ fitting.
    let table = c.args.prices.now in
    omega (arith, tenths_small g.D.Counts.counts g.D.Counts.past table.hours c.args.days.now c.args.cells.now table.priced fitting)
