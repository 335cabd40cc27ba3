use Rattle.std.proofs.Common.{◌≡◌, ℕ, ◌+◌, ◌<◌, ◌≤◌, length, get_or, set, ap, ◌∙◌, subst, length-set, arith, rules}
use Rattle.std.proofs.lemmas.List.Edits.{fill_by_more}
use Rattle.hourly.specs.Cells.{blank, read}
use Rattle.hourly.specs.declared.plain.PlainCell.{PlainCell}
use Rattle.book.specs.Held.{Fits, Held, cell_at, standing_on}
use Rattle.book.proofs.HourRows.{listed_is}
use Rattle.book.proofs.book.Ledger.hour_cells.Goals as goal

pub returns : goal.returns
returns c =
    let h = c.args.self.now in
    let fits : Fits h = subst Fits c.self.view_is c.self.invariant in
    let same : c.self.inside.sizes.parties ≡ h.sizes.parties = ap (λ (g : Held). g.sizes.parties) c.self.view_is in
    let twenty : length c.loop-party.cells ≡ 20 = c.loop-party.invariant.1 in
    let l : h.sizes.parties ≤ length c.loop-party.cells = omega arith in
    listed_is c.loop-party.cells (λ p. (standing_on h).cell p c.args.day c.args.hour) h.sizes.parties l (λ k m. ap read (c.loop-party.invariant.0 k (omega arith)))
