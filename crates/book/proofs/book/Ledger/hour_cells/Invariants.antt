use Rattle.std.proofs.Common.{◌≡◌, ℕ, ◌<◌, length, get_or}
use Rattle.hourly.specs.Cells.{blank}
use Rattle.book.specs.Held.{cell_at}
use Rattle.book.proofs.book.Ledger.hour_cells.Given as goal

abbrev pub invariant-loop-party : goal.invariant-loop-party
invariant-loop-party l =
    ((k : ℕ) → k < l.party → get_or l.cells k blank ≡ get_or l.self.cells (cell_at l.self.sizes k l.day l.hour) blank)
    × (length l.cells ≡ 20)
