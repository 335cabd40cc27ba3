use Rattle.std.proofs.Common.{◌≡◌, ℕ, ◌<◌, ◌≤◌, length, get_or, pos, ◌+ℤ◌}
use Rattle.sheet.specs.Bounds.{Within}
use Rattle.sheet.proofs.balance.amounts_of.Given as goal

abbrev pub invariant-loop-i : goal.invariant-loop-i
invariant-loop-i l =
    ((k : ℕ) → k < l.i → get_or l.amounts k (pos 0) ≡ get_or l.firsts k (pos 0) +ℤ get_or l.parts k (pos 0))
    × ((k : ℕ) → l.i ≤ k → get_or l.amounts k (pos 0) ≡ get_or l.firsts k (pos 0))
    × Within 630000000000 l.amounts
    × (length l.amounts ≡ 20)
