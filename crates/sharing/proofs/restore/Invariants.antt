use Rattle.std.proofs.Common.{◌≡◌, ℕ, ◌<◌, ◌≤◌, length, get_or, pos}
use Rattle.sharing.specs.Rules.{signed}
use Rattle.sharing.proofs.restore.Given as goal

abbrev pub invariant-loop-i : goal.invariant-loop-i
invariant-loop-i l =
    ((k : ℕ) → k < l.i → get_or l.parts k (pos 0) ≡ signed l.negative (get_or l.shares k 0))
    × ((k : ℕ) → l.i ≤ k → get_or l.parts k (pos 0) ≡ pos 0)
    × (length l.parts ≡ 20)
