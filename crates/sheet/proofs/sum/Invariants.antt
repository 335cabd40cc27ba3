use Rattle.std.proofs.Common.{◌≡◌, ℕ, ◌*◌, ◌≤◌, take, nat_abs}
use Rattle.units.specs.Sums.{sum_z}
use Rattle.sheet.specs.Bounds.{Within}
use Rattle.sheet.proofs.sum.Given as goal

abbrev pub invariant-loop-x : goal.invariant-loop-x
invariant-loop-x l = (l.sum ≡ sum_z (take l.x-index l.xs)) × ((limit : ℕ) → Within limit l.xs → nat_abs l.sum ≤ limit * l.x-index)
