use Rattle.std.proofs.Common.{◌≡◌, take}
use Rattle.sharing.specs.Limits.{magnitudes}
use Rattle.sharing.proofs.magnitudes.Given as goal

abbrev pub invariant-loop-weight : goal.invariant-loop-weight
invariant-loop-weight l = l.kwh.items ≡ magnitudes (take l.weight-index l.weights)
