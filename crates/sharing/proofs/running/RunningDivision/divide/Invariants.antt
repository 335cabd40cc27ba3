use Rattle.std.proofs.Common.{◌≡◌, ◌*◌, ◌/◌, map, take}
use Rattle.std.specs.List.{range_with_len}
use Rattle.units.specs.Sums.{sum_n}
use Rattle.sharing.specs.Rules.{running_share}
use Rattle.sharing.proofs.running.RunningDivision.divide.Given as goal

abbrev pub invariant-loop-weight : goal.invariant-loop-weight
invariant-loop-weight l = record {
  upto : l.upto ≡ sum_n (take l.weight-index l.weight-items);
  low : l.low ≡ l.split.halers * sum_n (take l.weight-index l.weight-items) / l.split.total;
  shares : l.shares.items ≡ map (running_share l.split.halers l.weight-items) (range_with_len 0 l.weight-index);
}
