use Rattle.std.proofs.Common.{◌≡◌, ◌*◌, ◌/◌, ◌%◌, map, take}
use Rattle.sharing.proofs.largest_remainder.floors_and_rests.Given as goal

abbrev pub invariant-loop-weight : goal.invariant-loop-weight
invariant-loop-weight l = record {
  floors : l.floors.items ≡ map (λ w. l.split.halers * w / l.split.total) (take l.weight-index l.weight-items);
  rests : l.rests.items ≡ map (λ w. l.split.halers * w % l.split.total) (take l.weight-index l.weight-items);
}
