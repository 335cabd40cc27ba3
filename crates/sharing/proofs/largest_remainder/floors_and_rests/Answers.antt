use Rattle.std.proofs.Common.{ap, arith}
use Rattle.units.specs.Sums.{sum_n}
use Rattle.sharing.proofs.Signs.{at_most_sum}
use Rattle.sharing.proofs.largest_remainder.floors_and_rests.Goals as goal

pub floor-requires : goal.floor-requires
floor-requires c = omega (arith, at_most_sum c.deref-weight-items.result.now c.loop-weight.weight-index, ap sum_n c.deref-weight-items.ensures.0)

pub rest-requires : goal.rest-requires
rest-requires c = omega (arith, at_most_sum c.deref-weight-items.result.now c.loop-weight.weight-index, ap sum_n c.deref-weight-items.ensures.0)
