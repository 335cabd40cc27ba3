use Rattle.std.proofs.Common.{◌≡◌, ◌-◌, ap, ◌∙◌, arith}
use Rattle.units.specs.Sums.{sum_n}
use Rattle.sharing.specs.Rules.{floors}
use Rattle.sharing.specs.Leftovers.{floors_sum}
use Rattle.sharing.proofs.Ranks.{allotted}
use Rattle.sharing.proofs.largest_remainder.LargestRemainderDivision.divide.Goals as goal

pub sum-requires : goal.sum-requires
sum-requires c =
    let s = c.args.split.now in
    omega (arith, ap sum_n (c.deref.ensures.0 ∙ c.floors_and_rests-floors.ensures.floors), floors_sum s.halers s.weights.items (omega arith))

pub overflow_sub-split : goal.overflow_sub-split
overflow_sub-split c =
    let s = c.args.split.now in
    omega (arith, ap sum_n (c.deref.ensures.0 ∙ c.floors_and_rests-floors.ensures.floors), floors_sum s.halers s.weights.items (omega arith))

pub serve-requires-clause-halers : goal.serve-requires-clause-halers
serve-requires-clause-halers c =
    let s = c.args.split.now in
    omega (arith, ap sum_n (c.deref-3.ensures.0 ∙ c.floors_and_rests-floors.ensures.floors), floors_sum s.halers s.weights.items (omega arith))

pub returns : goal.returns
returns c =
    let s = c.args.split.now in
    let qs = c.deref-3.ensures.0 ∙ c.floors_and_rests-floors.ensures.floors in
    let rs = c.deref-2.ensures.0 ∙ c.floors_and_rests-floors.ensures.rests in
    let l : s.halers - c.sum.result ≡ s.halers - sum_n (floors s.halers s.weights.items) = ap (λ n. s.halers - n) (c.sum.ensures ∙ ap sum_n (c.deref.ensures.0 ∙ c.floors_and_rests-floors.ensures.floors)) in
    c.serve.ensures ∙ allotted s.halers s.weights.items _ _ _ (omega arith) qs rs l
