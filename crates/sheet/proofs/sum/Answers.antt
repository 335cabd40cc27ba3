use Rattle.std.proofs.Common.{◌*◌, ◌≤◌, ap, mul-le-mul_left, arith}
use Rattle.std.proofs.lemmas.List.{take_all}
use Rattle.std.proofs.lemmas.Int.{ints}
use Rattle.units.specs.Sums.{sum_z}
use Rattle.units.proofs.Summing.{sum_z_more}
use Rattle.sheet.proofs.sum.Goals as goal

pub overflow_add-sum : goal.overflow_add-sum
overflow_add-sum c =
    let x = c.requires c.loop-x.x-index in
    let m = c.loop-x.invariant.1 30000000000 c.requires in
    omega (arith, ints)

pub loop-x-preserved : goal.loop-x-preserved
loop-x-preserved c =
    let x = c.requires c.loop-x.x-index in
    let m = c.loop-x.invariant.1 30000000000 c.requires in
    let s = sum_z_more c.args.xs.now c.loop-x.x-index (omega arith) in
    (omega (arith, ints), λ limit h. omega (arith, ints, h c.loop-x.x-index, c.loop-x.invariant.1 limit h))

pub returns : goal.returns
returns c =
    let a = ap sum_z (take_all c.loop-x.x-index c.args.xs.now (omega arith)) in
    record {
      value = omega (arith, ints);
      bound = λ limit h. let m : limit * c.loop-x.x-index ≤ limit * 20 = mul-le-mul_left limit (omega arith) in omega (arith, ints, c.loop-x.invariant.1 limit h);
    }
