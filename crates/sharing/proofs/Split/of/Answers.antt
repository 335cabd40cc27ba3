use Rattle.std.proofs.Common.{ap, ◌∙◌, arith}
use Rattle.std.proofs.lemmas.Int.{ints}
use Rattle.units.specs.Sums.{sum_n}
use Rattle.sharing.specs.Limits.{magnitudes}
use Rattle.sharing.proofs.Ranges.{light, total-within}
use Rattle.sharing.proofs.Split.of.Goals as goal

pub sum-total-requires : goal.sum-total-requires
sum-total-requires c =
    let h = total-within (magnitudes c.args.weights.now) (light c.args.remainder c.args.weights.now c.requires) in
    omega (arith, ap sum_n c.deref.ensures.0, ap sum_n c.magnitudes-weights.ensures)

pub invariant_of-result : goal.invariant_of-result
invariant_of-result c =
    let h = total-within (magnitudes c.args.weights.now) (light c.args.remainder c.args.weights.now c.requires) in
    let e = ap sum_n c.deref.ensures.0 in
    record {
      few = omega (arith, ints, c.unsigned_abs.ensures.value, c.requires.halers);
      whole = c.sum-total.ensures ∙ e;
      some = omega (arith, c.if-total-eq0.false);
      light = omega (arith, ap sum_n c.magnitudes-weights.ensures, c.sum-total.ensures);
    }
