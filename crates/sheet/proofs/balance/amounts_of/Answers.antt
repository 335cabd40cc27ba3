use Rattle.std.proofs.Common.{◌≡◌, ◌<◌, ◌≤◌, length, get_or, ℤ, pos, ◌+ℤ◌, nat_abs, sym, ap, ◌∙◌, subst, arith, w64, to_z, of_z, rules, below_more}
use Rattle.std.proofs.lemmas.List.{ext_get_or, get_or-set_same, get_or-set_other, length-set}
use Rattle.units.specs.Sums.{sum_z}
use Rattle.units.proofs.Integers.{sum-read, sum-within}
use Rattle.sheet.specs.Evaluation.{added}
use Rattle.sheet.proofs.Rows.{each_set}
use Rattle.sheet.proofs.Splitting.{get_or-added, length-added, sum_z-added}
use Rattle.sheet.proofs.balance.amounts_of.Goals as goal

pub loop-i-preserved : goal.loop-i-preserved
loop-i-preserved c =
    let i = c.loop-i.i in
    let xs = c.loop-i.amounts in
    let x = get_or c.args.firsts.now i (pos 0) in
    let y = get_or c.args.parts.now i (pos 0) in
    let here : get_or xs i (pos 0) ≡ x = c.loop-i.invariant.1 i (omega arith) in
    let hx = c.requires.firsts i in
    let hy = c.requires.parts i in
    let v : to_z w64 (of_z w64 (to_z w64 (of_z w64 (get_or xs i (pos 0))) +ℤ to_z w64 (of_z w64 y))) ≡ x +ℤ y = ap (λ (z : ℤ). to_z w64 (of_z w64 (to_z w64 (of_z w64 z) +ℤ to_z w64 (of_z w64 y)))) here ∙ sum-read x y (omega arith) (omega arith) in
    let l : i < length xs = omega arith in
    let small : nat_abs (x +ℤ y) ≤ 630000000000 = omega (arith, sum-within x y) in (
      below_more _ _
          (λ k h. get_or-set_other xs i k _ (pos 0) (omega arith) ∙ c.loop-i.invariant.0 k h)
          (get_or-set_same xs i _ (pos 0) l ∙ v),
      (λ k h. get_or-set_other xs i k _ (pos 0) (omega arith) ∙ c.loop-i.invariant.1 k (omega arith)),
      each_set (λ (z : ℤ). nat_abs z ≤ 630000000000) xs i _ (pos 0) l c.loop-i.invariant.2 (subst (λ (z : ℤ). nat_abs z ≤ 630000000000) (sym v) small),
      length-set xs i _ ∙ c.loop-i.invariant.3,
    )

pub returns : goal.returns
returns c =
    let xs = c.args.firsts.now in
    let ys = c.args.parts.now in
    let lx : length xs ≡ 20 = search rules in
    let ly : length ys ≡ 20 = search rules in
    let e : c.loop-i.amounts ≡ added xs ys = ext_get_or (pos 0) _ _ (c.loop-i.invariant.3 ∙ sym (length-added xs ys ∙ lx)) (λ k h. c.loop-i.invariant.0 k (omega arith) ∙ sym (get_or-added xs ys k (omega arith) (lx ∙ sym ly))) in
    record {
      value = e;
      sum = ap sum_z e ∙ sum_z-added xs ys (lx ∙ sym ly);
      bound = c.loop-i.invariant.2;
    }
