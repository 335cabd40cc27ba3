use Rattle.std.proofs.Common.{◌≡◌, ◌≤◌, ℕ, List, map, length, take, ℤ, pos, ◌-ℤ◌, nat_abs, sym, ap, ◌∙◌, subst, arith, length-take, w64, to_z, of_z, rules}
use lib.ListN.{length-map}
use Rattle.std.proofs.lemmas.Int.{ints}
use Rattle.units.specs.Sums.{page, sum_n, sum_z}
use Rattle.sharing.specs.Limits.{magnitudes, refusal}
use Rattle.sharing.proofs.Ranges.{magnitudes_pos}
use Rattle.sheet.specs.Bounds.{Within}
use Rattle.sheet.specs.Evaluation.{weight, weights}
use Rattle.sheet.specs.Gathering.{facts}
use Rattle.sheet.proofs.Splitting.{admitted, signed-weights, sum_z_pos, weights_taken}
use Rattle.sheet.proofs.priced.Priced.to_share.Goals as goal

pub invariant_of-result : goal.invariant_of-result
invariant_of-result c =
    let s = c.args.self.now.gathered in
    let rows = (facts s).rows in
    let ws = weights rows in
    let twenty : length s.rows ≡ 20 = search rules in
    let len : length ws ≡ s.count = omega (arith, length-map rows weight, length-take s.count s.rows, s.few) in
    let figs : c.totalled-total.result.figures ≡ page (map pos ws) = c.totalled-total.ensures.figures ∙ ap page (signed-weights rows) in
    let xs : take s.count c.totalled-total.result.figures ≡ map pos ws = ap (take s.count) figs ∙ weights_taken ws s.count len in
    let b = c.sum.ensures.bound 30000000000 c.args.self.now.modest in
    let n = to_z w64 (of_z w64 (pos 0 -ℤ to_z w64 (of_z w64 c.sum.result))) in
    let bound : nat_abs n ≤ 600000000000 = omega (arith, ints) in
    let z : to_z w64 (of_z w64 c.totalled-total.result.total) ≡ c.totalled-total.result.total = search rules in
    record {
      few = s.few;
      bound = bound;
      taken = ap (refusal n) xs ∙ admitted n ws bound (omega arith) (subst (Within 499999) figs c.totalled-total.ensures.each);
      total = z ∙ c.totalled-total.ensures.total ∙ ap sum_z (signed-weights rows) ∙ sum_z_pos ws ∙ ap (λ (us : List ℕ). pos (sum_n us)) (sym (ap magnitudes xs ∙ magnitudes_pos ws));
    }

pub returns-clause-weights : goal.returns-clause-weights
returns-clause-weights c =
    let s = c.args.self.now.gathered in
    let rows = (facts s).rows in
    let ws = weights rows in
    let twenty : length s.rows ≡ 20 = search rules in
    let len : length ws ≡ s.count = omega (arith, length-map rows weight, length-take s.count s.rows, s.few) in
    ap (λ (xs : List ℤ). magnitudes (take s.count xs)) (c.totalled-total.ensures.figures ∙ ap page (signed-weights rows)) ∙ ap magnitudes (weights_taken ws s.count len) ∙ magnitudes_pos ws
