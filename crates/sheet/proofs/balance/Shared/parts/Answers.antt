use Rattle.std.proofs.Common.{◌≡◌, ◌≤◌, false, ltb, length, replicate, take, ℤ, pos, sym, ap, ◌∙◌, arith, length-take, nat_abs, w64, to_z, of_z, rules}
use lib.ListN.{length-map}
use lib.Signed.{lt_z}
use Rattle.std.proofs.lemmas.Bool.{cond-false}
use Rattle.units.specs.Sums.{page, sum_n}
use Rattle.sharing.specs.Limits.{magnitudes}
use Rattle.sheet.specs.Evaluation.{parts_by}
use Rattle.sheet.proofs.Splitting.{divides, zero_page}
use Rattle.sheet.proofs.balance.Shared.parts.Goals as goal

pub returns-in-Ok : goal.returns-in-Ok
returns-in-Ok g c =
    let s = c.args.self.now in
    let f = g.S.Sharing.map c.args.rule.now in
    let ws = magnitudes (take s.count s.weights) in
    let few : length ws ≤ 20 = omega (arith, length-map (take s.count s.weights) nat_abs, length-take s.count s.weights, s.few) in
    let v : c.share.new.parts ≡ page (parts_by f s.remainder ws) = search rules in
    let d = divides f (g.met.S.Sharing.lawful c.args.rule.now) s.remainder ws 600000000000 c.share.new.parts s.bound few v in
    record { value = v; whole = d.whole; within = d.within }

pub returns-else-self-gt0 : goal.returns-else-self-gt0
returns-else-self-gt0 g c =
    let s = c.args.self.now in
    let f = g.S.Sharing.map c.args.rule.now in
    let ws = magnitudes (take s.count s.weights) in
    let few : length ws ≤ 20 = omega (arith, length-map (take s.count s.weights) nat_abs, length-take s.count s.weights, s.few) in
    let z : to_z w64 (of_z w64 s.weight) ≡ s.weight = search rules in
    let t : ltb 0 (sum_n ws) ≡ false = sym (ap (λ (x : ℤ). lt_z (pos 0) x) (z ∙ s.total)) ∙ c.if-self-gt0.false in
    let v : replicate 20 (pos 0) ≡ page (parts_by f s.remainder ws) = sym (ap page (cond-false (ltb 0 (sum_n ws)) _ _ t) ∙ zero_page (length ws) few) in
    let d = divides f (g.met.S.Sharing.lawful c.args.rule.now) s.remainder ws 600000000000 (replicate 20 (pos 0)) s.bound few v in
    record { value = v; whole = d.whole; within = d.within }
