use Rattle.std.proofs.Common.{◌≡◌, ◌+◌, ◌≤◌, true, ℤ, pos, ◌+ℤ◌, ◌*ℤ◌, nat_abs, Some, sym, ap, ◌∙◌, ap₂, subst, arith, w64, to_z, of_z, rules}
use Rattle.units.proofs.Integers.{sum-read}
use Rattle.hourly.specs.Bounds.{deliveries_ok}
use Rattle.hourly.specs.Records.{extreme_of}
use Rattle.hourly.proofs.Delivering.{delivered_ok, total_small}
use Rattle.hourly.proofs.deliveries.Deliveries.with_delivery.Goals as goal

pub invariant_of-result : goal.invariant_of-result
invariant_of-result g c =
    let up = g.D.Direction.upward in
    let d = c.args.self.now in
    let k = c.args.kwh in
    let p = c.args.price in
    let t = c.delivery_tenths.result in
    let e = c.extreme_after.result in
    let small = total_small up d.kwh d.total d.extreme d.sound in
    let b : nat_abs t ≤ 49999400001 = c.delivery_tenths.ensures.bound in
    let tv : t ≡ pos k *ℤ p = search rules in
    let ev : extreme_of up d.extreme p ≡ to_z w64 (of_z w64 e) = search rules in
    let s : to_z w64 (of_z w64 (to_z w64 (of_z w64 d.total) +ℤ to_z w64 (of_z w64 t))) ≡ d.total +ℤ t = sum-read d.total t (omega arith) (omega arith) in
    let v : d.total +ℤ pos k *ℤ p ≡ to_z w64 (of_z w64 (to_z w64 (of_z w64 d.total) +ℤ to_z w64 (of_z w64 t))) = sym (s ∙ ap (λ (x : ℤ). d.total +ℤ x) tv) in
    let ok = delivered_ok up d.kwh d.total d.extreme k p d.sound c.requires.price c.requires.some c.requires.room in
    record { sound = subst (λ (x : ℤ). deliveries_ok up (d.kwh + k) x (Some (to_z w64 (of_z w64 e))) ≡ true) v (subst (λ (m : ℤ). deliveries_ok up (d.kwh + k) (d.total +ℤ pos k *ℤ p) (Some m) ≡ true) ev ok) }

pub returns : goal.returns
returns g c =
    let up = g.D.Direction.upward in
    let d = c.args.self.now in
    let k = c.args.kwh in
    let p = c.args.price in
    let t = c.delivery_tenths.result in
    let e = c.extreme_after.result in
    let small = total_small up d.kwh d.total d.extreme d.sound in
    let b : nat_abs t ≤ 49999400001 = c.delivery_tenths.ensures.bound in
    let tv : t ≡ pos k *ℤ p = search rules in
    let ev : to_z w64 (of_z w64 e) ≡ extreme_of up d.extreme p = search rules in
    let s : to_z w64 (of_z w64 (to_z w64 (of_z w64 d.total) +ℤ to_z w64 (of_z w64 t))) ≡ d.total +ℤ t = sum-read d.total t (omega arith) (omega arith) in
    ap₂ (λ (x m : ℤ). record { kwh = d.kwh + k; total = x; extreme = Some m }) (s ∙ ap (λ (x : ℤ). d.total +ℤ x) tv) ev
