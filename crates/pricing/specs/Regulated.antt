-- The regulating rule keeps the law: its prices lie within ±99,999. Assumes nothing.
use Rattle.std.specs.Prelude.{◌≡◌, ℕ, ◌≤◌, Bool, true, false, ℤ, pos, Some, None, Option, int_le, int_lt, unsigned_abs}
use Rattle.std.proofs.Common.{arith}
use Rattle.std.proofs.lemmas.Bool.{and_parts, cond_both, leb-true}
use Rattle.units.specs.Rounding.{nearest}
use Rattle.units.proofs.Nearby.{nearest_small}
use Rattle.hourly.specs.Bounds.{deliveries_ok}
use Rattle.hourly.specs.Records.{DirectionFigures}
use Rattle.pricing.specs.Prices.{Bounded, PricedWithin}
use Rattle.pricing.specs.Rules.{by_deliveries, regulating}

by_deliveries_bounded : (default si : ℤ) (up : Bool) (kwh : ℕ) (total : ℤ) (o : Option ℤ) → unsigned_abs default ≤ 99999 → deliveries_ok up kwh total o ≡ true → Bounded (by_deliveries default si kwh total o)
by_deliveries_bounded default si up kwh total None hd ok = (hd, hd)
by_deliveries_bounded default si up kwh total (Some main) hd ok =
    let a = and_parts _ _ ok in
    let b = and_parts _ _ a.0 in
    let c = and_parts _ _ b.0 in
    let d = and_parts _ _ c.0 in
    let some : 1 ≤ kwh = leb-true _ _ d.0 in
    let hm : unsigned_abs main ≤ 99999 = leb-true _ _ c.1 in
    let ha : unsigned_abs (nearest total kwh) ≤ 99999 = nearest_small total kwh 99999 (omega arith) (leb-true _ _ b.1) in
    cond_both (int_lt si (pos 0)) _ _ Bounded (λ _. (ha, hm)) (λ _. cond_both (int_lt (pos 0) si) _ _ Bounded (λ _. (hm, ha)) (λ _. (hm, hm)))

pub regulating_bounded : (default : ℤ) → unsigned_abs default ≤ 99999 → PricedWithin (regulating default)
regulating_bounded default hd si h ok =
    let s = and_parts _ _ ok in
    cond_both (int_le si (pos 0)) h.upward h.downward (λ (d : DirectionFigures). Bounded (by_deliveries default si d.kwh d.total d.extreme))
    (λ _. by_deliveries_bounded default si true h.upward.kwh h.upward.total h.upward.extreme hd s.0)
    (λ _. by_deliveries_bounded default si false h.downward.kwh h.downward.total h.downward.extreme hd s.1)
