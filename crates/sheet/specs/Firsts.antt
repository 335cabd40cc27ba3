-- A first amount is small. Assumes nothing.
use Rattle.std.specs.Prelude.{◌≤◌, ℤ, pos, ◌*ℤ◌, int_lt, unsigned_abs}
use Rattle.std.proofs.Common.{arith}
use Rattle.std.proofs.lemmas.Int.{ints}
use Rattle.std.proofs.lemmas.Bool.{cond_both}
use Rattle.units.proofs.Integers.{product_within, sum-within}
use Rattle.units.proofs.Nearby.{nearest_small}
use Rattle.pricing.specs.declared.prices.Prices.{Prices}
use Rattle.pricing.specs.Prices.{Bounded}
use Rattle.sheet.specs.Bounds.{RowFigures, RowWithin}
use Rattle.sheet.specs.Evaluation.{imbalance, price_for, tenths_of, first_amount}

pub price_small : (p : Prices) (kwh : ℤ) → Bounded p → unsigned_abs (price_for p kwh) ≤ 99999
price_small p kwh b = cond_both (int_lt kwh (pos 0)) p.short p.long (λ (z : ℤ). unsigned_abs z ≤ 99999) (λ _. b.1) (λ _. b.0)

-- an imbalance at its price
pub priced_small : (p : Prices) (kwh : ℤ) → Bounded p → unsigned_abs kwh ≤ 1999996 → unsigned_abs (kwh *ℤ price_for p kwh) ≤ 199997600004
priced_small p kwh b h = product_within kwh (price_for p kwh) 1999996 99999 h (price_small p kwh b)

imbalance_small : (r : RowFigures) → RowWithin r → unsigned_abs (imbalance r) ≤ 1999996
imbalance_small r w = omega (arith, ints)

pub tenths_small : (p : Prices) (r : RowFigures) → Bounded p → RowWithin r → unsigned_abs (tenths_of p r) ≤ 299996400006
tenths_small p r b w = omega (arith, sum-within (imbalance r *ℤ price_for p (imbalance r)) r.tenths, priced_small p (imbalance r) b (imbalance_small r w))

pub first_small : (p : Prices) (r : RowFigures) → Bounded p → RowWithin r → unsigned_abs (first_amount p r) ≤ 30000000000
first_small p r b w = nearest_small (tenths_of p r) 10 30000000000 (omega arith) (omega (arith, tenths_small p r b w))
