-- What a pricing rule is: a map from system imbalance and hour record to prices, its law, and how it answers. Assumes nothing.
use Rattle.std.specs.Prelude.{◌≡◌, ◌≤◌, true, cond, ℤ, Ok, Err, Result, nat_le, unsigned_abs}
use Rattle.refusals.specs.declared.Told.{Told}
use Rattle.hourly.specs.Records.{HourFigures, in_bounds}
use Rattle.pricing.specs.declared.prices.Prices.{Prices}
use Rattle.pricing.specs.declared.prices.PricingRefusal.{PricingRefusal}
use Rattle.pricing.specs.declared.prices.PricingRefusal.TheVariants.{SystemImbalance}

-- a map from the system imbalance and the hour's deliveries to both prices
abbrev pub PriceMap : Type 0
PriceMap = ℤ → HourFigures → Prices

-- both prices lie within ±99,999
abbrev pub Bounded : Prices → Type 0
Bounded p = (unsigned_abs p.long ≤ 99999) × (unsigned_abs p.short ≤ 99999)

-- the law: on every hour record that can exist the prices are bounded
abbrev pub PricedWithin : PriceMap → Type 0
PricedWithin f = (si : ℤ) (h : HourFigures) → in_bounds h ≡ true → Bounded (f si h)

-- the answer by a map: a system imbalance beyond ±10,000,000,000 is refused, and nothing else is
abbrev pub answered : PriceMap → ℤ → HourFigures → Result Prices PricingRefusal
answered f si h = cond (nat_le (unsigned_abs si) 10000000000) (Ok (f si h)) (Err (SystemImbalance si))

-- number and place of a refusal
abbrev pub told : PricingRefusal → Told
told (SystemImbalance kwh) = record { number = 4; place = kwh }
