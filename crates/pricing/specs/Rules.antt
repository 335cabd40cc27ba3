-- The two pricing rules in use (docs/RULES.md, "Pricing rules"). Assumes nothing.
use Rattle.std.specs.Prelude.{ℕ, cond, ℤ, pos, neg_ℤ, Some, None, Option, int_le, int_lt, nat_le, unsigned_abs}
use Rattle.units.specs.Rounding.{nearest}
use Rattle.hourly.specs.Records.{DirectionFigures, HourFigures}
use Rattle.pricing.specs.declared.prices.Prices.{Prices}

-- one price both ways
abbrev pub both : ℤ → Prices
both p = record { long = p; short = p }

-- the ladder's rung by the magnitude of the system imbalance
abbrev pub rung : ℕ → ℤ → ℤ → ℤ → ℤ → ℤ
rung n a b c d = cond (nat_le n 50000) a (cond (nat_le n 200000) b (cond (nat_le n 500000) c d))

-- the ladder: dearer the more the system lacks, cheaper the more it has
abbrev pub ladder : ℤ → HourFigures → Prices
ladder si h = both (cond (int_le si (pos 0)) (rung (unsigned_abs si) (pos 3000) (pos 4500) (pos 6000) (pos 9000)) (rung (unsigned_abs si) (pos 1200) (pos 600) (pos 0) (neg_ℤ (pos 500))))

-- the prices of a direction: the default if there was no delivery; else the extreme price is the main one, the average one goes to the side that helps the system, and at system imbalance 0 both are the main one
abbrev pub by_deliveries : ℤ → ℤ → ℕ → ℤ → Option ℤ → Prices
by_deliveries default si kwh total None = both default
by_deliveries default si kwh total (Some main) = cond (int_lt si (pos 0)) (record { long = nearest total kwh; short = main }) (cond (int_lt (pos 0) si) (record { long = main; short = nearest total kwh }) (both main))

-- the direction that the system imbalance asks for: upward unless the system has too much
abbrev pub asked : ℤ → HourFigures → DirectionFigures
asked si h = cond (int_le si (pos 0)) h.upward h.downward

-- the regulating rule, with its default price
abbrev pub regulating : ℤ → ℤ → HourFigures → Prices
regulating default si h = by_deliveries default si (asked si h).kwh (asked si h).total (asked si h).extreme
