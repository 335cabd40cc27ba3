-- One hour, evaluated (docs/RULES.md, "One hour, evaluated"), in the words of the subject. Assumes nothing.
--
--   HourFacts          what is known of an hour: a row for each party in order, and the deliveries
--   imbalance r        a party's imbalance; system_imbalance rows is the sum of all
--   prices_of f h      both prices, by the pricing map f
--   first_amounts f h  each party's first amount
--   remainder f h      N, what the first amounts leave
--   weights rows       the magnitudes of the readings, by which N is shared
--   parts f g h        each party's part of N, by the sharing map g
--   amounts f g h      each party's amount
--   operator_part f h  what the operator's line takes
use Rattle.std.specs.Prelude.{ℕ, cond, List, [], ◌∷◌, map, length, replicate, ℤ, pos, ◌+ℤ◌, ◌-ℤ◌, ◌*ℤ◌, neg_ℤ, int_lt, nat_lt, unsigned_abs}
use Rattle.units.specs.Rounding.{rounded}
use Rattle.units.specs.Sums.{sum_n, sum_z}
use Rattle.hourly.specs.Records.{HourFigures}
use Rattle.pricing.specs.Prices.{PriceMap}
use Rattle.pricing.specs.declared.prices.Prices.{Prices}
use Rattle.sheet.specs.declared.row.Row.{Row}

-- what is known of an hour
pub record HourFacts : Type 0 where
  pub rows : List Row
  pub deliveries : HourFigures

-- Step 1

-- a party's imbalance: reading − position − regulating kWh
abbrev pub imbalance : Row → ℤ
imbalance r = (r.reading -ℤ r.position) -ℤ r.regulating

-- the system imbalance: the sum over all parties
abbrev pub system_imbalance : List Row → ℤ
system_imbalance rows = sum_z (map imbalance rows)

-- Steps 2 and 3

-- the prices of an hour
abbrev pub prices_of : PriceMap → HourFacts → Prices
prices_of f h = f (system_imbalance h.rows) h.deliveries

-- the price of an imbalance: long, or short if it is negative
abbrev pub price_for : Prices → ℤ → ℤ
price_for p kwh = cond (int_lt kwh (pos 0)) p.short p.long

-- a party's tenths: its imbalance at its price, and its regulating tenths
abbrev pub tenths_of : Prices → Row → ℤ
tenths_of p r = imbalance r *ℤ price_for p (imbalance r) +ℤ r.tenths

-- a party's first amount: its tenths, in halers
abbrev pub first_amount : Prices → Row → ℤ
first_amount p r = rounded (tenths_of p r)

abbrev pub first_amounts : PriceMap → HourFacts → List ℤ
first_amounts f h = map (first_amount (prices_of f h)) h.rows

-- Step 4

-- the remainder N: minus the sum of the first amounts
abbrev pub remainder : PriceMap → HourFacts → ℤ
remainder f h = neg_ℤ (sum_z (first_amounts f h))

-- a party's weight: the magnitude of its reading
abbrev pub weight : Row → ℕ
weight r = unsigned_abs r.reading

abbrev pub weights : List Row → List ℕ
weights rows = map weight rows

-- Step 5

-- a map from a remainder and weights to parts
abbrev pub ShareMap : Type 0
ShareMap = ℤ → List ℕ → List ℤ

-- the parts of a remainder over weights: by the map if any party has a weight, else all 0
abbrev pub parts_by : ShareMap → ℤ → List ℕ → List ℤ
parts_by g n ws = cond (nat_lt 0 (sum_n ws)) (g n ws) (replicate (length ws) (pos 0))

-- the operator's part of a remainder: all of it if no party has a weight
abbrev pub operator_by : ℤ → List ℕ → ℤ
operator_by n ws = cond (nat_lt 0 (sum_n ws)) (pos 0) n

-- one list added to another, place by place
abbrev pub added : List ℤ → List ℤ → List ℤ
added [] ys = []
added (x ∷ xs) [] = x ∷ xs
added (x ∷ xs) (y ∷ ys) = (x +ℤ y) ∷ added xs ys

abbrev pub parts : PriceMap → ShareMap → HourFacts → List ℤ
parts f g h = parts_by g (remainder f h) (weights h.rows)

-- a party's amount: its first amount and its part
abbrev pub amounts : PriceMap → ShareMap → HourFacts → List ℤ
amounts f g h = added (first_amounts f h) (parts f g h)

abbrev pub operator_part : PriceMap → HourFacts → ℤ
operator_part f h = operator_by (remainder f h) (weights h.rows)
