-- Parametric prices (docs/RULES.md, "Cover"): the table in use, the range of a price, and what one hour's position exposes a party to. Assumes nothing.
--
--   in_use          the table of the rules
--   in_range ps     no price of a table is above 99,999
--   exposure p kwh  tenths that a position of an hour counts at that hour's prices
use Rattle.std.specs.Prelude.{ℕ, ◌+◌, ◌*◌, Bool, ◌&&◌, List, ◌++◌, replicate, ℤ, pos, negsuc, nat_le}
use Rattle.std.specs.List.{list_all}
use Rattle.cover.specs.declared.hour.HourPrices.{HourPrices}

abbrev pub prices : ℕ → ℕ → HourPrices
prices short long = record { short = short; long = long }

-- hours 1 to 6, 7 and 8, 9 to 20, 21 to 24
abbrev pub in_use : List HourPrices
in_use = replicate 6 (prices 2400 600) ++ replicate 2 (prices 3600 700) ++ replicate 12 (prices 4500 900) ++ replicate 4 (prices 3000 700)

-- both prices of an hour are 0 to 99,999
abbrev pub pair_in_range : HourPrices → Bool
pair_in_range p = nat_le p.short 99999 && nat_le p.long 99999

-- those of every hour are
abbrev pub in_range : List HourPrices → Bool
in_range ps = list_all pair_in_range ps

-- energy sold, a positive position, counts at the short price; energy bought, the magnitude of a negative one, at the long price
abbrev pub exposure : HourPrices → ℤ → ℕ
exposure p (pos kwh) = kwh * p.short
exposure p (negsuc n) = (n + 1) * p.long
