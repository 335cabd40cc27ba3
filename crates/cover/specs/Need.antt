-- A party's need (docs/RULES.md, "Cover"). Days and hours are counted from 0 here: hour 0 is the first of its day. Assumes nothing.
--
--   total f n                          f 0 + f 1 + … + f (n - 1)
--   day_tenths ps hours kwh            tenths of a day whose positions are kwh 0 to kwh (hours - 1)
--   day_counted ps hours counts kwh d  tenths of day d, which has `hours d` hours, or 0 if it does not count
--   tenths ps hours counts kwh days    tenths of the days that count; kwh d h is the position in hour h of day d
--   RoundedUp t n                      n is the least number of halers that is not less than t tenths
--   rounded_up t                       that number, computed
--   need ps hours counts kwh days      what the party needs, in halers
--
-- and for a party's cells on given days of which those count that pass a test, 24 cells for each day (`past` stands for the days past the last one, which nothing is counted over):
--
--   tenths_of, need_of counts past ps days cells                    as the positions stand
--   tenths_with, need_with counts past ps days cells start end kwh  after a trade that adds kwh at places start to end - 1
use Rattle.std.specs.Prelude.{ℕ, zero, suc, ◌+◌, ◌*◌, ◌/◌, ◌≤◌, Bool, cond, ◌&&◌, List, length, ℤ, pos, ◌+ℤ◌, ◌==◌, nat_le, nat_lt, slice_index_or, unsigned_abs}
use Rattle.hourly.specs.declared.plain.PlainCell.{PlainCell}
use Rattle.hourly.specs.Cells.{read, blank}
use Rattle.cover.specs.declared.hour.HourPrices.{HourPrices}
use Rattle.cover.specs.Prices.{exposure, prices}

abbrev pub total : (ℕ → ℕ) → ℕ → ℕ
total f zero = 0
total f (suc n) = total f n + f n

abbrev pub price_at : List HourPrices → ℕ → HourPrices
price_at ps h = slice_index_or ps h (prices 0 0)

abbrev pub day_tenths : List HourPrices → ℕ → (ℕ → ℤ) → ℕ
day_tenths ps hours kwh = total (λ h. exposure (price_at ps h) (kwh h)) hours

abbrev pub day_counted : List HourPrices → (ℕ → ℕ) → (ℕ → Bool) → (ℕ → ℕ → ℤ) → ℕ → ℕ
day_counted ps hours counts kwh d = cond (counts d) (day_tenths ps (hours d) (kwh d)) 0

abbrev pub tenths : List HourPrices → (ℕ → ℕ) → (ℕ → Bool) → (ℕ → ℕ → ℤ) → ℕ → ℕ
tenths ps hours counts kwh days = total (day_counted ps hours counts kwh) days

abbrev pub RoundedUp : ℕ → ℕ → Type 0
RoundedUp t n = (t ≤ 10 * n) × ((m : ℕ) → t ≤ 10 * m → n ≤ m)

abbrev pub rounded_up : ℕ → ℕ
rounded_up t = (t + 9) / 10

abbrev pub need : List HourPrices → (ℕ → ℕ) → (ℕ → Bool) → (ℕ → ℕ → ℤ) → ℕ → ℕ
need ps hours counts kwh days = rounded_up (tenths ps hours counts kwh days)

-- A party's row of cells, 24 for each day, hour by hour

-- there are 1 to 62 days, and 24 cells for each
abbrev pub fits : ℕ → ℕ → Bool
fits days cells = nat_le 1 days && nat_le days 62 && cells == days * 24

-- the position that a party's cells have in hour h of day d
abbrev pub position_in : List PlainCell → ℕ → ℕ → ℤ
position_in cells d h = (read (slice_index_or cells (d * 24 + h) blank)).position

-- whether day d counts
abbrev pub day_in : {D : Type 0} → (D → Bool) → D → List D → ℕ → Bool
day_in counts past days d = counts (slice_index_or days d past)

-- the tenths of the days that count, of a party's cells
abbrev pub tenths_of : {D : Type 0} → (D → Bool) → D → List HourPrices → List D → List PlainCell → ℕ
tenths_of counts past ps days cells = tenths ps (λ d. 24) (day_in counts past days) (position_in cells) (length days)

-- and the need, in halers
abbrev pub need_of : {D : Type 0} → (D → Bool) → D → List HourPrices → List D → List PlainCell → ℕ
need_of counts past ps days cells = need ps (λ d. 24) (day_in counts past days) (position_in cells) (length days)

-- A trade of kwh, a purchase if negative, for the hours at places start to end - 1 of a party's cells

-- no trade is of more than 499,000 kWh an hour
abbrev pub tradable : ℤ → Bool
tradable kwh = nat_le (unsigned_abs kwh) 499000

-- what it adds to the position at place k
abbrev pub added : ℕ → ℕ → ℤ → ℕ → ℤ
added start end kwh k = cond (nat_le start k && nat_lt k end) kwh (pos 0)

-- the position after it in hour h of day d
abbrev pub position_with : List PlainCell → ℕ → ℕ → ℤ → ℕ → ℕ → ℤ
position_with cells start end kwh d h = position_in cells d h +ℤ added start end kwh (d * 24 + h)

abbrev pub tenths_with : {D : Type 0} → (D → Bool) → D → List HourPrices → List D → List PlainCell → ℕ → ℕ → ℤ → ℕ
tenths_with counts past ps days cells start end kwh = tenths ps (λ d. 24) (day_in counts past days) (position_with cells start end kwh) (length days)

abbrev pub need_with : {D : Type 0} → (D → Bool) → D → List HourPrices → List D → List PlainCell → ℕ → ℕ → ℤ → ℕ
need_with counts past ps days cells start end kwh = need ps (λ d. 24) (day_in counts past days) (position_with cells start end kwh) (length days)
