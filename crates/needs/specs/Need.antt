-- A party's need on days in given states (docs/RULES.md, "Cover"): cover's, where a day counts by its state. Assumes nothing.
--
--   counted s      a day in the state s counts
--   Needs t r      an answer r, if there is one, is what t tenths need
--
-- and for a party's cells on days in given states, 24 cells for each day:
--
--   tenths_of, need_of ps states cells                    as the positions stand
--   tenths_with, need_with ps states cells start end kwh  after a trade that adds kwh at places start to end - 1
use Rattle.std.specs.Prelude.{ℕ, Bool, List, ℤ, pos, negsuc, Some, None, Option}
use Rattle.entries.specs.declared.entry.DayState.{DayState}
use Rattle.entries.specs.declared.entry.DayState.TheVariants.{Open}
use Rattle.hourly.specs.declared.plain.PlainCell.{PlainCell}
use Rattle.cover.specs.declared.hour.HourPrices.{HourPrices}
use Rattle.cover.specs.Need as cover
use Rattle.cover.specs.Need.{RoundedUp}
-- what hangs on no state, and which states count
pub use Rattle.cover.specs.Days.{counted}
pub use Rattle.cover.specs.Need.{day_tenths, day_counted, tenths, need, tradable, added, position_with}

-- no answer, or the least number of halers not less than t tenths
abbrev pub Needs : ℕ → Option ℤ → Type 0
Needs t None = Unit {0}
Needs t (Some (pos n)) = RoundedUp t n
Needs t (Some (negsuc n)) = ⊥

-- whether day d counts
abbrev pub day_in : List DayState → ℕ → Bool
day_in = cover.day_in counted Open

abbrev pub tenths_of : List HourPrices → List DayState → List PlainCell → ℕ
tenths_of = cover.tenths_of counted Open

abbrev pub need_of : List HourPrices → List DayState → List PlainCell → ℕ
need_of = cover.need_of counted Open

abbrev pub tenths_with : List HourPrices → List DayState → List PlainCell → ℕ → ℕ → ℤ → ℕ
tenths_with = cover.tenths_with counted Open

abbrev pub need_with : List HourPrices → List DayState → List PlainCell → ℕ → ℕ → ℤ → ℕ
need_with = cover.need_with counted Open
