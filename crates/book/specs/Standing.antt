-- The figures of a book, whoever gives them, and what its opener fixed. Parties, days and hours are counted from 0 here: party 0 is the first. Assumes nothing.
--
--   Terms        what stays for the life of a book
--   terms s f g  those of a book of the sizes s, the pricing map f and the sharing map g
--   Standing     what stands at one moment
--   index z      where the party, day or hour of the number z is counted
--   hours f t    how many hours the range from f to t has
use Rattle.std.specs.Prelude.{ℕ, ◌+◌, ◌-◌, List, ℤ, unsigned_abs}
use Rattle.hourly.specs.Cells.{CellFigures}
use Rattle.hourly.specs.Records.{HourFigures}
use Rattle.pricing.specs.Prices.{PriceMap}
use Rattle.sheet.specs.Evaluation.{ShareMap}
use Rattle.cover.specs.Prices.{in_use}
use Rattle.cover.specs.declared.hour.HourPrices.{HourPrices}
use Rattle.entries.specs.declared.entry.DayState.{DayState}
use Rattle.entries.specs.declared.entry.Sizes.{Sizes}
use Rattle.book.specs.declared.account.Account.{Account}

-- what an opener fixes for good: how many parties and days, the maps of both rules, and the parametric prices
pub record Terms : Type 0 where
  pub sizes : Sizes
  pub pricing : PriceMap
  pub sharing : ShareMap
  pub table : List HourPrices

-- the terms of a book whose parametric prices are those in use
abbrev pub terms : Sizes → PriceMap → ShareMap → Terms
terms sizes pricing sharing = record { sizes = sizes; pricing = pricing; sharing = sharing; table = in_use }

-- what stands: each party's cell in each hour of each day, each hour's regulating deliveries, each day's length and state, each party's account, and the operator's line
pub record Standing : Type 0 where
  pub cell : ℕ → ℕ → ℕ → CellFigures
  pub deliveries : ℕ → ℕ → HourFigures
  pub hours : ℕ → ℕ
  pub state : ℕ → DayState
  pub account : ℕ → Account
  pub operator : ℤ

-- number 1 is counted as 0
abbrev pub index : ℤ → ℕ
index z = unsigned_abs z - 1

-- the hours of a range, both ends included
abbrev pub hours : ℤ → ℤ → ℕ
hours from to = unsigned_abs to + 1 - unsigned_abs from
