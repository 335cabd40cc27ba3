-- What a book holds, and how its figures are read off it. Assumes nothing.
--
--   Held             the pages as lists and what is kept beside them, without references
--   fits h           the sizes are in range, and every page has its size
--   cell_at h p d t  where on the page of cells the hour t of day d of party p lies
--   standing_on h    the figures that the book says
use Rattle.std.specs.Prelude.{◌≡◌, ℕ, ◌+◌, ◌*◌, ◌≤◌, Bool, cond, ◌&&◌, List, length, ℤ, pos, ◌==◌, nat_le, slice_index_or}
use Rattle.hourly.specs.declared.plain.PlainCell.{PlainCell}
use Rattle.hourly.specs.declared.plain.PlainRecord.{PlainRecord}
use Rattle.hourly.specs.Bounds.{within}
use Rattle.hourly.specs.Cells.{blank, read}
use Rattle.hourly.specs.Records.{no_deliveries, record_plain, record_read}
use Rattle.entries.specs.declared.entry.DayState.{DayState}
use Rattle.entries.specs.declared.entry.DayState.TheVariants.{Open}
use Rattle.entries.specs.declared.entry.Sizes.{Sizes}
use Rattle.book.specs.declared.account.Account.{Account}
use Rattle.book.specs.Standing.{Standing}

pub record Held : Type 0 where
  pub sizes : Sizes
  pub cells : List PlainCell
  pub records : List PlainRecord
  pub accounts : List Account
  pub states : List DayState
  pub operator : ℤ

-- 1 to 20 parties, 1 to 62 days
abbrev pub sized : Sizes → Bool
sized s = nat_le 1 s.parties && nat_le s.parties 20 && (nat_le 1 s.days && nat_le s.days 62)

-- every page has its size
abbrev pub paged : Sizes → ℕ → ℕ → Bool
paged s cells records = cells == s.parties * s.days * 24 && records == s.days * 24

abbrev pub fits : Held → Bool
fits h = sized h.sizes && paged h.sizes (length h.cells) (length h.records)

-- the same, as facts
abbrev pub Sized : Sizes → Type 0
Sized s = (1 ≤ s.parties) × (s.parties ≤ 20) × (1 ≤ s.days) × (s.days ≤ 62)

abbrev pub Laid : Sizes → ℕ → ℕ → Type 0
Laid s cells records = Sized s × (cells ≡ s.parties * s.days * 24) × (records ≡ s.days * 24)

abbrev pub Fits : Held → Type 0
Fits h = Laid h.sizes (length h.cells) (length h.records)

-- the row of a party on a day: its hours lie side by side
abbrev pub row_at : Sizes → ℕ → ℕ → ℕ
row_at s p d = (p * s.days + d) * 24

abbrev pub cell_at : Sizes → ℕ → ℕ → ℕ → ℕ
cell_at s p d t = row_at s p d + t

-- where on the page of records an hour lies
abbrev pub record_at : ℕ → ℕ → ℕ
record_at d t = d * 24 + t

abbrev pub no_money : Account
no_money = record { cash = pos 0; settled = pos 0 }

-- cash is within 10^17, and settled within what 62 days of 24 hours can settle
abbrev pub account_sound : Account → Bool
account_sound a = within 100000000000000000 a.cash && within 937440000000000 a.settled

-- an account is read as a cell is: numbers out of bounds, which no opened book has, count as 0
abbrev pub account_read : Account → Account
account_read a = cond (account_sound a) a no_money

-- the figures that a book says, each read through its check
abbrev pub standing_on : Held → Standing
standing_on h = record {
  cell = λ p d t. read (slice_index_or h.cells (cell_at h.sizes p d t) blank);
  deliveries = λ d t. record_read (slice_index_or h.records (record_at d t) (record_plain no_deliveries));
  hours = λ d. 24;
  state = λ d. slice_index_or h.states d Open;
  account = λ p. account_read (slice_index_or h.accounts p no_money);
  operator = h.operator;
}
