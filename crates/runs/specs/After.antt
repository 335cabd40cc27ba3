-- What an accepted entry makes of each figure of a book, one definition for all kinds of entry. Parties, days and hours are counted from 0. Assumes nothing.
--
--   regulating_by e p d t   kWh of regulating energy that e adds to the cell of party p in hour t of day d
--   tenths_by e p d t       tenths of halers that e adds to it
--   reading_by e p d t r    its reading after e, where r was before
--   cell_after e p d t c    the cell after e, where c was before
--   brought_by e d t        kWh that e adds to the deliveries of the hour, of either direction
--   deliveries_after ..     the deliveries of the hour
--   state_after e d s       the state of day d
--   account_after e p a     the account of party p
--   After s v e w           every figure of w is that of v after e
use Rattle.std.specs.Prelude.{◌≡◌, ℕ, ◌<◌, cond, ◌&&◌, ℤ, pos, ◌+ℤ◌, ◌*ℤ◌, Some, Option, ◌==◌, unsigned_abs}
use Rattle.std.specs.Option.{unwrap_or}
use Rattle.hourly.specs.Cells.{CellFigures}
use Rattle.hourly.specs.Records.{HourFigures, delivered}
use Rattle.entries.specs.States.{after}
use Rattle.entries.specs.declared.entry.DayState.{DayState}
use Rattle.entries.specs.declared.entry.Entry.{Entry}
use Rattle.entries.specs.declared.entry.Entry.TheVariants.{Deposit, Withdraw, Register, Market, Close, Regulate, Meter, Evaluate}
use Rattle.entries.specs.declared.entry.Sizes.{Sizes}
use Rattle.book.specs.declared.account.Account.{Account}
use Rattle.book.specs.Standing.{Standing, index}
use Rattle.book.specs.Effects.{in_hours, paid, side, traded}

-- a delivery in its hour, to its party
abbrev pub regulating_by : Entry → ℕ → ℕ → ℕ → ℤ
regulating_by (Deposit party haler) p d t = pos 0
regulating_by (Withdraw party haler) p d t = pos 0
regulating_by (Register day from to seller buyer kwh) p d t = pos 0
regulating_by (Market day from to seller buyer kwh price) p d t = pos 0
regulating_by (Close day) p d t = pos 0
regulating_by (Regulate day hour party kwh price) p d t = cond (in_hours day hour hour d t) (side party kwh p) (pos 0)
regulating_by (Meter day from to party kwh) p d t = pos 0
regulating_by (Evaluate day stage) p d t = pos 0

-- and what it is worth
abbrev pub tenths_by : Entry → ℕ → ℕ → ℕ → ℤ
tenths_by (Deposit party haler) p d t = pos 0
tenths_by (Withdraw party haler) p d t = pos 0
tenths_by (Register day from to seller buyer kwh) p d t = pos 0
tenths_by (Market day from to seller buyer kwh price) p d t = pos 0
tenths_by (Close day) p d t = pos 0
tenths_by (Regulate day hour party kwh price) p d t = cond (in_hours day hour hour d t) (side party (kwh *ℤ price) p) (pos 0)
tenths_by (Meter day from to party kwh) p d t = pos 0
tenths_by (Evaluate day stage) p d t = pos 0

-- a reading replaces the one before it
abbrev pub reading_by : Entry → ℕ → ℕ → ℕ → Option ℤ → Option ℤ
reading_by (Deposit party haler) p d t r = r
reading_by (Withdraw party haler) p d t r = r
reading_by (Register day from to seller buyer kwh) p d t r = r
reading_by (Market day from to seller buyer kwh price) p d t r = r
reading_by (Close day) p d t r = r
reading_by (Regulate day hour party kwh price) p d t r = r
reading_by (Meter day from to party kwh) p d t r = cond (p == index party && in_hours day from to d t) (Some kwh) r
reading_by (Evaluate day stage) p d t r = r

abbrev pub cell_after : Entry → ℕ → ℕ → ℕ → CellFigures → CellFigures
cell_after e p d t c = record {
  position = c.position +ℤ traded e p d t;
  regulating = c.regulating +ℤ regulating_by e p d t;
  tenths = c.tenths +ℤ tenths_by e p d t;
  reading = reading_by e p d t c.reading;
  last = c.last;
}

-- the kWh of a delivery, upward or downward
abbrev pub brought_by : Entry → ℕ → ℕ → ℕ
brought_by (Deposit party haler) d t = 0
brought_by (Withdraw party haler) d t = 0
brought_by (Register day from to seller buyer kwh) d t = 0
brought_by (Market day from to seller buyer kwh price) d t = 0
brought_by (Close day) d t = 0
brought_by (Regulate day hour party kwh price) d t = cond (in_hours day hour hour d t) (unsigned_abs kwh) 0
brought_by (Meter day from to party kwh) d t = 0
brought_by (Evaluate day stage) d t = 0

-- a delivery joins those of its hour
abbrev pub deliveries_after : Entry → ℕ → ℕ → HourFigures → HourFigures
deliveries_after (Deposit party haler) d t f = f
deliveries_after (Withdraw party haler) d t f = f
deliveries_after (Register day from to seller buyer kwh) d t f = f
deliveries_after (Market day from to seller buyer kwh price) d t f = f
deliveries_after (Close day) d t f = f
deliveries_after (Regulate day hour party kwh price) d t f = cond (in_hours day hour hour d t) (delivered f kwh price) f
deliveries_after (Meter day from to party kwh) d t f = f
deliveries_after (Evaluate day stage) d t f = f

-- a close moves its day; no other entry that a book accepts moves one
abbrev pub state_after : Entry → ℕ → DayState → DayState
state_after (Deposit party haler) d s = s
state_after (Withdraw party haler) d s = s
state_after (Register day from to seller buyer kwh) d s = s
state_after (Market day from to seller buyer kwh price) d s = s
state_after (Close day) d s = cond (d == index day) (unwrap_or (after s (Close day)) s) s
state_after (Regulate day hour party kwh price) d s = s
state_after (Meter day from to party kwh) d s = s
state_after (Evaluate day stage) d s = s

-- cash moves; what is settled stays
abbrev pub account_after : Entry → ℕ → Account → Account
account_after e p a = record { cash = a.cash +ℤ paid e p; settled = a.settled }

-- the figures of the book's parties, days and hours
pub record After (s : Sizes) (v : Standing) (e : Entry) (w : Standing) : Type 0 where
  pub cell : (p d t : ℕ) → p < s.parties → d < s.days → t < 24 → w.cell p d t ≡ cell_after e p d t (v.cell p d t)
  pub deliveries : (d t : ℕ) → d < s.days → t < 24 → w.deliveries d t ≡ deliveries_after e d t (v.deliveries d t)
  pub hours : (d : ℕ) → w.hours d ≡ v.hours d
  pub state : (d : ℕ) → d < s.days → w.state d ≡ state_after e d (v.state d)
  pub account : (p : ℕ) → p < s.parties → w.account p ≡ account_after e p (v.account p)
  pub operator : w.operator ≡ v.operator
