-- What every book keeps that was opened and then given entries. Assumes nothing.
--
--   hour_kwh f     kWh of an hour's deliveries, of both directions together
--   SoundPages h   nothing on the pages is out of bounds, so that nothing reads as cleared
--   Kept h         that and what keeps it so: the sizes, and deliveries to a cell that are among those of its hour
use Rattle.std.specs.Prelude.{◌≡◌, ℕ, ◌+◌, ◌*◌, ◌<◌, ◌≤◌, true, length, slice_index_or, unsigned_abs}
use Rattle.hourly.specs.Cells.{blank, sound}
use Rattle.hourly.specs.Records.{HourFigures, no_deliveries, record_plain, record_sound}
use Rattle.book.specs.Held.{Held, account_sound, fits, no_money, standing_on}

abbrev pub hour_kwh : HourFigures → ℕ
hour_kwh f = f.upward.kwh + f.downward.kwh

-- past the end of a page stands what a new book has, which is in bounds
pub record SoundPages (h : Held) : Type 0 where
  pub cells : (k : ℕ) → sound (slice_index_or h.cells k blank) ≡ true
  pub records : (k : ℕ) → record_sound (slice_index_or h.records k (record_plain no_deliveries)) ≡ true
  pub accounts : (k : ℕ) → account_sound (slice_index_or h.accounts k no_money) ≡ true

pub record Kept (h : Held) : Type 0 where
  pub fitting : fits h ≡ true
  pub twenty : length h.accounts ≡ 20
  pub sixty_two : length h.states ≡ 62
  pub sound_pages : SoundPages h
  pub regulating : (p d t : ℕ) → p < h.sizes.parties → d < h.sizes.days → t < 24 → unsigned_abs ((standing_on h).cell p d t).regulating ≤ hour_kwh ((standing_on h).deliveries d t)
  pub tenths : (p d t : ℕ) → p < h.sizes.parties → d < h.sizes.days → t < 24 → unsigned_abs ((standing_on h).cell p d t).tenths ≤ 99999 * hour_kwh ((standing_on h).deliveries d t)
