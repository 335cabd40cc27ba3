-- The sheet of an hour of a book. Assumes nothing.
--
--   hour_cells m v day hour           the cells of the hour, one for each party in order
--   hour_gather_refusal m h day hour  the refusal that gathering its sheet meets, if any
--   gathered_facts m h day hour       what the sheet knows
use Rattle.std.specs.Prelude.{ℕ, zero, suc, cond, List, [], ◌∷◌, ◌++◌, ℤ, Some, None, Option}
use Rattle.hourly.specs.Cells.{CellFigures}
use Rattle.hourly.specs.Records.{HourFigures}
use Rattle.sheet.specs.declared.row.SheetRefusal.{SheetRefusal}
use Rattle.sheet.specs.declared.row.SheetRefusal.TheVariants.{Parties, Day, Hour}
use Rattle.sheet.specs.Evaluation.{HourFacts}
use Rattle.sheet.specs.Gathering.{gather_refusal, no_facts}
use Rattle.sheet.specs.Sheets.{hour_facts}
use Rattle.entries.specs.Fields.{between}
use Rattle.book.specs.Standing.{Standing, Terms, index}
use Rattle.book.specs.Held.{Held, fits, standing_on}

-- the cells of an hour, one for each party in order
abbrev pub listed : ℕ → (ℕ → CellFigures) → List CellFigures
listed zero f = []
listed (suc n) f = listed n f ++ f n ∷ []

abbrev pub hour_cells : Terms → Standing → ℤ → ℤ → List CellFigures
hour_cells m v day hour = listed m.sizes.parties (λ p. v.cell p (index day) (index hour))

-- a day or an hour that the book does not have: 2, then 3; 11 where the pages do not fit
abbrev pub unknown_hour : Terms → Held → ℤ → ℤ → Option SheetRefusal
unknown_hour m h day hour = cond (fits h) (cond (between 1 m.sizes.days day) (cond (between 1 24 hour) None (Some (Hour hour))) (Some (Day day))) (Some Parties)

-- the refusal that gathering a sheet meets, if any: one of these, or 10, the lowest party first
abbrev pub sheet_refusal : Option SheetRefusal → ℤ → List CellFigures → Option SheetRefusal
sheet_refusal (Some r) hour cells = Some r
sheet_refusal None hour cells = gather_refusal hour cells

-- and what the sheet knows
abbrev pub sheet_facts : Option SheetRefusal → ℤ → List CellFigures → HourFigures → HourFacts
sheet_facts (Some r) hour cells d = no_facts
sheet_facts None hour cells d = hour_facts hour cells d

abbrev pub hour_gather_refusal : Terms → Held → ℤ → ℤ → Option SheetRefusal
hour_gather_refusal m h day hour = sheet_refusal (unknown_hour m h day hour) hour (hour_cells m (standing_on h) day hour)

abbrev pub gathered_facts : Terms → Held → ℤ → ℤ → HourFacts
gathered_facts m h day hour = sheet_facts (unknown_hour m h day hour) hour (hour_cells m (standing_on h) day hour) ((standing_on h).deliveries (index day) (index hour))
