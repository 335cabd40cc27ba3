-- Gathering a sheet from the cells of an hour. Assumes nothing.
use Rattle.std.specs.Prelude.{ℕ, ◌+◌, ◌-◌, ◌*◌, Bool, cond, ◌&&◌, List, [], ◌++◌, map, position, option_map, length, take, replicate, ℤ, pos, is_some, is_none, Some, None, Option, int_le, nat_le, unsigned_abs}
use Rattle.refusals.specs.declared.Told.{Told}
use Rattle.std.specs.Option.{unwrap_or}
use Rattle.hourly.specs.Cells.{CellFigures}
use Rattle.hourly.specs.Records.{no_deliveries, record_figures}
use Rattle.sheet.specs.declared.row.Row.{Row}
use Rattle.sheet.specs.declared.row.SheetRefusal.{SheetRefusal}
use Rattle.sheet.specs.declared.row.SheetRefusal.TheVariants.{Parties, Day, Hour, Reading}
use Rattle.sheet.specs.declared.gathered.Gathered.{Gathered}
use Rattle.sheet.specs.Bounds.{zero_row}
use Rattle.sheet.specs.Evaluation.{HourFacts}

-- number and place of a refusal
abbrev pub told : SheetRefusal → Told
told Parties = record { number = 11; place = pos 0 }
told (Day day) = record { number = 2; place = day }
told (Hour hour) = record { number = 3; place = hour }
told (Reading hour party) = record { number = 10; place = pos (hour * 100 + party) }

-- the first party whose reading is missing; the party at place i is party i + 1
abbrev pub first_missing : List CellFigures → Option ℕ
first_missing cells = option_map (λ i. i + 1) (position (λ c. is_none c.reading) cells)

-- the refusal of an hour whose cells are known: a missing reading, the lowest party first
abbrev pub missing_reading : ℕ → Option ℕ → Option SheetRefusal
missing_reading hour None = None
missing_reading hour (Some party) = Some (Reading hour party)

-- an hour of a day
abbrev pub known_hour : ℤ → Bool
known_hour hour = int_le (pos 1) hour && int_le hour (pos 24)

-- the refusal at gathering, if any: 1 to 20 parties, an hour of 1 to 24, and no reading missing
abbrev pub gather_refusal : ℤ → List CellFigures → Option SheetRefusal
gather_refusal hour cells = cond (nat_le 1 (length cells) && nat_le (length cells) 20) (cond (known_hour hour) (missing_reading (unsigned_abs hour) (first_missing cells)) (Some (Hour hour))) (Some Parties)

-- what an evaluation reads of a cell with a reading
abbrev pub row_of : CellFigures → Row
row_of c = record { position = c.position; regulating = c.regulating; tenths = c.tenths; reading = unwrap_or c.reading (pos 0) }

-- the rows of a sheet: those of its cells, or none where a refusal was met
abbrev pub rows_gathered : ℤ → List CellFigures → List Row
rows_gathered hour cells = cond (is_some (gather_refusal hour cells)) [] (map row_of cells)

-- rows on a page of 20 places, with rows of zeros past the last
abbrev pub row_page : List Row → List Row
row_page rows = rows ++ replicate (20 - length rows) zero_row

-- what a gathered sheet knows of its hour
abbrev pub facts : Gathered → HourFacts
facts g = record { rows = take g.count g.rows; deliveries = record_figures g.deliveries }

-- what a sheet knows that met a refusal before any cell was looked at
abbrev pub no_facts : HourFacts
no_facts = record { rows = []; deliveries = no_deliveries }
