-- What an entry does to the cells of a row. Assumes nothing.
--
--   relaid f p            the plain cell p with its figures changed by f
--   shifted kwh c         kWh more on the position
--   metered kwh c         a reading in place of whatever was there
--   regulated kwh price c one more regulating delivery
use Rattle.std.specs.Prelude.{ℤ, ◌+ℤ◌, ◌*ℤ◌, Some}
use Rattle.hourly.specs.declared.plain.PlainCell.{PlainCell}
use Rattle.hourly.specs.Cells.{CellFigures, plain, read}

-- a cell changed: its figures are read, changed, and laid down again
abbrev pub relaid : (CellFigures → CellFigures) → PlainCell → PlainCell
relaid f p = plain (f (read p))

-- a position moves
abbrev pub shifted : ℤ → CellFigures → CellFigures
shifted kwh c = record { position = c.position +ℤ kwh; regulating = c.regulating; tenths = c.tenths; reading = c.reading; last = c.last }

-- a reading is set
abbrev pub metered : ℤ → CellFigures → CellFigures
metered kwh c = record { position = c.position; regulating = c.regulating; tenths = c.tenths; reading = Some kwh; last = c.last }

-- a delivery is added, in kWh and in tenths
abbrev pub regulated : ℤ → ℤ → CellFigures → CellFigures
regulated kwh price c = record { position = c.position; regulating = c.regulating +ℤ kwh; tenths = c.tenths +ℤ kwh *ℤ price; reading = c.reading; last = c.last }
