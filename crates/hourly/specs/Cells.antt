-- Cells, and the plain numbers that they lie as. Assumes nothing.
--
--   figures c   what a cell says, without the proofs that it is in bounds
--   sound p     plain numbers are those of some cell
--   read p      the cell that they stand for: the cleared one if they are not sound
--   plain f     figures laid down as plain numbers
use Rattle.std.specs.Prelude.{Bool, cond, ◌&&◌, ℤ, pos, is_some, Some, None, Option}
use Rattle.std.specs.Option.{unwrap_or}
use Rattle.hourly.specs.declared.cell.Cell.{Cell}
use Rattle.hourly.specs.declared.plain.PlainCell.{PlainCell}
use Rattle.hourly.specs.Bounds.{within}

-- what a cell says
pub record CellFigures : Type 0 where
  pub position : ℤ
  pub regulating : ℤ
  pub tenths : ℤ
  pub reading : Option ℤ
  pub last : ℤ

abbrev pub figures : Cell → CellFigures
figures c = record { position = c.position; regulating = c.regulating; tenths = c.tenths; reading = c.reading; last = c.last }

-- a new book's cell
abbrev pub cleared : CellFigures
cleared = record { position = pos 0; regulating = pos 0; tenths = pos 0; reading = None; last = pos 0 }

-- plain numbers are within the bounds, and where there is no reading its number is 0
abbrev pub sound : PlainCell → Bool
sound p = within 499999 p.position && within 999998 p.regulating && within 99998800002 p.tenths && within (cond p.metered 499999 0) p.reading && within 630000000000 p.last

-- the figures of sound numbers
abbrev pub given : PlainCell → CellFigures
given p = record { position = p.position; regulating = p.regulating; tenths = p.tenths; reading = cond p.metered (Some p.reading) None; last = p.last }

-- the cell that plain numbers stand for
abbrev pub read : PlainCell → CellFigures
read p = cond (sound p) (given p) cleared

-- figures as plain numbers
abbrev pub plain : CellFigures → PlainCell
plain f = record { position = f.position; regulating = f.regulating; tenths = f.tenths; metered = is_some f.reading; reading = unwrap_or f.reading (pos 0); last = f.last }

-- the cleared cell as plain numbers
abbrev pub blank : PlainCell
blank = plain cleared
