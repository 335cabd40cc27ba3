-- The bounds of a sheet's numbers. No sheet is named here, so that the sheets can cite it. Assumes nothing.
use Rattle.std.specs.Prelude.{ℕ, ◌≤◌, List, ℤ, pos, slice_index_or, unsigned_abs}

-- what a row says
pub record RowFigures : Type 0 where
  pub position : ℤ
  pub regulating : ℤ
  pub tenths : ℤ
  pub reading : ℤ

-- a row of zeros, to stand past the end of a list
abbrev pub zero_row : RowFigures
zero_row = record { position = pos 0; regulating = pos 0; tenths = pos 0; reading = pos 0 }

-- a row is within the bounds of a cell
abbrev pub RowWithin : RowFigures → Type 0
RowWithin r = (unsigned_abs r.position ≤ 499999) × (unsigned_abs r.regulating ≤ 999998) × (unsigned_abs r.tenths ≤ 99998800002) × (unsigned_abs r.reading ≤ 499999)

abbrev pub RowsWithin : List RowFigures → Type 0
RowsWithin rows = (k : ℕ) → RowWithin (slice_index_or rows k zero_row)

-- every number lies within ±n
abbrev pub Within : ℕ → List ℤ → Type 0
Within n xs = (k : ℕ) → unsigned_abs (slice_index_or xs k (pos 0)) ≤ n
