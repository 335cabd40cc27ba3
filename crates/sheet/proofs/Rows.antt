-- Rows gathered from cells, one by one. Assumes nothing.
use Rattle.std.proofs.Common.{◌≡◌, ℕ, ◌+◌, ◌<◌, ◌≤◌, Bool, true, not, ◌&&◌, cond, leb, ltb, ℤ, nat_abs, Option, List, [], ◌∷◌, map, length, get_or, take, set, is_none, Some, None, sym, refl, ap, ap₂, ◌∙◌, subst, ⊎_elim, arith}
use lib.ListN.{length-map}
use Rattle.std.specs.List.{position, prefix_len}
use Rattle.std.proofs.lemmas.List.{get_or-set_same, get_or-set_other, get_or-take, get_or_past, length-take}
use Rattle.std.specs.Prelude.{option_map}
use Rattle.std.proofs.lemmas.Bool.{and_from, cases_eq, cases_lt, cond-true, le-leb}
use Rattle.hourly.specs.declared.plain.PlainCell.{PlainCell}
use Rattle.hourly.specs.Cells.{CellFigures, read}
use Rattle.sheet.specs.declared.row.Row.{Row}
use Rattle.sheet.specs.Bounds.{RowFigures, RowWithin, RowsWithin, zero_row}
use Rattle.sheet.specs.Gathering.{gather_refusal, known_hour, missing_reading, row_of}

-- what holds of each element still does after one is written of which it holds
pub each_set : {X : Type 0} (P : X → Type 0) (xs : List X) (i : ℕ) (x d : X) → i < length xs → ((k : ℕ) → P (get_or xs k d)) → P x → (k : ℕ) → P (get_or (set xs i x) k d)
each_set P xs i x d h all here k =
    ⊎_elim
    (λ s. subst P (sym (ap (λ (j : ℕ). get_or (set xs i x) j d) s ∙ get_or-set_same xs i x d h)) here)
    (λ n. subst P (sym (get_or-set_other xs i k x d n)) (all k))
    (cases_eq k i)

-- the rows of cells, read one by one
pub rows-read : (cells : List PlainCell) → map (λ (p : PlainCell). row_of (read p)) cells ≡ map row_of (map read cells)
rows-read [] = refl
rows-read (p ∷ cells) = ap (λ (rows : List Row). row_of (read p) ∷ rows) (rows-read cells)

passes_map : (p : CellFigures → Bool) (cells : List PlainCell) → prefix_len p (map read cells) ≡ prefix_len (λ (c : PlainCell). p (read c)) cells
passes_map p [] = refl
passes_map p (c ∷ cells) = ap (λ n. cond (p (read c)) (1 + n) 0) (passes_map p cells)

-- the first missing reading, by the cells as they lie
pub missing_at : (cells : List PlainCell) → position (λ (c : CellFigures). is_none c.reading) (map read cells) ≡ position (λ (c : PlainCell). is_none (read c).reading) cells
missing_at cells = ap₂ (λ n l. cond (ltb n l) (Some n) None) (passes_map (λ c. not (is_none c.reading)) cells) (length-map cells read)

-- where there are 1 to 20 cells and the hour is one of a day, the readings decide
pub readings_decide : (hour : ℤ) (cells : List PlainCell) (o : Option ℕ) → 1 ≤ length cells → length cells ≤ 20 → known_hour hour ≡ true → o ≡ position (λ (c : PlainCell). is_none (read c).reading) cells → gather_refusal hour (map read cells) ≡ missing_reading (nat_abs hour) (option_map (λ i. i + 1) o)
readings_decide hour cells o one few known e =
    let l = length-map cells read in
    let n = length (map read cells) in
    cond-true (leb 1 n && leb n 20) _ _ (and_from (leb 1 n) (leb n 20) (le-leb 1 n (omega arith)) (le-leb n 20 (omega arith)))
    ∙ cond-true (known_hour hour) _ _ known
    ∙ ap (λ p. missing_reading (nat_abs hour) (option_map (λ i. i + 1) p)) (missing_at cells ∙ sym e)

-- rows within the bounds, the first of them
pub rows_taken : (rows : List RowFigures) (n : ℕ) → RowsWithin rows → RowsWithin (take n rows)
rows_taken rows n h k =
    ⊎_elim
    (λ lt. subst RowWithin (sym (get_or-take n rows k zero_row lt)) (h k))
    (λ ge. subst RowWithin (sym (get_or_past (take n rows) k zero_row (omega (arith, length-take n rows)))) (omega arith, omega arith, omega arith, omega arith))
    (cases_lt k n)
