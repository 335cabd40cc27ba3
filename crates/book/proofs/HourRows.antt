-- The cells of an hour, one for each party. Assumes nothing.
use Rattle.std.proofs.Common.{◌≡◌, ℕ, zero, suc, ◌+◌, ◌<◌, ◌≤◌, List, [], ◌∷◌, ◌++◌, map, length, get_or, take, refl, ap, ◌∙◌, ap₂, arith}
use Rattle.std.proofs.lemmas.List.{map_more}
use Rattle.hourly.specs.declared.plain.PlainCell.{PlainCell}
use Rattle.hourly.specs.Cells.{CellFigures, blank, read}
use Rattle.book.specs.HourSheets.{listed}

-- the figures of the first n cells
pub listed_is : (xs : List PlainCell) (f : ℕ → CellFigures) (n : ℕ) → n ≤ length xs → ((k : ℕ) → k < n → read (get_or xs k blank) ≡ f k) → map read (take n xs) ≡ listed n f
listed_is xs f zero l h = refl
listed_is xs f (suc n) l h =
    let e : suc n ≡ n + 1 = omega arith in
    ap (λ m. map read (take m xs)) e
    ∙ map_more read xs n blank (omega arith)
    ∙ ap₂ (λ (ys : List CellFigures) (c : CellFigures). ys ++ c ∷ []) (listed_is xs f n (omega arith) (λ k m. h k (omega arith))) (h n (omega arith))
