-- A line has one answer of layer 1.
use Rattle.std.proofs.Common.{◌≡◌, ℕ, ◌+◌, List, get_or, Ok, Err, Result, sym, refl, ap, ◌∙◌, ⊎_elim, arith}
use Rattle.std.proofs.lemmas.Bool.{both_ways, cases_order}
use Rattle.brackets.specs.declared.BracketFault.{BracketFault}
use Rattle.brackets.specs.declared.BracketFault.TheVariants.{Long, Byte, Shape}
use Rattle.brackets.specs.Bytes.{admitted, Clean, FirstBad}
use Rattle.brackets.specs.Layer.{Brackets}

first_bad_once : (line : List ℕ) (c d : ℕ) → FirstBad line c → FirstBad line d → c ≡ d
first_bad_once line c d x y =
    ⊎_elim
    (λ e. x.1 ∙ ap (λ i. i + 1) e ∙ sym y.1)
    (⊎_elim
    (λ l. absurd (both_ways (admitted (get_or line x.0 0)) x.3 (y.4 x.0 l)))
    (λ l. absurd (both_ways (admitted (get_or line y.0 0)) y.3 (x.4 y.0 l))))
    (cases_order x.0 y.0)

not_clean : {X : Type 0} (line : List ℕ) (c : ℕ) → FirstBad line c → Clean line → X
not_clean line c x h = absurd (both_ways (admitted (get_or line x.0 0)) x.3 (h x.0 0 x.2))

pub bracket_once : (line : List ℕ) (a b : Result (Unit {0}) BracketFault) → Brackets line a → Brackets line b → a ≡ b
bracket_once line (Err Long) (Err Long) x y = refl
bracket_once line (Err Long) (Err (Byte d)) x y = absurd (omega (arith, y.0))
bracket_once line (Err Long) (Err (Shape d)) x y = absurd (omega (arith, y.0))
bracket_once line (Err Long) (Ok v) x y = absurd (omega (arith, y.0))
bracket_once line (Err (Byte c)) (Err Long) x y = absurd (omega (arith, x.0))
bracket_once line (Err (Byte c)) (Err (Byte d)) x y = ap (λ n. Err (Byte n)) (first_bad_once line c d x.1 y.1)
bracket_once line (Err (Byte c)) (Err (Shape d)) x y = not_clean line c x.1 y.1
bracket_once line (Err (Byte c)) (Ok v) x y = not_clean line c x.1 y.1
bracket_once line (Err (Shape c)) (Err Long) x y = absurd (omega (arith, x.0))
bracket_once line (Err (Shape c)) (Err (Byte d)) x y = not_clean line d y.1 x.1
bracket_once line (Err (Shape c)) (Err (Shape d)) x y = ap (λ n. Err (Shape n)) (y.3 c x.2)
bracket_once line (Err (Shape c)) (Ok v) x y = absurd (x.2.unformed y.2)
bracket_once line (Ok u) (Err Long) x y = absurd (omega (arith, x.0))
bracket_once line (Ok u) (Err (Byte d)) x y = not_clean line d y.1 x.1
bracket_once line (Ok u) (Err (Shape d)) x y = absurd (y.2.unformed x.2)
bracket_once line (Ok u) (Ok v) x y = refl
