-- Where things lie on the pages. Assumes nothing.
use Rattle.std.proofs.Common.{◌≡◌, ℕ, ◌+◌, ◌*◌, ◌≤◌, true, ◌&&◌, eqb, leb, length, mul-le-mul_right, arith}
use Rattle.std.proofs.lemmas.Bool.{and_from, and_parts, eqb-true, leb-true, eq-eqb, le-leb}
use Rattle.entries.specs.declared.entry.Sizes.{Sizes}
use Rattle.book.specs.Held.{Fits, Held, Sized, fits, paged, sized}

-- a book that fits, as facts
pub fitting : (h : Held) → fits h ≡ true → Fits h
fitting h e =
    let s = h.sizes in
    let a = and_parts (sized s) (paged s (length h.cells) (length h.records)) e in
    let b = and_parts (leb 1 s.parties && leb s.parties 20) (leb 1 s.days && leb s.days 62) a.0 in
    let c = and_parts (leb 1 s.parties) (leb s.parties 20) b.0 in
    let d = and_parts (leb 1 s.days) (leb s.days 62) b.1 in
    let f = and_parts (eqb (length h.cells) (s.parties * s.days * 24)) (eqb (length h.records) (s.days * 24)) a.1 in
    ((leb-true _ _ c.0, leb-true _ _ c.1, leb-true _ _ d.0, leb-true _ _ d.1), eqb-true _ _ f.0, eqb-true _ _ f.1)

-- and as tests
pub sizes_fitted : (s : Sizes) → Sized s → sized s ≡ true
sizes_fitted s f =
    and_from (leb 1 s.parties && leb s.parties 20) (leb 1 s.days && leb s.days 62)
    (and_from (leb 1 s.parties) (leb s.parties 20) (le-leb _ _ f.0) (le-leb _ _ f.1))
    (and_from (leb 1 s.days) (leb s.days 62) (le-leb _ _ f.2) (le-leb _ _ f.3))

pub fitted : (h : Held) → Fits h → fits h ≡ true
fitted h f =
    let s = h.sizes in
    and_from (sized s) (paged s (length h.cells) (length h.records)) (sizes_fitted s f.0)
    (and_from (eqb (length h.cells) (s.parties * s.days * 24)) (eqb (length h.records) (s.days * 24)) (eq-eqb _ _ f.1) (eq-eqb _ _ f.2))
