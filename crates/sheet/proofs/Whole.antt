-- One hour as a whole: pages added, and conservation. Assumes nothing.
use Rattle.std.proofs.Common.{◌≡◌, ℕ, zero, suc, ◌-◌, List, [], ◌∷◌, ◌++◌, length, replicate, ℤ, pos, ◌+ℤ◌, neg_ℤ, sym, refl, ap, ◌∙◌, not-suc-le-zero, arith}
use lib.ListN.{length-map}
use Rattle.std.proofs.lemmas.Int.{ints}
use Rattle.units.specs.Sums.{page, sum_z}
use Rattle.units.proofs.Summing.{sum_z-page}
use Rattle.hourly.specs.Records.{HourFigures}
use Rattle.pricing.specs.Prices.{PriceMap}
use Rattle.pricing.specs.declared.prices.Prices.{Prices}
use Rattle.sharing.specs.Laws.{Lawful}
use Rattle.sheet.specs.Evaluation.{HourFacts, ShareMap, added, first_amount, first_amounts, parts, prices_of, remainder, weight, weights}
use Rattle.sheet.specs.declared.row.Row.{Row}
use Rattle.sheet.specs.Sheets.{Conserves, SheetFigures}
use Rattle.sheet.proofs.Splitting.{length-added, length-parts, parts_make_up, sum_z-added}

added-append : (xs ys us vs : List ℤ) → length xs ≡ length ys → added (xs ++ us) (ys ++ vs) ≡ added xs ys ++ added us vs
added-append [] [] us vs e = refl
added-append [] (y ∷ ys) us vs e = absurd (not-suc-le-zero {n = length ys} (omega arith))
added-append (x ∷ xs) [] us vs e = absurd (not-suc-le-zero {n = length xs} (omega arith))
added-append (x ∷ xs) (y ∷ ys) us vs e = ap (λ (zs : List ℤ). (x +ℤ y) ∷ zs) (added-append xs ys us vs (omega arith))

added_zeros : (n : ℕ) → added (replicate n (pos 0)) (replicate n (pos 0)) ≡ replicate n (pos 0)
added_zeros zero = refl
added_zeros (suc n) = ap (λ (zs : List ℤ). pos 0 ∷ zs) (added_zeros n)

-- two pages added are the page of the lists added
pub added-pages : (xs ys : List ℤ) → length xs ≡ length ys → added (page xs) (page ys) ≡ page (added xs ys)
added-pages xs ys e =
    let l = length-added xs ys in
    ap (λ (n : ℕ). added (page xs) (ys ++ replicate (20 - n) (pos 0))) (sym e)
    ∙ added-append xs ys (replicate (20 - length xs) (pos 0)) (replicate (20 - length xs) (pos 0)) e
    ∙ ap (λ (zs : List ℤ). added xs ys ++ zs) (added_zeros (20 - length xs))
    ∙ ap (λ (n : ℕ). added xs ys ++ replicate (20 - n) (pos 0)) (sym l)

-- first amounts and parts are as many
pub even : (f : PriceMap) (g : ShareMap) → Lawful g → (h : HourFacts) → length (first_amounts f h) ≡ length (parts f g h)
even f g laws h = length-map h.rows (first_amount (prices_of f h)) ∙ sym (length-parts g laws (remainder f h) (weights h.rows) ∙ length-map h.rows weight)

-- the remainder of a page of first amounts
pub page-remainder : (f : PriceMap) (h : HourFacts) (xs : List ℤ) → xs ≡ page (first_amounts f h) → neg_ℤ (sum_z xs) ≡ remainder f h
page-remainder f h xs e = ap (λ (z : ℤ). neg_ℤ z) (ap sum_z e ∙ sum_z-page (first_amounts f h))

pub conserves : (f : PriceMap) (g : ShareMap) → Lawful g → Conserves f g
conserves f g laws h =
    let a = sum_z-added (first_amounts f h) (parts f g h) (even f g laws h) in
    let b = parts_make_up g laws (remainder f h) (weights h.rows) in
    omega (arith, ints)

-- hours with the same rows and deliveries are the same
pub same-facts : (h k : HourFacts) → h.rows ≡ k.rows → h.deliveries ≡ k.deliveries → h ≡ k
same-facts h k r d =
    ap (λ (rows : List Row). record { rows = rows; deliveries = h.deliveries }) r
    ∙ ap (λ (e : HourFigures). record { rows = k.rows; deliveries = e }) d

-- a sheet by its figures
abbrev make : HourFacts → List ℤ → ℤ → Prices → List ℤ → ℤ → ℤ → List ℤ → List ℤ → ℤ → SheetFigures
make h imbalances system p firsts n w shares totals o = record { hour = h; imbalances = imbalances; system = system; prices = p; firsts = firsts; remainder = n; weight = w; parts = shares; amounts = totals; operator = o }

-- two sheets with the same figures are the same
pub same-figures : (a b : SheetFigures) → a.hour ≡ b.hour → a.imbalances ≡ b.imbalances → a.system ≡ b.system → a.prices ≡ b.prices → a.firsts ≡ b.firsts → a.remainder ≡ b.remainder → a.weight ≡ b.weight → a.parts ≡ b.parts → a.amounts ≡ b.amounts → a.operator ≡ b.operator → a ≡ b
same-figures a b e0 e1 e2 e3 e4 e5 e6 e7 e8 e9 =
    let e : make a.hour a.imbalances a.system a.prices a.firsts a.remainder a.weight a.parts a.amounts a.operator ≡ make b.hour b.imbalances b.system b.prices b.firsts b.remainder b.weight b.parts b.amounts b.operator = cc in
    e
