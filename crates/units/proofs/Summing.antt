-- Sums of lists and pages of 20 places. Assumes nothing.
use Rattle.std.proofs.Common.{◌≡◌, ℕ, zero, suc, ◌+◌, ◌-◌, ◌<◌, ◌≤◌, List, [], ◌∷◌, ◌++◌, length, get_or, take, drop, replicate, ℤ, pos, ◌+ℤ◌, sym, refl, ap, ◌∙◌, ⊎_elim, arith, length-append, take-append-drop}
use lib.IntN.{+ℤ_idl, +ℤ_idr, +ℤ_assoc}
use lib.ListN.{length-replicate}
use Rattle.std.proofs.lemmas.List.{take_more, ext_get_or, get_or_append_left, get_or-append_right}
use Rattle.std.proofs.lemmas.Bool.{cases_lt}
use Rattle.units.specs.Sums.{sum_n, sum_z, page}

-- Natural numbers

pub sum_n-append : (xs ys : List ℕ) → sum_n (xs ++ ys) ≡ sum_n xs + sum_n ys
sum_n-append [] ys = omega arith
sum_n-append (x ∷ xs) ys = omega (arith, sum_n-append xs ys)

pub sum_n_more : (xs : List ℕ) (i : ℕ) → i < length xs → sum_n (take (i + 1) xs) ≡ sum_n (take i xs) + get_or xs i 0
sum_n_more xs i h = let a = ap sum_n (take_more xs i 0 h) in let b = sum_n-append (take i xs) (get_or xs i 0 ∷ []) in omega arith

pub sum_n-take : (xs : List ℕ) (i : ℕ) → sum_n (take i xs) ≤ sum_n xs
sum_n-take xs i = omega (arith, sum_n-append (take i xs) (drop i xs), ap sum_n (take-append-drop i xs))

-- Integers

pub sum_z-append : (xs ys : List ℤ) → sum_z (xs ++ ys) ≡ sum_z xs +ℤ sum_z ys
sum_z-append [] ys = sym (+ℤ_idl (sum_z ys))
sum_z-append (x ∷ xs) ys = ap (λ (z : ℤ). x +ℤ z) (sum_z-append xs ys) ∙ sym (+ℤ_assoc x (sum_z xs) (sum_z ys))

pub sum_z_more : (xs : List ℤ) (i : ℕ) → i < length xs → sum_z (take (i + 1) xs) ≡ sum_z (take i xs) +ℤ get_or xs i (pos 0)
sum_z_more xs i h = ap sum_z (take_more xs i (pos 0) h) ∙ sum_z-append (take i xs) _ ∙ ap (λ (z : ℤ). sum_z (take i xs) +ℤ z) (+ℤ_idr (get_or xs i (pos 0)))

sum_z_zeros : (m : ℕ) → sum_z (replicate m (pos 0)) ≡ pos 0
sum_z_zeros zero = refl
sum_z_zeros (suc m) = +ℤ_idl (sum_z (replicate m (pos 0))) ∙ sum_z_zeros m

-- Pages of 20 places

pub zeros_at : (m k : ℕ) → get_or (replicate m (pos 0)) k (pos 0) ≡ pos 0
zeros_at zero k = refl
zeros_at (suc m) zero = refl
zeros_at (suc m) (suc k) = zeros_at m k

pub sum_z-page : (xs : List ℤ) → sum_z (page xs) ≡ sum_z xs
sum_z-page xs = sum_z-append xs (replicate (20 - length xs) (pos 0)) ∙ ap (λ (z : ℤ). sum_z xs +ℤ z) (sum_z_zeros (20 - length xs)) ∙ +ℤ_idr (sum_z xs)

pub length-page : (xs : List ℤ) → length xs ≤ 20 → length (page xs) ≡ 20
length-page xs h = omega (arith, length-append xs (replicate (20 - length xs) (pos 0)), length-replicate (20 - length xs) (pos 0))

pub page-inside : (xs : List ℤ) (k : ℕ) → k < length xs → get_or (page xs) k (pos 0) ≡ get_or xs k (pos 0)
page-inside xs k lt = get_or_append_left xs _ (pos 0) k lt

pub page_past : (xs : List ℤ) (k : ℕ) → length xs ≤ k → get_or (page xs) k (pos 0) ≡ pos 0
page_past xs k ge = get_or-append_right xs _ (length xs) k (pos 0) refl ge ∙ zeros_at (20 - length xs) (k - length xs)

-- twenty numbers are the page of a list if they are its numbers, and 0 past them
pub page_is : (xs ps : List ℤ) → length ps ≡ 20 → length xs ≤ 20 → ((k : ℕ) → k < length xs → get_or ps k (pos 0) ≡ get_or xs k (pos 0)) → ((k : ℕ) → length xs ≤ k → get_or ps k (pos 0) ≡ pos 0) → ps ≡ page xs
page_is xs ps hp hx inside outside =
    ext_get_or (pos 0) ps (page xs) (hp ∙ sym (length-page xs hx))
    (λ i h. ⊎_elim
    (λ lt. inside i lt ∙ sym (page-inside xs i lt))
    (λ ge. outside i ge ∙ sym (page_past xs i ge))
    (cases_lt i (length xs)))
