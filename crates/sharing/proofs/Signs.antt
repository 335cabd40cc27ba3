-- The sign of a remainder taken off and restored, and sums of magnitudes. That a rule on magnitudes keeps the laws is in `specs/Signs`. Assumes nothing.
use Rattle.std.specs.Prelude.{◌≡◌, ℕ, zero, suc, ◌≤◌, Bool, true, false, List, [], ◌∷◌, length, replicate, ℤ, pos, negsuc, int_lt, slice_index, unsigned_abs, refl}
use Rattle.std.proofs.Common.{arith, ⊎_elim, sym, ap, ◌∙◌}
use Rattle.std.proofs.lemmas.List.{ext_get_or, get_or-replicate, length-map, length-replicate}
use Rattle.std.proofs.lemmas.Int.{ints}
use Rattle.std.proofs.lemmas.Bool.{le-ltb, cases_lt}
use Rattle.units.specs.Sums.{sum_n, page}
use Rattle.units.proofs.Summing.{page_is, zeros_at}
use Rattle.sharing.specs.Rules.{signed, below_zero, by_magnitude}
use Rattle.sharing.specs.Signs.{Splits, get_or_signed, no_sum, signed_zero}

pub sign_is : (n : ℤ) → int_lt n (pos 0) ≡ below_zero n
sign_is (pos n) = le-ltb n 0 (omega arith)
sign_is (negsuc n) = refl

-- a sign hides no magnitude
pub signed_same : (b : Bool) (x y : ℕ) → signed b x ≡ signed b y → x ≡ y
signed_same false x y e = omega (arith, ints)
signed_same true x y e = omega (arith, ints)

-- no number is above the sum
pub at_most_sum : (xs : List ℕ) (k : ℕ) → slice_index xs k ≤ sum_n xs
at_most_sum [] k = omega arith
at_most_sum (x ∷ xs) zero = omega arith
at_most_sum (x ∷ xs) (suc k) = omega (arith, at_most_sum xs k)

-- a list of n numbers, each 0
pub all_zero : (xs : List ℕ) (n : ℕ) → length xs ≡ n → ((k : ℕ) → slice_index xs k ≡ 0) → xs ≡ replicate n 0
all_zero xs n l h = ext_get_or 0 xs (replicate n 0) (l ∙ sym (length-replicate n 0)) (λ k b. h k ∙ sym (get_or-replicate n k 0 0 (omega arith)))

-- the shares add up to no more than is shared
pub splits_within : (f : ℕ → List ℕ → List ℕ) → Splits f → (m : ℕ) (ws : List ℕ) → sum_n (f m ws) ≤ m
splits_within f s m ws = ⊎_elim
    (λ p. omega (arith, s.whole m ws p))
    (λ z. omega (arith, no_sum (f m ws) (λ k. s.none m ws k (omega arith))))
    (cases_lt 0 (sum_n ws))

-- where no weight is above 0, the page of the parts is a page of zeros
pub nothing_shared : (f : ℕ → List ℕ → List ℕ) → Splits f → (n : ℤ) (ws : List ℕ) → length ws ≤ 20 → sum_n ws ≡ 0 → replicate 20 (pos 0) ≡ page (by_magnitude f n ws)
nothing_shared f s n ws l e =
    let m = unsigned_abs n in
    page_is (by_magnitude f n ws) (replicate 20 (pos 0)) (length-replicate 20 (pos 0)) (omega (arith, length-map (f m ws) (signed (below_zero n)), s.len m ws))
    (λ k h. zeros_at 20 k ∙ sym (get_or_signed (below_zero n) (f m ws) k ∙ ap (signed (below_zero n)) (s.none m ws k e) ∙ signed_zero (below_zero n)))
    (λ k h. zeros_at 20 k)
