-- Laws of sums over the numbers below n. Assumes nothing.
use Rattle.std.proofs.Common.{◌≡◌, ℕ, zero, suc, ◌<◌, ◌≤◌, cond, eqb, ℤ, pos, ◌+ℤ◌, refl, ap, ◌∙◌, ap₂, ⊎_elim, arith}
use lib.IntN.{+ℤ_idl, +ℤ_idr}
use Rattle.std.proofs.lemmas.Int.{ints}
use Rattle.std.proofs.lemmas.Bool.{cases_eq, eq-eqb, ne_eqb}
use Rattle.runs.specs.Sums.{sum_to}

pub sum_ext : (n : ℕ) (f g : ℕ → ℤ) → ((i : ℕ) → i < n → f i ≡ g i) → sum_to n f ≡ sum_to n g
sum_ext zero f g e = refl
sum_ext (suc n) f g e = ap₂ ◌+ℤ◌ (sum_ext n f g (λ i l. e i (omega arith))) (e n (omega arith))

pub sum_zero : (n : ℕ) → sum_to n (λ _. pos 0) ≡ pos 0
sum_zero zero = refl
sum_zero (suc n) = +ℤ_idr (sum_to n (λ _. pos 0)) ∙ sum_zero n

swapped : (a b c d : ℤ) → (a +ℤ b) +ℤ (c +ℤ d) ≡ (a +ℤ c) +ℤ (b +ℤ d)
swapped a b c d = omega (arith, ints)

pub sum_add : (n : ℕ) (f g : ℕ → ℤ) → sum_to n (λ i. f i +ℤ g i) ≡ sum_to n f +ℤ sum_to n g
sum_add zero f g = refl
sum_add (suc n) f g = ap (λ (z : ℤ). z +ℤ (f n +ℤ g n)) (sum_add n f g) ∙ swapped (sum_to n f) (sum_to n g) (f n) (g n)

-- a sum whose terms are 0 but for one at most
pub sum-none : (n p : ℕ) (x : ℤ) → n ≤ p → sum_to n (λ i. cond (eqb i p) x (pos 0)) ≡ pos 0
sum-none n p x l = sum_ext n _ (λ _. pos 0) (λ i h. ap (λ b. cond b x (pos 0)) (ne_eqb i p (omega arith))) ∙ sum_zero n

pub sum_one : (n p : ℕ) (x : ℤ) → p < n → sum_to n (λ i. cond (eqb i p) x (pos 0)) ≡ x
sum_one zero p x l = absurd (omega arith)
sum_one (suc n) p x l =
    ⊎_elim
    (λ e. ap₂ ◌+ℤ◌ (sum-none n p x (omega arith)) (ap (λ b. cond b x (pos 0)) (eq-eqb n p e)) ∙ +ℤ_idl x)
    (λ ne. ap₂ ◌+ℤ◌ (sum_one n p x (omega arith)) (ap (λ b. cond b x (pos 0)) (ne_eqb n p ne)) ∙ +ℤ_idr x)
    (cases_eq n p)
