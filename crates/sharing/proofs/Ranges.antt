-- What is not refused is in range, and the other way round. Assumes nothing.
use Rattle.std.proofs.Common.{◌≡◌, ℕ, zero, suc, ◌+◌, ◌*◌, ◌<◌, ◌≤◌, Bool, true, false, cond, ltb, leb, List, [], ◌∷◌, map, length, get_or, drop, ℤ, pos, nat_abs, Some, None, Option, not, sym, refl, ap, ◌∙◌, subst, not-suc-le-zero, arith}
use lib.ListN.{length-map}
use Rattle.std.specs.List.{find}
use Rattle.std.specs.Prelude.{option_map}
use Rattle.std.proofs.lemmas.List.{get_or-map, at_drop_more}
use Rattle.std.proofs.lemmas.Int.{ints}
use Rattle.std.proofs.lemmas.Bool.{cond-false, le-ltb, le-leb, and_from}
use Rattle.units.specs.Sums.{sum_n, page}
use Rattle.sharing.specs.Limits.{in_range, weight_refusal, refusal, answer, afterwards, Within, Light, Admits, magnitudes}
use Rattle.sharing.specs.declared.refusal.SharingRefusal.{SharingRefusal}
use Rattle.sharing.specs.declared.refusal.SharingRefusal.TheVariants.{Weight}

small : (w : ℤ) → in_range w ≡ true → nat_abs w ≤ 499999
small w h = grind (arith, ints)

-- where the first weight is not refused, it is in range, and the others decide
not_refused : (b : Bool) (w : ℤ) (o : Option ℤ) → ◌≡◌ {A = Option SharingRefusal} (option_map Weight (cond (not b) (Some w) o)) None → (b ≡ true) × (◌≡◌ {A = Option SharingRefusal} (option_map Weight o) None)
not_refused true w o h = (refl, h)
not_refused false w o h = absurd (let z : ◌≡◌ {A = ℕ} 0 1 = cc in omega arith)

weights_small : (ws : List ℤ) → weight_refusal ws ≡ None → (k : ℕ) → k < length ws → nat_abs (get_or ws k (pos 0)) ≤ 499999
weights_small [] e k h = absurd (not-suc-le-zero h)
weights_small (w ∷ ws) e zero h = small w (not_refused (in_range w) w (find (λ v. not (in_range v)) ws) e).0
weights_small (w ∷ ws) e (suc k) h = weights_small ws (not_refused (in_range w) w (find (λ v. not (in_range v)) ws) e).1 k (omega arith)

-- the search for a weight out of range, one step on
pub refusal_more : (ws : List ℤ) (i : ℕ) → i < length ws → in_range (get_or ws i (pos 0)) ≡ true → weight_refusal (drop i ws) ≡ weight_refusal (drop (i + 1) ws)
refusal_more ws i h t = at_drop_more weight_refusal ws i (pos 0) h ∙ ap (option_map Weight) (cond-false (not (in_range (get_or ws i (pos 0)))) _ _ (ap not t))

by_weights : (n : ℤ) (ws : List ℤ) → nat_abs n ≤ 600000000000 → length ws ≤ 20 → refusal n ws ≡ weight_refusal ws
by_weights n ws h l = cond-false (ltb 600000000000 (nat_abs n)) _ _ (le-ltb 600000000000 (nat_abs n) h) ∙ cond-false (ltb 20 (length ws)) _ _ (le-ltb 20 (length ws) l)

-- what is refused for no weight, and neither for the remainder nor for the count, is in range
pub admitted : (n : ℤ) (ws : List ℤ) → nat_abs n ≤ 600000000000 → length ws ≤ 20 → weight_refusal ws ≡ None → (refusal n ws ≡ None) × Within n ws
admitted n ws h l e = (by_weights n ws h l ∙ e, record { halers = h; few = l; light = weights_small ws e })

decided : (n : ℤ) (ws : List ℤ) (o : Option SharingRefusal) → nat_abs n ≤ 600000000000 → length ws ≤ 20 → weight_refusal ws ≡ o → Admits n ws (answer o)
decided n ws None h l e = admitted n ws h l e
decided n ws (Some r) h l e = by_weights n ws h l ∙ e

-- where neither the remainder nor the count is refused, the weights decide
pub admits : (n : ℤ) (ws : List ℤ) → nat_abs n ≤ 600000000000 → length ws ≤ 20 → Admits n ws (answer (weight_refusal ws))
admits n ws h l = decided n ws (weight_refusal ws) h l refl

-- what is not refused fills the page
pub filled : (o : Option SharingRefusal) (xs ps : List ℤ) → o ≡ None → afterwards o xs ps ≡ page xs
filled o xs ps e = ap (λ (r : Option SharingRefusal). afterwards r xs ps) e

-- Weights as natural numbers

no_refusal : (us : List ℕ) → ((k : ℕ) → k < length us → get_or us k 0 ≤ 499999) → weight_refusal (map pos us) ≡ None
no_refusal [] h = refl
no_refusal (u ∷ us) h = ap (option_map Weight) (cond-false (not (in_range (pos u))) _ _ (ap not (and_from (leb 0 u) (leb u 499999) (le-leb 0 u (omega arith)) (le-leb u 499999 (h 0 (omega arith)))))) ∙ no_refusal us (λ k l. h (suc k) (omega arith))

-- a remainder and magnitudes in range are not refused
pub accepted : (n : ℤ) (us : List ℕ) → nat_abs n ≤ 600000000000 → Light us → refusal n (map pos us) ≡ None
accepted n us h l = (admitted n (map pos us) h (omega (arith, length-map us pos, l.few)) (no_refusal us l.each)).0

pub magnitudes_pos : (us : List ℕ) → magnitudes (map pos us) ≡ us
magnitudes_pos [] = refl
magnitudes_pos (u ∷ us) = ap (λ (xs : List ℕ). u ∷ xs) (magnitudes_pos us)

-- weights in range are magnitudes in range
pub light : (n : ℤ) (ws : List ℤ) → Within n ws → Light (magnitudes ws)
light n ws w = record {
  few = omega (arith, length-map ws nat_abs, w.few);
  each = λ k h. let l : k < length ws = omega (arith, length-map ws nat_abs) in subst (λ (x : ℕ). x ≤ 499999) (sym (get_or-map nat_abs ws k (pos 0) 0 l)) (w.light k l);
}

sum-within : (us : List ℕ) → ((k : ℕ) → k < length us → get_or us k 0 ≤ 499999) → sum_n us ≤ 499999 * length us
sum-within [] h = omega arith
sum-within (u ∷ us) h = omega (arith, h 0 (omega arith), sum-within us (λ k l. h (suc k) (omega arith)))

-- the total weight is at most 9,999,980, so that no product with a remainder passes 64 bits
pub total-within : (us : List ℕ) → Light us → sum_n us ≤ 9999980
total-within us l = omega (arith, sum-within us l.each, l.few)
