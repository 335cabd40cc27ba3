-- The number that `nearest` computes is the nearest one, and no larger than its quotient allows. Assumes nothing.
use Rattle.std.proofs.Common.{◌≡◌, ℕ, zero, suc, ◌+◌, ◌*◌, ◌/◌, ◌%◌, ◌<◌, ◌≤◌, Bool, false, true, cond, leb, ℤ, pos, negsuc, ◌-ℤ◌, neg_ℤ, nat_abs, Some, None, Option, sym, ap, subst, ◌∙◌, div-mul-le_self, arith, w64, SFits}
use lib.Signed.{lt_z}
use Rattle.std.proofs.lemmas.Bool.{le-leb}
use native.Mathlib.Nat.{lt-div-mul-add}
use Rattle.std.proofs.lemmas.Nat.{div_below, div-mul-add, div-add-mod', mul-le}
use Rattle.std.proofs.lemmas.Int.{ints}
use Rattle.std.specs.Option.{SomeIff}
use Rattle.units.specs.Rounding.{nearest_n, nearest, Nearest}

-- a quotient q of 2 m + d by 2 d lies at most half a d from m
near : (m d : ℕ) → 0 < d → (2 * (nearest_n m d * d) ≤ 2 * m + d) × (2 * m < 2 * (nearest_n m d * d) + d)
near m d h =
    let a = div-mul-le_self (2 * m + d) (2 * d) in
    let b = lt-div-mul-add {a = 2 * m + d} {b = 2 * d} (omega arith) in
    (omega arith, omega arith)

-- the same on the other side of 0
below_zero : (q m d : ℕ) → (2 * (q * d) ≤ 2 * (m + 1) + d) × (2 * (m + 1) < 2 * (q * d) + d) → Nearest (negsuc m) d (neg_ℤ (pos q))
below_zero zero m d n = (omega (arith, ints), λ e. omega (arith, ints))
below_zero (suc q) m d n = (omega (arith, ints), λ e. omega (arith, ints))

pub nearest_is : (t : ℤ) (d : ℕ) → 0 < d → Nearest t d (nearest t d)
nearest_is (pos m) d h =
    let n = near m d h in
    (omega (arith, ints), λ e. omega (arith, ints))
nearest_is (negsuc m) d h = below_zero (nearest_n (m + 1) d) m d (near (m + 1) d h)

nearest_n_small : (m d p : ℕ) → 0 < d → m ≤ p * d → nearest_n m d ≤ p
nearest_n_small m d p h l = omega (arith, div_below (2 * m + d) (2 * d) (p + 1) (omega arith) (omega arith))

-- |t| ≤ p d gives |t / d| ≤ p, rounded too
pub nearest_small : (t : ℤ) (d p : ℕ) → 0 < d → nat_abs t ≤ p * d → nat_abs (nearest t d) ≤ p
nearest_small (pos m) d p h l = nearest_n_small m d p h l
nearest_small (negsuc m) d p h l = omega (arith, ints, nearest_n_small (m + 1) d p h (omega arith))

-- the same quotient, with half the divisor added first: no number on the way is large
halved : (m d : ℕ) → 0 < d → (m + d / 2) / d ≡ nearest_n m d
halved m d h =
    let q = (m + d / 2) / d in
    let r = (m + d / 2) % d in
    let whole : q * d + r ≡ m + d / 2 = div-add-mod' (m + d / 2) d in
    let e : q * (2 * d) + (2 * r + d % 2) ≡ 2 * m + d = omega arith in
    sym (div-mul-add q (2 * d) (2 * r + d % 2) (omega arith)) ∙ ap (λ (n : ℕ). n / (2 * d)) e

less : (n : ℕ) → pos 0 -ℤ pos n ≡ neg_ℤ (pos n)
less n = omega (arith, ints)

below : (t : ℤ) (d q : ℕ) → 0 < d → lt_z t (pos 0) ≡ true → q ≡ (nat_abs t + d / 2) / d → pos 0 -ℤ pos q ≡ nearest t d
below (pos m) d q h l e = absurd (grind (arith, ints))
below (negsuc m) d q h l e =
    let a : nat_abs (negsuc m) ≡ m + 1 = omega (arith, ints) in
    ap (λ (k : ℕ). pos 0 -ℤ pos k) (e ∙ ap (λ (k : ℕ). (k + d / 2) / d) a ∙ halved (m + 1) d h) ∙ less (nearest_n (m + 1) d)

from : (t : ℤ) (d q : ℕ) → 0 < d → lt_z t (pos 0) ≡ false → q ≡ (nat_abs t + d / 2) / d → pos (0 + q) ≡ nearest t d
from (pos m) d q h l e = let n : 0 + q ≡ nearest_n m d = omega (arith, halved m d h) in ap pos n
from (negsuc m) d q h l e = absurd (grind (arith, ints))

nearest_n_within : (m d : ℕ) → 0 < d → nearest_n m d ≤ m
nearest_n_within m d h = nearest_n_small m d m h (omega (arith, mul-le m 1 m d (omega arith) h))

fits : (t : ℤ) (d : ℕ) → 0 < d → SFits w64 t → SFits w64 (nearest t d)
fits (pos m) d h f = omega (arith, ints, nearest_n_within m d h)
fits (negsuc m) d h f = omega (arith, ints, nearest_n_within (m + 1) d h)

-- what is there where a condition holds
there : (o : Option ℤ) (P : Type 0) (v : ℤ) → SomeIff o P v → P → o ≡ Some v
there None P v s p = absurd (s p)
there (Some x) P v s p = ap Some s.1

answer : (d : ℕ) (v : ℤ) → 0 < d → Some v ≡ cond (leb 1 d) (Some v) None
answer d v h = ap (λ (b : Bool). cond b (Some v) None) (sym (le-leb 1 d (omega arith)))

-- the number that is answered, below 0 and from 0 on
pub answered_below : (t : ℤ) (d q : ℕ) (o : Option ℤ) → SomeIff o (SFits w64 (pos 0 -ℤ pos q)) (pos 0 -ℤ pos q) → 0 < d → lt_z t (pos 0) ≡ true → q ≡ (nat_abs t + d / 2) / d → SFits w64 t → o ≡ cond (leb 1 d) (Some (nearest t d)) None
answered_below t d q o s h l m f =
    let e = below t d q h l m in
    there o _ _ s (subst (λ (z : ℤ). SFits w64 z) (sym e) (fits t d h f)) ∙ ap Some e ∙ answer d (nearest t d) h

pub answered_from : (t : ℤ) (d q : ℕ) (o : Option ℤ) → SomeIff o (SFits w64 (pos (0 + q))) (pos (0 + q)) → 0 < d → lt_z t (pos 0) ≡ false → q ≡ (nat_abs t + d / 2) / d → SFits w64 t → o ≡ cond (leb 1 d) (Some (nearest t d)) None
answered_from t d q o s h l m f =
    let e = from t d q h l m in
    there o _ _ s (subst (λ (z : ℤ). SFits w64 z) (sym e) (fits t d h f)) ∙ ap Some e ∙ answer d (nearest t d) h
