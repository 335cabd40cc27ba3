-- Deliveries after one more are within the bounds of their direction. Assumes nothing.
use Rattle.std.proofs.Common.{◌≡◌, ℕ, ◌+◌, ◌*◌, ◌≤◌, Bool, true, false, eqb, ℤ, pos, ◌+ℤ◌, ◌*ℤ◌, nat_abs, ◌≤ℤ◌, Some, None, Option, ap, ◌∙◌, arith}
use lib.IntN.{*ℤ_comm, *ℤ-zero}
use lib.Signed.{le_z, lt_z}
use Rattle.std.proofs.lemmas.Int.{ints}
use Rattle.std.proofs.lemmas.Bool.{and_parts, and_from, cond_both, eqb-true, le-leb, leb-true}
use Rattle.units.proofs.Integers.{mul_mono, mul_sum, product_within, sum-within}
use Rattle.hourly.specs.Bounds.{deliveries_ok, not_beyond}
use Rattle.hourly.specs.Records.{extreme_of}

at_most : (a b : ℤ) → le_z a b ≡ true → a ≤ℤ b
at_most a b h = grind (arith, ints)

tested : (a b : ℤ) → a ≤ℤ b → le_z a b ≡ true
tested a b h = grind (arith, ints)

-- a total stays under kWh × price when both parts do
sums_under : (K k : ℕ) (T e p m : ℤ) → T ≤ℤ (pos K *ℤ e) → e ≤ℤ m → p ≤ℤ m → (T +ℤ pos k *ℤ p) ≤ℤ (pos (K + k) *ℤ m)
sums_under K k T e p m t he hp =
    let a = mul_mono e m K he in
    let b = mul_mono p m k hp in
    let c = mul_sum m (pos K) (pos k) in
    let d = *ℤ_comm (pos k) p in
    let f = *ℤ_comm (pos K) e in
    let g = *ℤ_comm (pos (K + k)) m in
    omega (arith, ints)

sums_over : (K k : ℕ) (T e p m : ℤ) → (pos K *ℤ e) ≤ℤ T → m ≤ℤ e → m ≤ℤ p → (pos (K + k) *ℤ m) ≤ℤ (T +ℤ pos k *ℤ p)
sums_over K k T e p m t he hp =
    let a = mul_mono m e K he in
    let b = mul_mono m p k hp in
    let c = mul_sum m (pos K) (pos k) in
    let d = *ℤ_comm (pos k) p in
    let f = *ℤ_comm (pos K) e in
    let g = *ℤ_comm (pos (K + k)) m in
    omega (arith, ints)

-- the same for a direction: the average is not beyond a price that neither the former extreme nor the new price is beyond
not_beyond_more : (up : Bool) (K k : ℕ) (T e p m : ℤ) → not_beyond up T (pos K *ℤ e) ≡ true → not_beyond up e m ≡ true → not_beyond up p m ≡ true → not_beyond up (T +ℤ pos k *ℤ p) (pos (K + k) *ℤ m) ≡ true
not_beyond_more true K k T e p m t he hp = tested _ _ (sums_under K k T e p m (at_most _ _ t) (at_most _ _ he) (at_most _ _ hp))
not_beyond_more false K k T e p m t he hp = tested _ _ (sums_over K k T e p m (at_most _ _ t) (at_most _ _ he) (at_most _ _ hp))

itself : (up : Bool) (p : ℤ) → not_beyond up p p ≡ true
itself true p = tested p p (omega (arith, ints))
itself false p = tested p p (omega (arith, ints))

-- neither the former extreme nor the new price is beyond the new extreme, which is one of them
pub record Extreme (up : Bool) (e p m : ℤ) : Type 0 where
  pub former : not_beyond up e m ≡ true
  pub new : not_beyond up p m ≡ true
  pub small : nat_abs m ≤ 99999

extreme : (up : Bool) (e p : ℤ) → nat_abs e ≤ 99999 → nat_abs p ≤ 99999 → Extreme up e p (extreme_of up (Some e) p)
extreme true e p he hp =
    cond_both (lt_z e p) p e (Extreme true e p)
    (λ t. record { former = grind (arith, ints); new = itself true p; small = hp })
    (λ t. record { former = itself true e; new = grind (arith, ints); small = he })
extreme false e p he hp =
    cond_both (lt_z p e) p e (Extreme false e p)
    (λ t. record { former = grind (arith, ints); new = itself false p; small = hp })
    (λ t. record { former = itself false e; new = grind (arith, ints); small = he })

total_more : (K k : ℕ) (T p : ℤ) → nat_abs T ≤ 99999 * K → nat_abs p ≤ 99999 → nat_abs (T +ℤ pos k *ℤ p) ≤ 99999 * (K + k)
total_more K k T p t hp = omega (arith, sum-within T (pos k *ℤ p), product_within (pos k) p k 99999 (omega arith) hp)

all_ok : (up : Bool) (K : ℕ) (T m : ℤ) → 1 ≤ K → K ≤ 499999 → nat_abs m ≤ 99999 → nat_abs T ≤ 99999 * K → not_beyond up T (pos K *ℤ m) ≡ true → deliveries_ok up K T (Some m) ≡ true
all_ok up K T m some few price total beyond = and_from _ _ (and_from _ _ (and_from _ _ (and_from _ _ (le-leb _ _ some) (le-leb _ _ few)) (le-leb _ _ price)) (le-leb _ _ total)) beyond

pub delivered_ok : (up : Bool) (K : ℕ) (T : ℤ) (o : Option ℤ) (k : ℕ) (p : ℤ) → deliveries_ok up K T o ≡ true → nat_abs p ≤ 99999 → 1 ≤ k → K + k ≤ 499999 → deliveries_ok up (K + k) (T +ℤ pos k *ℤ p) (Some (extreme_of up o p)) ≡ true
delivered_ok up K T None k p h hp hk hs =
    let a = and_parts (eqb K 0) (eqb (nat_abs T) 0) h in
    let k0 : K ≡ 0 = eqb-true K 0 a.0 in
    let t0 : nat_abs T ≡ 0 = eqb-true (nat_abs T) 0 a.1 in
    let z : T ≡ pos 0 = omega (arith, ints) in
    let first : not_beyond up T (pos K *ℤ p) ≡ true = ap (λ (x : ℤ). not_beyond up x (pos K *ℤ p)) z ∙ ap (λ (n : ℕ). not_beyond up (pos 0) (pos n *ℤ p)) k0 ∙ ap (λ (x : ℤ). not_beyond up (pos 0) x) (*ℤ_comm (pos 0) p ∙ *ℤ-zero p) ∙ itself up (pos 0) in
    all_ok up (K + k) (T +ℤ pos k *ℤ p) p (omega arith) hs hp (total_more K k T p (omega arith) hp) (not_beyond_more up K k T p p p first (itself up p) (itself up p))
delivered_ok up K T (Some e) k p h hp hk hs =
    let a = and_parts _ _ h in
    let b = and_parts _ _ a.0 in
    let c = and_parts _ _ b.0 in
    let m = extreme_of up (Some e) p in
    let x = extreme up e p (leb-true _ _ c.1) hp in
    all_ok up (K + k) (T +ℤ pos k *ℤ p) m (omega arith) hs x.small (total_more K k T p (leb-true _ _ b.1) hp) (not_beyond_more up K k T e p m a.1 x.former x.new)

-- a total within the bounds is small
pub total_small : (up : Bool) (K : ℕ) (T : ℤ) (o : Option ℤ) → deliveries_ok up K T o ≡ true → nat_abs T ≤ 49999400001
total_small up K T None h = let a = eqb-true (nat_abs T) 0 (and_parts (eqb K 0) (eqb (nat_abs T) 0) h).1 in omega arith
total_small up K T (Some e) h =
    let a = and_parts _ _ h in
    let b = and_parts _ _ a.0 in
    let c = and_parts _ _ b.0 in
    let d = and_parts _ _ c.0 in
    let t : nat_abs T ≤ 99999 * K = leb-true _ _ b.1 in
    let few : K ≤ 499999 = leb-true _ _ d.1 in
    omega arith
