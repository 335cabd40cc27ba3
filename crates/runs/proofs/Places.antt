-- Places on the pages: which place is whose, and whose are the places of a range of hours. Assumes nothing.
use Rattle.std.proofs.Common.{◌≡◌, ℕ, ◌+◌, ◌*◌, ◌/◌, ◌%◌, ◌<◌, ◌≤◌, Bool, true, false, ◌&&◌, eqb, ltb, leb, sym, refl, ap, ◌∙◌, ap₂, ⊎_elim, arith}
use Rattle.std.proofs.lemmas.Nat.{div-add-mod', div_below, div-mul-add, mod_below}
use Rattle.std.proofs.lemmas.Bool.{and_from, and_left, and_right, cases_eq, eq-eqb, ne_eqb}
use Rattle.std.proofs.lemmas.Bool.Decides.{nat_tests}

-- a place row * w + col tells its row and its column
row_col : (w r c s e : ℕ) → c < w → e < w → r * w + c ≡ s * w + e → (r ≡ s) × (c ≡ e)
row_col w r c s e l m h =
    let rows : r ≡ s = sym (div-mul-add r w c l) ∙ ap (λ n. n / w) h ∙ div-mul-add s w e m in
    (rows, omega (arith, ap (λ x. x * w) rows))

-- two places are the same if both parts are
pub same_place : (w r c s e : ℕ) → c < w → e < w → eqb (r * w + c) (s * w + e) ≡ (eqb r s && eqb c e)
same_place w r c s e l m =
    ⊎_elim
    (λ i. ⊎_elim
    (λ j. eq-eqb _ _ (ap₂ (λ x y. x * w + y) i j) ∙ sym (and_from _ _ (eq-eqb r s i) (eq-eqb c e j)))
    (λ j. ne_eqb _ _ (λ h. j (row_col w r c s e l m h).1) ∙ sym (and_right _ _ (ne_eqb c e j)))
    (cases_eq c e))
    (λ i. ne_eqb _ _ (λ h. i (row_col w r c s e l m h).0) ∙ sym (and_left _ _ (ne_eqb r s i)))
    (cases_eq r s)

-- a place lies in a part of a row of 24 if it is of that row and of those hours
in_part : (r t s f n : ℕ) → t < 24 → f + n ≤ 24 → (leb (s * 24 + f) (r * 24 + t) && ltb (r * 24 + t) (s * 24 + f + n)) ≡ (eqb r s && (leb f t && ltb t (f + n)))
in_part r t s f n l m = grind (arith, nat_tests)

and_assoc : (a b c : Bool) → ((a && b) && c) ≡ (a && (b && c))
and_assoc true b c = refl
and_assoc false b c = refl

-- and so for the row of a party and a day
pub in_range : (D p d t q e f n : ℕ) → d < D → e < D → t < 24 → f + n ≤ 24 → (leb ((q * D + e) * 24 + f) ((p * D + d) * 24 + t) && ltb ((p * D + d) * 24 + t) ((q * D + e) * 24 + f + n)) ≡ (eqb p q && (eqb d e && (leb f t && ltb t (f + n))))
in_range D p d t q e f n hd he ht hf =
    in_part (p * D + d) t (q * D + e) f n ht hf
    ∙ ap (λ b. b && (leb f t && ltb t (f + n))) (same_place D p d q e hd he)
    ∙ and_assoc (eqb p q) (eqb d e) (leb f t && ltb t (f + n))

-- every place is some party's, in some hour of some day
pub record Placed (P D k : ℕ) : Type 0 where
  pub party : ℕ
  pub day : ℕ
  pub hour : ℕ
  pub party_in : party < P
  pub day_in : day < D
  pub hour_in : hour < 24
  pub is : k ≡ (party * D + day) * 24 + hour

pub placed : (P D k : ℕ) → 0 < D → k < P * D * 24 → Placed P D k
placed P D k some h =
    let row : k / 24 < P * D = omega arith in
    let whole = div-add-mod' (k / 24) D in
    record { party = k / 24 / D; day = (k / 24) % D; hour = k % 24; party_in = div_below (k / 24) D P some row; day_in = mod_below (k / 24) D some; hour_in = omega arith; is = omega arith }

-- an hour of the page of records is some hour of some day
pub record Hour (D k : ℕ) : Type 0 where
  pub day : ℕ
  pub hour : ℕ
  pub day_in : day < D
  pub hour_in : hour < 24
  pub is : k ≡ day * 24 + hour

pub hour_placed : (D k : ℕ) → k < D * 24 → Hour D k
hour_placed D k h = record { day = k / 24; hour = k % 24; day_in = omega arith; hour_in = omega arith; is = omega arith }
