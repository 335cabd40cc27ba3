-- The walk over the numbers of fields, in the words of the layer.
use Rattle.std.proofs.Common.{◌≡◌, ℕ, ◌+◌, ◌<◌, ◌≤◌, true, false, eqb, ◌⊎◌, List, [], ◌∷◌, ◌++◌, map, length, get_or, drop, pos, neg_ℤ, Some, None, Option, sym, refl, ap, ◌∙◌, inl, inr, ⊎_elim, arith}
use Rattle.std.specs.List.{All}
use Rattle.std.proofs.lemmas.List.Elements.{All-nil, All-cons, All-head, All-tail}
use Rattle.std.proofs.lemmas.Bool.{cond-true, cond-false, cases_Bool, cases_order}
use Rattle.std.proofs.lemmas.Bool.Decides.{nat_tests}
use Rattle.brackets.specs.Grammar.{Numeral, Field, GoodField, rest}
use Rattle.words.specs.Numbers.{decimal_value, with_sign, value, Sound}
use Rattle.words.specs.Walk.{malformed, text_value, width, number_text, field_value, first_malformed}
use Rattle.words.specs.Layer.{FirstUnsound}
use Rattle.words.proofs.Decimal.{digit_at}
use Rattle.words.proofs.Naming.{length_rest, length-text}

cases_zero : (x : ℕ) → (x ≡ 48) ⊎ (x ≡ 48 → ⊥)
cases_zero x = ⊎_elim inl (λ h. inr (⊎_elim (λ l e. omega arith) (λ l e. omega arith) h)) (cases_order x 48)

-- digits with no sign
plain-sound : (ds : List ℕ) → Numeral ds → malformed ds ≡ false → (length ds ≤ 18) × (get_or ds 0 0 ≡ 48 → length ds ≡ 1)
plain-sound ds n e =
    let d : 48 ≤ get_or ds 0 0 = (digit_at ds 0 n.0 n.1).0 in
    let some : 0 < length ds = n.0 in
    (grind (arith, nat_tests), λ h. grind (arith, nat_tests))

plain_unsound : (ds : List ℕ) → Numeral ds → malformed ds ≡ true → length ds ≤ 18 → (get_or ds 0 0 ≡ 48 → length ds ≡ 1) → ⊥
plain_unsound ds n e l z =
    let d : 48 ≤ get_or ds 0 0 = (digit_at ds 0 n.0 n.1).0 in
    ⊎_elim
    (λ h. let one : length ds ≡ 1 = z h in grind (arith, nat_tests))
    (λ h. grind (arith, nat_tests))
    (cases_zero (get_or ds 0 0))

minus_sound : (ds : List ℕ) → malformed (45 ∷ ds) ≡ false → (length ds ≤ 18) × (get_or ds 0 0 ≡ 48 → ⊥)
minus_sound ds e = (grind (arith, nat_tests), λ h. grind (arith, nat_tests))

minus_unsound : (ds : List ℕ) → malformed (45 ∷ ds) ≡ true → length ds ≤ 18 → (get_or ds 0 0 ≡ 48 → ⊥) → ⊥
minus_unsound ds e l z = grind (arith, nat_tests)

-- by the sign
sound-text : (sg ds : List ℕ) → (sg ≡ []) ⊎ (sg ≡ 45 ∷ []) → Numeral ds → malformed (sg ++ ds) ≡ false → (length ds ≤ 18) × (get_or ds 0 0 ≡ 48 → (sg ≡ []) × (length ds ≡ 1))
sound-text sg ds s n m =
    ⊎_elim
    (λ e. let p = plain-sound ds n (ap (λ x. malformed (x ++ ds)) (sym e) ∙ m) in (p.0, λ h. (e, p.1 h)))
    (λ e. let p = minus_sound ds (ap (λ x. malformed (x ++ ds)) (sym e) ∙ m) in (p.0, λ h. absurd (p.1 h)))
    s

unsound_text : (sg ds : List ℕ) → (sg ≡ []) ⊎ (sg ≡ 45 ∷ []) → Numeral ds → malformed (sg ++ ds) ≡ true → length ds ≤ 18 → (get_or ds 0 0 ≡ 48 → (sg ≡ []) × (length ds ≡ 1)) → ⊥
unsound_text sg ds s n m l z =
    ⊎_elim
    (λ e. plain_unsound ds n (ap (λ x. malformed (x ++ ds)) (sym e) ∙ m) l (λ h. (z h).1))
    (λ e. minus_unsound ds (ap (λ x. malformed (x ++ ds)) (sym e) ∙ m) l (λ h. let k : 1 ≡ 0 = ap length (sym e ∙ (z h).0) in omega arith))
    s

plain_value : (ds : List ℕ) → Numeral ds → text_value ds ≡ pos (decimal_value ds)
plain_value ds n =
    let d : 48 ≤ get_or ds 0 0 = (digit_at ds 0 n.0 n.1).0 in
    let f : eqb (get_or ds 0 0) 45 ≡ false = grind (arith, nat_tests) in
    cond-false (eqb (get_or ds 0 0) 45) (neg_ℤ (pos (decimal_value (drop 1 ds)))) (pos (decimal_value ds)) f

value-text : (sg ds : List ℕ) → (sg ≡ []) ⊎ (sg ≡ 45 ∷ []) → Numeral ds → text_value (sg ++ ds) ≡ with_sign sg (decimal_value ds)
value-text sg ds s n =
    ⊎_elim
    (λ e. ap (λ x. text_value (x ++ ds)) e ∙ plain_value ds n ∙ ap (λ x. with_sign x (decimal_value ds)) (sym e))
    (λ e. ap (λ x. text_value (x ++ ds)) e ∙ ap (λ x. with_sign x (decimal_value ds)) (sym e))
    s

pub sound : (f : Field) → GoodField f → malformed (number_text f) ≡ false → Sound f
sound f g m =
    let p = sound-text f.sign f.digits g.signed g.counted m in record { few = p.0; zero_alone = p.1 }

pub unsound : (f : Field) → GoodField f → malformed (number_text f) ≡ true → Sound f → ⊥
unsound f g m s = unsound_text f.sign f.digits g.signed g.counted m s.few s.zero_alone

pub value_is : (f : Field) → GoodField f → field_value f ≡ value f
value_is f g = value-text f.sign f.digits g.signed g.counted

pub values_are : (fs : List Field) → All GoodField fs → map field_value fs ≡ map value fs
values_are [] g = refl
values_are (f ∷ fs) g = let a = value_is f (All-head GoodField f fs g) in let b = values_are fs (All-tail GoodField f fs g) in λ i. a i ∷ b i

none_not_some : {X : Type 0} (c : ℕ) → ◌≡◌ {A = Option ℕ} None (Some c) → X
none_not_some c e = let z : ◌≡◌ {A = ℕ} 0 1 = cc in absurd (omega arith)

pub all_sound : (fs : List Field) (at : ℕ) → All GoodField fs → first_malformed fs at ≡ None → All Sound fs
all_sound [] at g e = All-nil Sound
all_sound (f ∷ fs) at g e =
    ⊎_elim
    (λ bad. none_not_some (at + 4 + length f.name) (sym e ∙ cond-true (malformed (number_text f)) (Some (at + 4 + length f.name)) (first_malformed fs (at + width f)) bad))
    (λ good. All-cons Sound f fs (sound f (All-head GoodField f fs g) good) (all_sound fs (at + width f) (All-tail GoodField f fs g) (sym (cond-false (malformed (number_text f)) (Some (at + 4 + length f.name)) (first_malformed fs (at + width f)) good) ∙ e)))
    (cases_Bool (malformed (number_text f)))

-- the same fault for fields that lie from place `at` on
abbrev UnsoundAt : List Field → ℕ → ℕ → Type 0
UnsoundAt fs at col = (before : List Field) × (f : Field) × (later : List Field) × (fs ≡ before ++ (f ∷ later)) × All Sound before × (Sound f → ⊥) × (col ≡ at + length (rest before) + length f.name + 3)

unsound_at : (fs : List Field) (at col : ℕ) → All GoodField fs → first_malformed fs at ≡ Some col → UnsoundAt fs at col
unsound_at [] at col g e = none_not_some col e
unsound_at (f ∷ fs) at col g e =
    ⊎_elim
    (λ bad.
    let p : Some (at + 4 + length f.name) ≡ Some col = sym (cond-true (malformed (number_text f)) (Some (at + 4 + length f.name)) (first_malformed fs (at + width f)) bad) ∙ e in
    let c : col ≡ at + 4 + length f.name = cc in
    ([], f, fs, refl, All-nil Sound, unsound f (All-head GoodField f fs g) bad, omega arith))
    (λ good.
    let x = unsound_at fs (at + width f) col (All-tail GoodField f fs g) (sym (cond-false (malformed (number_text f)) (Some (at + 4 + length f.name)) (first_malformed fs (at + width f)) good) ∙ e) in
    let l = length_rest f x.0 in
    (f ∷ x.0, x.1, x.2, ap (λ t. f ∷ t) x.3, All-cons Sound f x.0 (sound f (All-head GoodField f fs g) good) x.4, x.5, x.6 ∙ omega arith))
    (cases_Bool (malformed (number_text f)))

-- the fault of a form whose fields begin after its head
pub first_unsound : (head : List ℕ) (fs : List Field) (col : ℕ) → All GoodField fs → first_malformed fs (1 + length head) ≡ Some col → FirstUnsound head fs col
first_unsound head fs col g e =
    let x = unsound_at fs (1 + length head) col g e in
    let l = length-text head x.0 in
    (x.0, x.1, x.2, x.3, x.4, x.5, x.6 ∙ omega arith)
