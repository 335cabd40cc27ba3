-- From number to number.
use Rattle.std.proofs.Common.{◌≡◌, ℕ, ◌+◌, ◌<◌, List, [], ◌∷◌, ◌++◌, map, length, take, set, ℤ, Some, None, Ok, Err, sym, refl, ap, ◌∙◌, subst, ⊎_elim, append_assoc, append-nil, arith}
use Rattle.std.proofs.lemmas.List.{take_more_set}
use Rattle.std.proofs.lemmas.Bool.{cond-true, cond-false, cases_Bool}
use Rattle.brackets.specs.Grammar.{Field}
use Rattle.words.specs.Walk.{malformed}
use Rattle.words.specs.Walk.{FieldAt, width}
use Rattle.words.specs.Walk.{FieldsAt}
use Rattle.words.specs.Walk.{number_text, field_value, first_malformed, one_read}
use Rattle.words.proofs.Cutting.{field_next, fields_after}

-- after i numbers: the fields that are left, and that the answer is the one for these
pub record Read (line : List ℕ) (fs : List Field) (start count i at : ℕ) (vs : List ℤ) : Type 0 where
  pub left : List Field
  pub here : FieldsAt line at left
  pub long : length left + i ≡ count
  pub same : first_malformed fs start ≡ first_malformed left at
  pub got : map field_value fs ≡ take i vs ++ map field_value left

-- a field is next
pub next_is : (line : List ℕ) (at : ℕ) (gs : List Field) → FieldsAt line at gs → 0 < length gs → (f : Field) × (fs : List Field) × FieldAt line at f fs
next_is line at [] h n = absurd (omega arith)
next_is line at (f ∷ fs) h n = (f, fs, field_next line at f fs h)

more : (line : List ℕ) (fs : List Field) (start count i at n : ℕ) (z : ℤ) (vs : List ℤ) (gs : List Field) → i < length vs → i < count → FieldsAt line at gs → length gs + i ≡ count → first_malformed fs start ≡ first_malformed gs at → map field_value fs ≡ take i vs ++ map field_value gs → ((f : Field) (hs : List Field) → FieldAt line at f hs → Ok (z, n) ≡ one_read (f ∷ hs) at) → Read line fs start count (i + 1) n (set vs i z)
more line fs start count i at n z vs [] lt less h long same got told = absurd (omega arith)
more line fs start count i at n z vs (f ∷ gs) lt less h long same got told =
    let e = told f gs (field_next line at f gs h) in
    ⊎_elim
    (λ bad.
    let p : Ok (z, n) ≡ Err (at + 4 + length f.name) = e ∙ cond-true (malformed (number_text f)) (Err (at + 4 + length f.name)) (Ok (field_value f, at + width f)) bad in
    let q : ◌≡◌ {A = ℕ} 0 1 = cc in absurd (omega arith))
    (λ good.
    let p : Ok (z, n) ≡ Ok (field_value f, at + width f) = e ∙ cond-false (malformed (number_text f)) (Err (at + 4 + length f.name)) (Ok (field_value f, at + width f)) good in
    let q : ◌≡◌ {A = ℤ × ℕ} (z, n) (field_value f, at + width f) = cc in
    let v : field_value f ≡ z = sym (ap (λ (y : ℤ × ℕ). y.0) q) in
    let m : at + width f ≡ n = sym (ap (λ (y : ℤ × ℕ). y.1) q) in
    record {
      left = gs;
      here = subst (λ k. FieldsAt line k gs) m (fields_after line at f gs h);
      long = omega arith;
      same = same ∙ cond-false (malformed (number_text f)) (Some (at + 4 + length f.name)) (first_malformed gs (at + width f)) good ∙ ap (first_malformed gs) m;
      got = got ∙ ap (λ y. take i vs ++ (y ∷ map field_value gs)) v ∙ sym (append_assoc (take i vs) (z ∷ []) (map field_value gs)) ∙ ap (λ l. l ++ map field_value gs) (sym (take_more_set vs i z lt));
    })
    (cases_Bool (malformed (number_text f)))

pub read_more : (line : List ℕ) (fs : List Field) (start count i at n : ℕ) (z : ℤ) (vs : List ℤ) → i < length vs → i < count → ((f : Field) (hs : List Field) → FieldAt line at f hs → Ok (z, n) ≡ one_read (f ∷ hs) at) → Read line fs start count i at vs → Read line fs start count (i + 1) n (set vs i z)
read_more line fs start count i at n z vs lt less told r = more line fs start count i at n z vs r.left lt less r.here r.long r.same r.got told

bad_one : (line : List ℕ) (at col : ℕ) (gs : List Field) → FieldsAt line at gs → 0 < length gs → ((f : Field) (hs : List Field) → FieldAt line at f hs → Err col ≡ one_read (f ∷ hs) at) → first_malformed gs at ≡ Some col
bad_one line at col [] h n told = absurd (omega arith)
bad_one line at col (f ∷ gs) h n told =
    let e = told f gs (field_next line at f gs h) in
    ⊎_elim
    (λ bad.
    let p : Err col ≡ Err (at + 4 + length f.name) = e ∙ cond-true (malformed (number_text f)) (Err (at + 4 + length f.name)) (Ok (field_value f, at + width f)) bad in
    let q : at + 4 + length f.name ≡ col = cc in
    cond-true (malformed (number_text f)) (Some (at + 4 + length f.name)) (first_malformed gs (at + width f)) bad ∙ ap Some q)
    (λ good.
    let p : Err col ≡ Ok (field_value f, at + width f) = e ∙ cond-false (malformed (number_text f)) (Err (at + 4 + length f.name)) (Ok (field_value f, at + width f)) good in
    let q : ◌≡◌ {A = ℕ} 0 1 = cc in absurd (omega arith))
    (cases_Bool (malformed (number_text f)))

pub read_err : (line : List ℕ) (fs : List Field) (start count i at col : ℕ) (vs : List ℤ) → i < count → ((f : Field) (hs : List Field) → FieldAt line at f hs → Err col ≡ one_read (f ∷ hs) at) → Read line fs start count i at vs → first_malformed fs start ≡ Some col
read_err line fs start count i at col vs less told r = r.same ∙ bad_one line at col r.left r.here (omega (arith, r.long)) told

none_left : (at : ℕ) (gs : List Field) → length gs ≡ 0 → (first_malformed gs at ≡ None) × (map field_value gs ≡ [])
none_left at [] e = (refl, refl)
none_left at (g ∷ gs) e = absurd (omega arith)

pub read_all : (line : List ℕ) (fs : List Field) (start count i at : ℕ) (vs : List ℤ) → i ≡ count → Read line fs start count i at vs → (first_malformed fs start ≡ None) × (take count vs ≡ map field_value fs)
read_all line fs start count i at vs e r =
    let n = none_left at r.left (omega (arith, r.long)) in
    (r.same ∙ n.0, ap (λ k. take k vs) (sym e) ∙ sym (append-nil (take i vs)) ∙ ap (λ l. take i vs ++ l) (sym n.1) ∙ sym r.got)
