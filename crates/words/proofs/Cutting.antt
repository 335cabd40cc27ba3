-- Where the parts of a field lie.
use Rattle.std.proofs.Common.{◌≡◌, ℕ, ◌+◌, ◌-◌, ◌<◌, ◌≤◌, Bool, true, false, cond, Some, None, ltb, ◌⊎◌, List, [], ◌∷◌, ◌++◌, length, take, drop, sym, refl, ap, ◌∙◌, subst, ⊎_elim, append_assoc, arith, length-append, length-drop}
use lib.Seq.{drop-append-add}
use Rattle.std.specs.List.{All, before_first, position_from, position_or_len}
use Rattle.std.specs.Option.{unwrap_or}
use Rattle.std.proofs.lemmas.Grind.{common_steps}
use Rattle.std.proofs.lemmas.Iterator.Adapters.{position_from-zero}
use Rattle.std.proofs.lemmas.List.Sums.{prefix_len-le-length, position_or_len_is}
use Rattle.std.proofs.lemmas.List.Elements.{All-nil, All-cons, All-head, All-tail, All-get_or, All-append, All-weaker}
use Rattle.std.proofs.lemmas.List.{get_or_append_left, get_or_at, drop-drop, take_at, take_rest}
use Rattle.std.proofs.lemmas.Bool.Decides.{nat_tests}
use Rattle.brackets.specs.Bytes.{Letter, Digit}
use Rattle.brackets.specs.Grammar.{Field, GoodField, rest}
use Rattle.words.specs.Walk.{stops, FieldAt, FieldsAt, width}

abbrev Inner : ℕ → Type 0
Inner b = stops b ≡ false

letter-inner : (b : ℕ) → Letter b → Inner b
letter-inner b h = grind (arith, nat_tests)

digit-inner : (b : ℕ) → Digit b → Inner b
digit-inner b h = grind (arith, nat_tests)

pub name-inner : (f : Field) → GoodField f → All Inner f.name
name-inner f g = All-weaker Letter Inner letter-inner f.name g.named.1

sign-inner : (sg : List ℕ) → (sg ≡ []) ⊎ (sg ≡ 45 ∷ []) → All Inner sg
sign-inner sg s = ⊎_elim (λ e. subst (All Inner) (sym e) (All-nil Inner)) (λ e. subst (All Inner) (sym e) (All-cons Inner 45 [] refl (All-nil Inner))) s

pub number-inner : (f : Field) → GoodField f → All Inner (f.sign ++ f.digits)
number-inner f g =
    All-append Inner f.sign f.digits (sign-inner f.sign g.signed) (All-weaker Digit Inner digit-inner f.digits g.counted.1)

unwrap_cut : (a n : ℕ) → a ≤ n → unwrap_or (cond (ltb a n) (Some a) None) n ≡ a
unwrap_cut a n h = grind (arith, common_steps)

-- where the test passes first, or the length
pub unwrap_position : {B : Type 0} (test : B → Bool) (xs : List B) → unwrap_or (position_from test 0 xs) (length xs) ≡ position_or_len test xs
unwrap_position test xs = rw (← position_from-zero test xs) (unwrap_cut (position_or_len test xs) (length xs) (prefix_len-le-length _ xs))

pub position_within : {B : Type 0} (test : B → Bool) (xs : List B) → position_or_len test xs ≤ length xs
position_within test xs = prefix_len-le-length _ xs

-- a word of the line ends where its bytes end
pub word_is : (rest w : List ℕ) (c : ℕ) (t : List ℕ) → rest ≡ w ++ (c ∷ t) → All Inner w → stops c ≡ true → before_first stops rest ≡ w
word_is rest w c t e inner stop =
    let p : position_or_len stops (w ++ (c ∷ t)) ≡ length w =
    position_or_len_is stops (w ++ (c ∷ t)) (length w) 0 (omega (arith, length-append w (c ∷ t)))
    (λ k l. ap stops (get_or_append_left w (c ∷ t) 0 k l) ∙ All-get_or Inner w k 0 l inner)
    (λ _. ap stops (get_or_at w c t 0 (length w) refl) ∙ stop) in
    ap (before_first stops) e ∙ ap (λ n. take n (w ++ (c ∷ t))) p ∙ take_at w (c ∷ t) (length w) refl

-- the same of the rest of a line
cut_word : (line : List ℕ) (n : ℕ) (w : List ℕ) (c : ℕ) (t : List ℕ) → drop n line ≡ w ++ (c ∷ t) → All Inner w → stops c ≡ true → before_first stops (take (length line - n) (drop n line)) ≡ w
cut_word line n w c t e inner stop = word_is (take (length line - n) (drop n line)) w c t (take_rest line n ∙ e) inner stop

pub name_cut : (line : List ℕ) (at : ℕ) (f : Field) (fs : List Field) → FieldAt line at f fs → drop (at + 2) line ≡ f.name ++ (32 ∷ ((f.sign ++ f.digits) ++ (41 ∷ rest fs)))
name_cut line at f fs h =
    sym (drop-drop 2 at line) ∙ ap (drop 2) h.1 ∙ ap (λ l. f.name ++ (32 ∷ l)) (sym (append_assoc f.sign f.digits (41 ∷ rest fs)))

past : (w : List ℕ) (c : ℕ) (t line : List ℕ) (n : ℕ) → drop n line ≡ w ++ (c ∷ t) → drop (n + (length w + 1)) line ≡ t
past w c t line n e = sym (drop-drop (length w + 1) n line) ∙ ap (drop (length w + 1)) e ∙ drop-append-add w (c ∷ t) 1

pub number_cut : (line : List ℕ) (at : ℕ) (f : Field) (fs : List Field) → FieldAt line at f fs → drop (at + 2 + (length f.name + 1)) line ≡ (f.sign ++ f.digits) ++ (41 ∷ rest fs)
number_cut line at f fs h = past f.name 32 ((f.sign ++ f.digits) ++ (41 ∷ rest fs)) line (at + 2) (name_cut line at f fs h)

pub rest_cut : (line : List ℕ) (at : ℕ) (f : Field) (fs : List Field) → FieldAt line at f fs → drop (at + width f) line ≡ rest fs
rest_cut line at f fs h =
    let e : at + width f ≡ at + 2 + (length f.name + 1) + (length (f.sign ++ f.digits) + 1) = omega arith in
    ap (λ n. drop n line) e ∙ past (f.sign ++ f.digits) 41 (rest fs) line (at + 2 + (length f.name + 1)) (number_cut line at f fs h)

-- the next field, and the fields after it
pub field_next : (line : List ℕ) (at : ℕ) (f : Field) (fs : List Field) → FieldsAt line at (f ∷ fs) → FieldAt line at f fs
field_next line at f fs h = (All-head GoodField f fs h.0, h.1)

pub fields_after : (line : List ℕ) (at : ℕ) (f : Field) (fs : List Field) → FieldsAt line at (f ∷ fs) → FieldsAt line (at + width f) fs
fields_after line at f fs h = (All-tail GoodField f fs h.0, rest_cut line at f fs (field_next line at f fs h))

-- a field's name and number, as they are cut
pub name_is : (line : List ℕ) (at : ℕ) (f : Field) (fs : List Field) → FieldAt line at f fs → before_first stops (take (length line - (at + 2)) (drop (at + 2) line)) ≡ f.name
name_is line at f fs h = cut_word line (at + 2) f.name 32 _ (name_cut line at f fs h) (name-inner f h.0) refl

pub number_is : (line : List ℕ) (at n : ℕ) (f : Field) (fs : List Field) → n ≡ length f.name → FieldAt line at f fs → before_first stops (take (length line - (at + 3 + n)) (drop (at + 3 + n) line)) ≡ f.sign ++ f.digits
number_is line at n f fs e h =
    let p : at + 3 + n ≡ at + 2 + (length f.name + 1) = omega arith in
    cut_word line (at + 3 + n) (f.sign ++ f.digits) 41 (rest fs) (ap (λ k. drop k line) p ∙ number_cut line at f fs h) (number-inner f h.0) refl

some : (fs : List Field) → 0 < length (rest fs)
some [] = omega arith
some (f ∷ fs) = omega arith

pub room : (line : List ℕ) (at : ℕ) (f : Field) (fs : List Field) → FieldAt line at f fs → at + width f < length line
room line at f fs h =
    let l = sym (length-drop (at + width f) line) ∙ ap length (rest_cut line at f fs h) in
    omega (arith, some fs)
