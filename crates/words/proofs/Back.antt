-- Reading what is written gives it back: of all answers that a line may get, the text of a form has one.
use Rattle.std.proofs.Common.{◌≡◌, ℕ, ◌+◌, ◌≤◌, Bool, true, false, cond, ◌⊎◌, List, [], ◌∷◌, ◌++◌, length, get_or, ℤ, pos, Ok, Err, Result, sym, refl, ap, ◌∙◌, subst, ⊎_elim, append_assoc, arith}
use Rattle.std.specs.List.{All}
use Rattle.std.proofs.lemmas.List.Elements.{All-nil, All-cons, All-head, All-tail, All-append, All-weaker}
use Rattle.std.specs.Str.{bytes_eq}
use Rattle.std.proofs.lemmas.List.{map-append}
use Rattle.std.proofs.lemmas.Bool.{cond_both, both_ways}
use Rattle.std.proofs.lemmas.Bool.Decides.{nat_tests}
use Rattle.brackets.specs.declared.BracketFault.TheVariants.{Long, Byte, Shape}
use Rattle.brackets.specs.Bytes.{Letter, Digit, letter, admitted, Admitted, Clean}
use Rattle.brackets.specs.Grammar.{Word, Field, GoodField, rest, IsForm}
use Rattle.words.specs.declared.form.Form.{Form}
use Rattle.words.specs.declared.form.Form.TheVariants.{Book, Entry as Entered, Show}
use Rattle.entries.specs.declared.entry.Entry.TheVariants.{Deposit, Withdraw, Register, Market, Close, Regulate, Meter, Evaluate}
use Rattle.words.specs.declared.reading.Kind.{Kind}
use Rattle.words.specs.declared.reading.Kind.TheVariants.{Book as book, Deposit as deposit, Withdraw as withdraw, Register as register, Market as market, Close as close, Regulate as regulate, Meter as meter, Evaluate as evaluate, Show as show}
use Rattle.words.specs.declared.faults.WordFault.{WordFault}
use Rattle.words.specs.declared.faults.WordFault.TheVariants.{Bracket, Head, Field as Misnamed, Number as Malformed}
use Rattle.words.specs.Forms.{kind_of, numbers_of}
use Rattle.words.specs.Heads.{head_text, field_names}
use Rattle.words.specs.Numbers.{Sound}
use Rattle.words.specs.Layer.{name_of, names_of, Misfit, FirstUnsound, Reads}
use Rattle.words.specs.Written.{fields_of, form_text, Short, ReadsBack}
use Rattle.words.proofs.Naming.{length-text}
use Rattle.words.proofs.Writing.{all_good, all_sound_of, names_of_lem, values_of, room, within}

-- whether a word, or each of some words, is of letters
abbrev lettered : List ℕ → Bool
lettered [] = true
lettered (b ∷ w) = cond (letter b) (lettered w) false

letters : (w : List ℕ) → lettered w ≡ true → All Letter w
letters [] e = All-nil Letter
letters (b ∷ w) e =
    cond_both (letter b) (lettered w) false (λ r. r ≡ true → All Letter (b ∷ w))
    (λ l k. All-cons Letter b w (grind (arith, nat_tests)) (letters w k))
    (λ l k. absurd (both_ways false refl k)) e

abbrev worded : List (List ℕ) → Bool
worded [] = true
worded ([] ∷ ws) = false
worded ((b ∷ w) ∷ ws) = cond (lettered (b ∷ w)) (worded ws) false

words : (ws : List (List ℕ)) → worded ws ≡ true → All Word ws
words [] e = All-nil Word
words ([] ∷ ws) e = absurd (both_ways false refl e)
words ((b ∷ w) ∷ ws) e =
    cond_both (lettered (b ∷ w)) (worded ws) false (λ r. r ≡ true → All Word ((b ∷ w) ∷ ws))
    (λ l k. All-cons Word (b ∷ w) ws (omega arith, letters (b ∷ w) l) (words ws k))
    (λ l k. absurd (both_ways false refl k)) e

table_words : (k : Kind) → worded (head_text k ∷ field_names k) ≡ true
table_words book = refl
table_words deposit = refl
table_words withdraw = refl
table_words register = refl
table_words market = refl
table_words close = refl
table_words regulate = refl
table_words meter = refl
table_words evaluate = refl
table_words show = refl

-- the longest text of each form
table_room : (k : Kind) → 1 + length (head_text k) + room (field_names k) ≤ 200
table_room book = omega arith
table_room deposit = omega arith
table_room withdraw = omega arith
table_room register = omega arith
table_room market = omega arith
table_room close = omega arith
table_room regulate = omega arith
table_room meter = omega arith
table_room evaluate = omega arith
table_room show = omega arith

-- no two forms have one head
abbrev kind_from : List ℕ → Kind
kind_from w =
    cond (bytes_eq w (head_text book)) book
    (cond (bytes_eq w (head_text deposit)) deposit
    (cond (bytes_eq w (head_text withdraw)) withdraw
    (cond (bytes_eq w (head_text register)) register
    (cond (bytes_eq w (head_text market)) market
    (cond (bytes_eq w (head_text close)) close
    (cond (bytes_eq w (head_text regulate)) regulate
    (cond (bytes_eq w (head_text meter)) meter
    (cond (bytes_eq w (head_text evaluate)) evaluate show))))))))

from_head : (k : Kind) → kind_from (head_text k) ≡ k
from_head book = refl
from_head deposit = refl
from_head withdraw = refl
from_head register = refl
from_head market = refl
from_head close = refl
from_head regulate = refl
from_head meter = refl
from_head evaluate = refl
from_head show = refl

pub one_kind : (j k : Kind) → head_text j ≡ head_text k → j ≡ k
one_kind j k e = sym (from_head j) ∙ ap kind_from e ∙ from_head k

as_many : (f : Form) → length (field_names (kind_of f)) ≡ length (numbers_of f)
as_many (Book a b c d e) = refl
as_many (Entered (Deposit a b)) = refl
as_many (Entered (Withdraw a b)) = refl
as_many (Entered (Register a b c d e f)) = refl
as_many (Entered (Market a b c d e f g)) = refl
as_many (Entered (Close a)) = refl
as_many (Entered (Regulate a b c d e)) = refl
as_many (Entered (Meter a b c d e)) = refl
as_many (Entered (Evaluate a b)) = refl
as_many (Show a) = refl

abbrev at : List ℤ → ℕ → ℤ
at zs i = get_or zs i (pos 0)

-- a form is its kind and its numbers
abbrev rebuilt : Kind → List ℤ → Form
rebuilt book v = Book (at v 0) (at v 1) (at v 2) (at v 3) (at v 4)
rebuilt deposit v = Entered (Deposit (at v 0) (at v 1))
rebuilt withdraw v = Entered (Withdraw (at v 0) (at v 1))
rebuilt register v = Entered (Register (at v 0) (at v 1) (at v 2) (at v 3) (at v 4) (at v 5))
rebuilt market v = Entered (Market (at v 0) (at v 1) (at v 2) (at v 3) (at v 4) (at v 5) (at v 6))
rebuilt close v = Entered (Close (at v 0))
rebuilt regulate v = Entered (Regulate (at v 0) (at v 1) (at v 2) (at v 3) (at v 4))
rebuilt meter v = Entered (Meter (at v 0) (at v 1) (at v 2) (at v 3) (at v 4))
rebuilt evaluate v = Entered (Evaluate (at v 0) (at v 1))
rebuilt show v = Show (at v 0)

rebuilt_is : (f : Form) → rebuilt (kind_of f) (numbers_of f) ≡ f
rebuilt_is (Book a b c d e) = refl
rebuilt_is (Entered (Deposit a b)) = refl
rebuilt_is (Entered (Withdraw a b)) = refl
rebuilt_is (Entered (Register a b c d e f)) = refl
rebuilt_is (Entered (Market a b c d e f g)) = refl
rebuilt_is (Entered (Close a)) = refl
rebuilt_is (Entered (Regulate a b c d e)) = refl
rebuilt_is (Entered (Meter a b c d e)) = refl
rebuilt_is (Entered (Evaluate a b)) = refl
rebuilt_is (Show a) = refl

pub one_form : (f g : Form) → kind_of f ≡ kind_of g → numbers_of f ≡ numbers_of g → f ≡ g
one_form f g k n = sym (rebuilt_is f) ∙ (λ i. rebuilt (k i) (n i)) ∙ rebuilt_is g

abbrev fields_in : Form → List Field
fields_in f = fields_of (field_names (kind_of f)) (numbers_of f)

is_form : (f : Form) → Short f → IsForm (form_text f) (head_text (kind_of f)) (fields_in f)
is_form f s =
    let w = words (head_text (kind_of f) ∷ field_names (kind_of f)) (table_words (kind_of f)) in
    (All-head Word (head_text (kind_of f)) (field_names (kind_of f)) w, all_good (field_names (kind_of f)) (numbers_of f) (All-tail Word (head_text (kind_of f)) (field_names (kind_of f)) w) s, refl)

not_long : (f : Form) → Short f → length (form_text f) ≤ 200
not_long f s =
    let l = length-text (head_text (kind_of f)) (fields_in f) in
    let w = within (field_names (kind_of f)) (numbers_of f) s in
    let t = table_room (kind_of f) in
    omega arith

-- the bytes of a form are admitted
letter_in : (b : ℕ) → Letter b → Admitted b
letter_in b h = grind (arith, nat_tests)

digit_in : (b : ℕ) → Digit b → Admitted b
digit_in b h = grind (arith, nat_tests)

sign_in : (sg : List ℕ) → (sg ≡ []) ⊎ (sg ≡ 45 ∷ []) → All Admitted sg
sign_in sg s = ⊎_elim (λ e. subst (All Admitted) (sym e) (All-nil Admitted)) (λ e. subst (All Admitted) (sym e) (All-cons Admitted 45 [] refl (All-nil Admitted))) s

word_in : (w : List ℕ) → Word w → All Admitted w
word_in w h = All-weaker Letter Admitted letter_in w h.1

rest_in : (fs : List Field) → All GoodField fs → All Admitted (rest fs)
rest_in [] g = All-cons Admitted 41 [] refl (All-nil Admitted)
rest_in (f ∷ fs) g =
    let good = All-head GoodField f fs g in
    let name : List ℕ = f.name ++ (32 ∷ (f.sign ++ (f.digits ++ (41 ∷ rest fs)))) in
    let tail : All Admitted (41 ∷ rest fs) = All-cons Admitted 41 (rest fs) refl (rest_in fs (All-tail GoodField f fs g)) in
    let ds : All Admitted (f.digits ++ (41 ∷ rest fs)) = All-append Admitted f.digits (41 ∷ rest fs) (All-weaker Digit Admitted digit_in f.digits good.counted.1) tail in
    let number : All Admitted (f.sign ++ (f.digits ++ (41 ∷ rest fs))) = All-append Admitted f.sign (f.digits ++ (41 ∷ rest fs)) (sign_in f.sign good.signed) ds in
    All-cons Admitted 32 (40 ∷ name) refl (All-cons Admitted 40 name refl (All-append Admitted f.name (32 ∷ (f.sign ++ (f.digits ++ (41 ∷ rest fs)))) (word_in f.name good.named) (All-cons Admitted 32 (f.sign ++ (f.digits ++ (41 ∷ rest fs))) refl number)))

pub clean : (line head : List ℕ) (fields : List Field) → IsForm line head fields → Clean line
clean line head fields h =
    subst (All Admitted) (sym h.2) (All-cons Admitted 40 (head ++ rest fields) refl (All-append Admitted head (rest fields) (word_in head h.0) (rest_in fields h.1)))

-- no field is at fault
pub fits : (ns : List (List ℕ)) (head : List ℕ) (fs : List Field) (col : ℕ) → names_of fs ≡ ns → Misfit ns head fs col → ⊥
fits ns head fs col e m =
    ⊎_elim
    (λ x.
    let s : x.0 ++ (x.1 ∷ x.2) ≡ (x.0 ++ (x.1 ∷ [])) ++ x.2 = sym (append_assoc x.0 (x.1 ∷ []) x.2) in
    x.5 (names_of x.2, sym e ∙ ap names_of (x.3 ∙ s) ∙ map-append name_of (x.0 ++ (x.1 ∷ [])) x.2))
    (λ x. x.1 e)
    m

later : (before : List Field) (f : Field) (after : List Field) → All Sound (before ++ (f ∷ after)) → Sound f
later [] f after a = All-head Sound f after a
later (b ∷ before) f after a = later before f after (All-tail Sound b (before ++ (f ∷ after)) a)

pub all_fit : (head : List ℕ) (fs : List Field) (col : ℕ) → All Sound fs → FirstUnsound head fs col → ⊥
all_fit head fs col a x = x.5 (later x.0 x.1 x.2 (subst (All Sound) x.3 a))

same : (f : Form) (line : List ℕ) (r : Result Form WordFault) → Short f → line ≡ form_text f → Reads line r → r ≡ Ok f
same f line (Err (Bracket Long)) s e h = let l = not_long f s in let q = ap length e in absurd (omega arith)
same f line (Err (Bracket (Byte c))) s e h =
    let k : IsForm line (head_text (kind_of f)) (fields_in f) = subst (λ l. IsForm l (head_text (kind_of f)) (fields_in f)) (sym e) (is_form f s) in
    absurd (both_ways (admitted (get_or line h.1.0 0)) h.1.3 (clean line (head_text (kind_of f)) (fields_in f) k h.1.0 0 h.1.2))
same f line (Err (Bracket (Shape c))) s e h =
    let k : IsForm line (head_text (kind_of f)) (fields_in f) = subst (λ l. IsForm l (head_text (kind_of f)) (fields_in f)) (sym e) (is_form f s) in
    absurd (h.2.unformed (head_text (kind_of f), fields_in f, k))
same f line (Err Head) s e h =
    let k : IsForm line (head_text (kind_of f)) (fields_in f) = subst (λ l. IsForm l (head_text (kind_of f)) (fields_in f)) (sym e) (is_form f s) in
    absurd (h.1 (head_text (kind_of f)) (fields_in f) k (kind_of f) refl)
same f line (Err (Misnamed c)) s e h =
    let k : IsForm line (head_text (kind_of f)) (fields_in f) = subst (λ l. IsForm l (head_text (kind_of f)) (fields_in f)) (sym e) (is_form f s) in
    let x = h.1 (head_text (kind_of f)) (fields_in f) k in
    absurd (fits (field_names x.0) (head_text (kind_of f)) (fields_in f) c (names_of_lem (field_names (kind_of f)) (numbers_of f) (as_many f) ∙ ap field_names (one_kind (kind_of f) x.0 x.1)) x.2)
same f line (Err (Malformed c)) s e h =
    let k : IsForm line (head_text (kind_of f)) (fields_in f) = subst (λ l. IsForm l (head_text (kind_of f)) (fields_in f)) (sym e) (is_form f s) in
    let x = h.1 (head_text (kind_of f)) (fields_in f) k in
    absurd (all_fit (head_text (kind_of f)) (fields_in f) c (all_sound_of (field_names (kind_of f)) (numbers_of f) s) x.3)
same f line (Ok g) s e h =
    let k : IsForm line (head_text (kind_of f)) (fields_in f) = subst (λ l. IsForm l (head_text (kind_of f)) (fields_in f)) (sym e) (is_form f s) in
    let x = h.1 (head_text (kind_of f)) (fields_in f) k in
    ap Ok (one_form g f (sym (one_kind (kind_of f) (kind_of g) x.0)) (sym x.3 ∙ values_of (field_names (kind_of f)) (numbers_of f) (as_many f) s))

pub reads_back : (line : List ℕ) (r : Result Form WordFault) → Reads line r → ReadsBack line r
reads_back line r h f s e = same f line r s e h
