-- A line has one answer of layers 1 and 2: the relations of the layer say no more and no less than the walk over the fields.
use Rattle.std.proofs.Common.{◌≡◌, ℕ, ◌+◌, true, ◌⊎◌, List, [], ◌∷◌, ◌++◌, length, Some, Ok, Err, Option, Result, sym, refl, ap, ◌∙◌, subst, inl, inr, ⊎_elim, arith}
use Rattle.std.specs.List.{All}
use Rattle.std.proofs.lemmas.List.Elements.{All-head, All-tail}
use Rattle.std.specs.Str.{bytes_eq}
use Rattle.std.proofs.lemmas.Slice.Eq.{bytes_eq-Decides}
use Rattle.std.proofs.lemmas.Bool.{cond-true, cond-false, cases_Bool}
use Rattle.brackets.specs.declared.BracketFault.{BracketFault}
use Rattle.brackets.specs.Grammar.{Field, GoodField, rest}
use Rattle.brackets.specs.Layer.{Brackets}
use Rattle.brackets.proofs.Once.{bracket_once}
use Rattle.words.specs.declared.form.Form.{Form}
use Rattle.words.specs.declared.reading.Kind.{Kind}
use Rattle.words.specs.declared.faults.WordFault.{WordFault}
use Rattle.words.specs.declared.faults.WordFault.TheVariants.{Bracket, Head, Field as Misnamed, Number as Malformed}
use Rattle.words.specs.Forms.{kind_of}
use Rattle.words.specs.Heads.{head_text, field_names}
use Rattle.words.specs.Numbers.{Sound}
use Rattle.words.specs.Walk.{malformed, width, number_text, all_named, first_malformed}
use Rattle.words.specs.Layer.{names_of, Starts, Misfit, FirstUnsound, OfForm, Shaped, Reads, Once}
use Rattle.words.specs.Written.{Answers}
use Rattle.words.proofs.Naming.{length_rest, length-text, starts_more, starts_less, starts_first, starts_none}
use Rattle.words.proofs.Soundness.{sound, unsound}
use Rattle.words.proofs.Back.{one_kind, one_form, fits, all_fit, reads_back}

-- names that are wrong or missing, as the walk finds them
wrong_is : (ns : List (List ℕ)) (before : List Field) (f : Field) (later : List Field) (at : ℕ) → Starts ns (names_of before) → (Starts ns (names_of (before ++ (f ∷ []))) → ⊥) → all_named ns (before ++ (f ∷ later)) at ≡ Err (at + length (rest before) + 1)
wrong_is [] [] f later at s t = ap Err (omega arith)
wrong_is [] (b ∷ before) f later at s t = absurd (starts_none b.name (names_of before) s)
wrong_is (n ∷ ns) [] f later at s t =
    ⊎_elim
    (λ same. absurd (t (starts_more n f.name ns [] (sym ((bytes_eq-Decides f.name n).0 same)) (ns, refl))))
    (λ other. let e : at + 2 ≡ at + length (rest []) + 1 = omega arith in cond-false (bytes_eq f.name n) (all_named ns later (at + width f)) (Err (at + 2)) other ∙ ap Err e)
    (cases_Bool (bytes_eq f.name n))
wrong_is (n ∷ ns) (b ∷ before) f later at s t =
    let m : n ≡ b.name = starts_first n b.name ns (names_of before) s in
    let same : bytes_eq b.name n ≡ true = (bytes_eq-Decides b.name n).1 (sym m) in
    let l = length_rest b before in
    let e : at + width b + length (rest before) + 1 ≡ at + length (rest (b ∷ before)) + 1 = omega arith in
    cond-true (bytes_eq b.name n) (all_named ns (before ++ (f ∷ later)) (at + width b)) (Err (at + 2)) same
    ∙ wrong_is ns before f later (at + width b) (starts_less n b.name ns (names_of before) s) (λ q. t (starts_more n b.name ns (names_of (before ++ (f ∷ []))) m q))
    ∙ ap Err e

missing_is : (ns : List (List ℕ)) (fs : List Field) (at : ℕ) → Starts ns (names_of fs) → (names_of fs ≡ ns → ⊥) → all_named ns fs at ≡ Err (at + length (rest fs))
missing_is [] [] at s t = absurd (t refl)
missing_is [] (f ∷ fs) at s t = absurd (starts_none f.name (names_of fs) s)
missing_is (n ∷ ns) [] at s t = ap Err (omega arith)
missing_is (n ∷ ns) (f ∷ fs) at s t =
    let m : n ≡ f.name = starts_first n f.name ns (names_of fs) s in
    let same : bytes_eq f.name n ≡ true = (bytes_eq-Decides f.name n).1 (sym m) in
    let l = length_rest f fs in
    let e : at + width f + length (rest fs) ≡ at + length (rest (f ∷ fs)) = omega arith in
    cond-true (bytes_eq f.name n) (all_named ns fs (at + width f)) (Err (at + 2)) same
    ∙ missing_is ns fs (at + width f) (starts_less n f.name ns (names_of fs) s) (λ q. t (λ i. sym m i ∷ q i))
    ∙ ap Err e

misfit_is : (ns : List (List ℕ)) (head : List ℕ) (fs : List Field) (col : ℕ) → Misfit ns head fs col → all_named ns fs (1 + length head) ≡ Err col
misfit_is ns head fs col m =
    ⊎_elim
    (λ x.
    let l = length-text head x.0 in
    let c : 1 + length head + length (rest x.0) + 1 ≡ col = omega (arith, x.6) in
    ap (λ gs. all_named ns gs (1 + length head)) x.3 ∙ wrong_is ns x.0 x.1 x.2 (1 + length head) x.4 x.5 ∙ ap Err c)
    (λ x.
    let l = length-text head fs in
    let c : 1 + length head + length (rest fs) ≡ col = omega (arith, x.2) in
    missing_is ns fs (1 + length head) x.0 x.1 ∙ ap Err c)
    m

-- the first number that is not sound, as the walk finds it
unsound_is : (before : List Field) (f : Field) (later : List Field) (at : ℕ) → All GoodField (before ++ (f ∷ later)) → All Sound before → (Sound f → ⊥) → first_malformed (before ++ (f ∷ later)) at ≡ Some (at + length (rest before) + length f.name + 3)
unsound_is [] f later at g s t =
    ⊎_elim
    (λ bad. let e : at + 4 + length f.name ≡ at + length (rest []) + length f.name + 3 = omega arith in cond-true (malformed (number_text f)) (Some (at + 4 + length f.name)) (first_malformed later (at + width f)) bad ∙ ap Some e)
    (λ fine. absurd (t (sound f (All-head GoodField f later g) fine)))
    (cases_Bool (malformed (number_text f)))
unsound_is (b ∷ before) f later at g s t =
    ⊎_elim
    (λ bad. absurd (unsound b (All-head GoodField b (before ++ (f ∷ later)) g) bad (All-head Sound b before s)))
    (λ fine.
    let l = length_rest b before in
    let e : at + width b + length (rest before) + length f.name + 3 ≡ at + length (rest (b ∷ before)) + length f.name + 3 = omega arith in
    cond-false (malformed (number_text b)) (Some (at + 4 + length b.name)) (first_malformed (before ++ (f ∷ later)) (at + width b)) fine
    ∙ unsound_is before f later (at + width b) (All-tail GoodField b (before ++ (f ∷ later)) g) (All-tail Sound b before s) t
    ∙ ap Some e)
    (cases_Bool (malformed (number_text b)))

first_unsound_is : (head : List ℕ) (fs : List Field) (col : ℕ) → All GoodField fs → FirstUnsound head fs col → first_malformed fs (1 + length head) ≡ Some col
first_unsound_is head fs col g x =
    let l = length-text head x.0 in
    let c : 1 + length head + length (rest x.0) + length x.1.name + 3 ≡ col = omega (arith, x.6) in
    ap (λ gs. first_malformed gs (1 + length head)) x.3 ∙ unsound_is x.0 x.1 x.2 (1 + length head) (subst (All GoodField) x.3 g) x.4 x.5 ∙ ap Some c

one_misfit : (j k : Kind) (head : List ℕ) (fs : List Field) (c d : ℕ) → head ≡ head_text j → head ≡ head_text k → Misfit (field_names j) head fs c → Misfit (field_names k) head fs d → c ≡ d
one_misfit j k head fs c d e f x y =
    let p : ◌≡◌ {A = Result ℕ ℕ} (Err c) (Err d) = sym (misfit_is (field_names j) head fs c x) ∙ ap (λ i. all_named (field_names i) fs (1 + length head)) (one_kind j k (sym e ∙ f)) ∙ misfit_is (field_names k) head fs d y in
    cc

one_unsound : (head : List ℕ) (fs : List Field) (c d : ℕ) → All GoodField fs → FirstUnsound head fs c → FirstUnsound head fs d → c ≡ d
one_unsound head fs c d g x y =
    let p : ◌≡◌ {A = Option ℕ} (Some c) (Some d) = sym (first_unsound_is head fs c g x) ∙ first_unsound_is head fs d g y in cc

-- the names of one kind are not at fault by another of the same head
misfit_not : {X : Type 0} (j k : Kind) (head : List ℕ) (fs : List Field) (c : ℕ) → head ≡ head_text j → head ≡ head_text k → Misfit (field_names j) head fs c → names_of fs ≡ field_names k → X
misfit_not j k head fs c e f m n = absurd (fits (field_names j) head fs c (n ∙ ap field_names (one_kind k j (sym f ∙ e))) m)

form_once : (head : List ℕ) (fs : List Field) (r s : Result Form WordFault) → All GoodField fs → OfForm head fs r → OfForm head fs s → r ≡ s
form_once head fs (Err (Bracket f)) s g x y = absurd x
form_once head fs (Err Head) (Err (Bracket f)) g x y = absurd y
form_once head fs (Err Head) (Err Head) g x y = refl
form_once head fs (Err Head) (Err (Misnamed d)) g x y = absurd (x y.0 y.1)
form_once head fs (Err Head) (Err (Malformed d)) g x y = absurd (x y.0 y.1)
form_once head fs (Err Head) (Ok v) g x y = absurd (x (kind_of v) y.0)
form_once head fs (Err (Misnamed c)) (Err (Bracket f)) g x y = absurd y
form_once head fs (Err (Misnamed c)) (Err Head) g x y = absurd (y x.0 x.1)
form_once head fs (Err (Misnamed c)) (Err (Misnamed d)) g x y = ap (λ n. Err (Misnamed n)) (one_misfit x.0 y.0 head fs c d x.1 y.1 x.2 y.2)
form_once head fs (Err (Misnamed c)) (Err (Malformed d)) g x y = misfit_not x.0 y.0 head fs c x.1 y.1 x.2 y.2
form_once head fs (Err (Misnamed c)) (Ok v) g x y = misfit_not x.0 (kind_of v) head fs c x.1 y.0 x.2 y.1
form_once head fs (Err (Malformed c)) (Err (Bracket f)) g x y = absurd y
form_once head fs (Err (Malformed c)) (Err Head) g x y = absurd (y x.0 x.1)
form_once head fs (Err (Malformed c)) (Err (Misnamed d)) g x y = misfit_not y.0 x.0 head fs d y.1 x.1 y.2 x.2
form_once head fs (Err (Malformed c)) (Err (Malformed d)) g x y = ap (λ n. Err (Malformed n)) (one_unsound head fs c d g x.3 y.3)
form_once head fs (Err (Malformed c)) (Ok v) g x y = absurd (all_fit head fs c y.2 x.3)
form_once head fs (Ok u) (Err (Bracket f)) g x y = absurd y
form_once head fs (Ok u) (Err Head) g x y = absurd (y (kind_of u) x.0)
form_once head fs (Ok u) (Err (Misnamed d)) g x y = misfit_not y.0 (kind_of u) head fs d y.1 x.0 y.2 x.1
form_once head fs (Ok u) (Err (Malformed d)) g x y = absurd (all_fit head fs d x.2 y.3)
form_once head fs (Ok u) (Ok v) g x y = ap Ok (one_form u v (one_kind (kind_of u) (kind_of v) (sym x.0 ∙ y.0)) (sym x.3 ∙ y.3))

shaped_once : (line : List ℕ) (r s : Result Form WordFault) → Shaped line r → Shaped line s → r ≡ s
shaped_once line r s x y =
    let b = x.0 in
    form_once b.2.0 b.2.1 r s b.2.2.1 (x.1 b.2.0 b.2.1 b.2.2) (y.1 b.2.0 b.2.1 b.2.2)

-- which of the two layers answers
answers_by : (line : List ℕ) (r : Result Form WordFault) → Reads line r → ((f : BracketFault) × (r ≡ Err (Bracket f)) × Brackets line (Err f)) ⊎ Shaped line r
answers_by line (Err (Bracket f)) h = inl (f, refl, h)
answers_by line (Err Head) h = inr h
answers_by line (Err (Misnamed c)) h = inr h
answers_by line (Err (Malformed c)) h = inr h
answers_by line (Ok f) h = inr h

not_both : {X : Type 0} (line : List ℕ) (f : BracketFault) → Brackets line (Err f) → Brackets line (Ok tt) → X
not_both line f x y = let e = bracket_once line (Err f) (Ok tt) x y in let z : ◌≡◌ {A = ℕ} 0 1 = cc in absurd (omega arith)

once : (line : List ℕ) (r : Result Form WordFault) → Reads line r → Once line r
once line r x s y =
    ⊎_elim
    (λ a.
    ⊎_elim
    (λ b. let e : ◌≡◌ {A = Result (Unit {0}) BracketFault} (Err b.0) (Err a.0) = bracket_once line (Err b.0) (Err a.0) b.2 a.2 in let f : b.0 ≡ a.0 = cc in b.1 ∙ ap (λ q. Err (Bracket q)) f ∙ sym a.1)
    (λ b. not_both line a.0 a.2 b.0)
    (answers_by line s y))
    (λ a.
    ⊎_elim
    (λ b. not_both line b.0 b.2 a.0)
    (λ b. shaped_once line s r b a)
    (answers_by line s y))
    (answers_by line r x)

-- all that `read` says of its answer
pub answers : (line : List ℕ) (r : Result Form WordFault) → Reads line r → Answers line r
answers line r h = (h, once line r h, reads_back line r h)
