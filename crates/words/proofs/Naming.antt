-- The walk over the names of fields, in the words of the layer.
use Rattle.std.proofs.Common.{◌≡◌, ℕ, ◌+◌, ◌⊎◌, List, [], ◌∷◌, ◌++◌, length, get_or, drop, Ok, Err, Result, sym, refl, ap, ◌∙◌, inl, inr, ⊎_elim, arith, length-append}
use Rattle.std.specs.Str.{bytes_eq}
use Rattle.std.proofs.lemmas.Slice.Eq.{bytes_eq-Decides}
use Rattle.std.proofs.lemmas.Bool.{cond-true, cond-false, cases_Bool, both_ways}
use Rattle.brackets.specs.Grammar.{Field, rest, text}
use Rattle.words.specs.Walk.{width, all_named}
use Rattle.words.specs.Layer.{names_of, Starts, Misfit}

pub length_rest : (f : Field) (fs : List Field) → length (rest (f ∷ fs)) ≡ width f + length (rest fs)
length_rest f fs =
    let a = length-append f.name (32 ∷ (f.sign ++ (f.digits ++ (41 ∷ rest fs)))) in
    let b = length-append f.sign (f.digits ++ (41 ∷ rest fs)) in
    let c = length-append f.digits (41 ∷ rest fs) in
    let d = length-append f.sign f.digits in
    omega arith

-- the same faults for fields that lie from place `at` on
abbrev WrongAt : List (List ℕ) → List Field → ℕ → ℕ → Type 0
WrongAt ns fs at col = (before : List Field) × (f : Field) × (later : List Field) × (fs ≡ before ++ (f ∷ later)) × Starts ns (names_of before) × (Starts ns (names_of (before ++ (f ∷ []))) → ⊥) × (col ≡ at + length (rest before) + 1)

abbrev MissingAt : List (List ℕ) → List Field → ℕ → ℕ → Type 0
MissingAt ns fs at col = Starts ns (names_of fs) × (names_of fs ≡ ns → ⊥) × (col ≡ at + length (rest fs))

pub starts_more : (n m : List ℕ) (ns these : List (List ℕ)) → n ≡ m → Starts ns these → Starts (n ∷ ns) (m ∷ these)
starts_more n m ns these e s = (s.0, (λ i. e i ∷ s.1 i))

pub starts_less : (n m : List ℕ) (ns these : List (List ℕ)) → Starts (n ∷ ns) (m ∷ these) → Starts ns these
starts_less n m ns these s = (s.0, ap (drop 1) s.1)

pub starts_first : (n m : List ℕ) (ns these : List (List ℕ)) → Starts (n ∷ ns) (m ∷ these) → n ≡ m
starts_first n m ns these s = ap (λ l. get_or l 0 []) s.1

pub starts_none : (m : List ℕ) (these : List (List ℕ)) → Starts [] (m ∷ these) → ⊥
starts_none m these s = let l : 0 ≡ length (m ∷ (these ++ s.0)) = ap length s.1 in omega arith

err_not_ok : {X : Type 0} (c n : ℕ) → ◌≡◌ {A = Result ℕ ℕ} (Err c) (Ok n) → X
err_not_ok c n e = let z : ◌≡◌ {A = ℕ} 0 1 = cc in absurd (omega arith)

pub misnamed : (ns : List (List ℕ)) (fs : List Field) (at col : ℕ) → Err col ≡ all_named ns fs at → WrongAt ns fs at col ⊎ MissingAt ns fs at col
misnamed [] [] at col e = err_not_ok col at e
misnamed [] (f ∷ fs) at col e =
    let c : col ≡ at + 2 = cc in
    inl ([], f, fs, refl, ([], refl), starts_none f.name [], omega arith)
misnamed (n ∷ ns) [] at col e =
    let c : col ≡ at + 1 = cc in
    inr ((n ∷ ns, refl), (λ q. let l : 0 ≡ length (n ∷ ns) = ap length q in omega arith), omega arith)
misnamed (n ∷ ns) (f ∷ fs) at col e =
    ⊎_elim
    (λ same.
    let m : n ≡ f.name = sym ((bytes_eq-Decides f.name n).0 same) in
    let w = length_rest f in
    ⊎_elim
    (λ x. let l = length_rest f x.0 in inl (f ∷ x.0, x.1, x.2, ap (λ t. f ∷ t) x.3, starts_more n f.name ns (names_of x.0) m x.4, (λ q. x.5 (starts_less n f.name ns (names_of (x.0 ++ (x.1 ∷ []))) q)), x.6 ∙ omega arith))
    (λ x. let l = length_rest f fs in inr (starts_more n f.name ns (names_of fs) m x.0, (λ q. x.1 (ap (drop 1) q)), x.2 ∙ omega arith))
    (misnamed ns fs (at + width f) col (e ∙ cond-true (bytes_eq f.name n) (all_named ns fs (at + width f)) (Err (at + 2)) same)))
    (λ other.
    let p : Err col ≡ Err (at + 2) = e ∙ cond-false (bytes_eq f.name n) (all_named ns fs (at + width f)) (Err (at + 2)) other in
    let c : col ≡ at + 2 = cc in
    inl ([], f, fs, refl, (n ∷ ns, refl), (λ q. both_ways (bytes_eq f.name n) other ((bytes_eq-Decides f.name n).1 (sym (starts_first n f.name ns [] q)))), omega arith))
    (cases_Bool (bytes_eq f.name n))

pub all_right : (ns : List (List ℕ)) (fs : List Field) (at end : ℕ) → Ok end ≡ all_named ns fs at → names_of fs ≡ ns
all_right [] [] at end e = refl
all_right [] (f ∷ fs) at end e = err_not_ok (at + 2) end (sym e)
all_right (n ∷ ns) [] at end e = err_not_ok (at + 1) end (sym e)
all_right (n ∷ ns) (f ∷ fs) at end e =
    ⊎_elim
    (λ same.
    let m : f.name ≡ n = (bytes_eq-Decides f.name n).0 same in
    let t : names_of fs ≡ ns = all_right ns fs (at + width f) end (e ∙ cond-true (bytes_eq f.name n) (all_named ns fs (at + width f)) (Err (at + 2)) same) in
    λ i. m i ∷ t i)
    (λ other. err_not_ok (at + 2) end (sym (e ∙ cond-false (bytes_eq f.name n) (all_named ns fs (at + width f)) (Err (at + 2)) other)))
    (cases_Bool (bytes_eq f.name n))

pub length-text : (head : List ℕ) (fields : List Field) → length (text head fields) ≡ 1 + length head + length (rest fields)
length-text head fields = let l = length-append head (rest fields) in omega arith

-- the fault of a form whose fields begin after its head
pub misfit : (ns : List (List ℕ)) (head : List ℕ) (fs : List Field) (col : ℕ) → Err col ≡ all_named ns fs (1 + length head) → Misfit ns head fs col
misfit ns head fs col e =
    ⊎_elim
    (λ x. let l = length-text head x.0 in inl (x.0, x.1, x.2, x.3, x.4, x.5, x.6 ∙ omega arith))
    (λ x. let l = length-text head fs in inr (x.0, x.1, x.2 ∙ omega arith))
    (misnamed ns fs (1 + length head) col e)
