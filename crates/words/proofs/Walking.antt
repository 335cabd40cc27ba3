-- From field to field.
use Rattle.std.proofs.Common.{◌≡◌, ℕ, ◌+◌, ◌-◌, ◌<◌, ◌≤◌, Bool, true, false, List, [], ◌∷◌, length, get_or, drop, Ok, Err, sym, refl, ap, ◌∙◌, subst, ⊎_elim, add-zero, arith, length-drop, Bor}
use Rattle.std.specs.Str.{bytes_eq}
use Rattle.std.proofs.lemmas.Slice.Eq.{bytes_eq-Decides}
use Rattle.std.proofs.lemmas.List.{get_or-drop, drop_more}
use Rattle.std.proofs.lemmas.Bool.{cond-true, cond-false, cases_Bool}
use Rattle.brackets.specs.Grammar.{Field, rest}
use Rattle.words.specs.declared.reading.Token.TheVariants.{Word, Number}
use Rattle.words.specs.declared.reading.Tokens.{Tokens}
use Rattle.words.specs.Walk.{FieldAt, Took, IsWord, width}
use Rattle.words.specs.Walk.{FieldsAt, one_named, all_named}
use Rattle.words.proofs.Cutting.{field_next, fields_after}

first : (line : List ℕ) (at : ℕ) (fs : List Field) → FieldsAt line at fs → get_or line at 0 ≡ get_or (rest fs) 0 0
first line at fs h = ap (λ i. get_or line i 0) (sym (add-zero at)) ∙ sym (get_or-drop at line 0 0) ∙ ap (λ l. get_or l 0 0) h.1

some : (fs : List Field) → 0 < length (rest fs)
some [] = omega arith
some (f ∷ fs) = omega arith

pub inside : (line : List ℕ) (at : ℕ) (fs : List Field) → FieldsAt line at fs → at < length line
inside line at fs h = let l = sym (length-drop at line) ∙ ap length h.1 in omega (arith, some fs)

pub at_field : (line : List ℕ) (at : ℕ) (fs : List Field) → (get_or line at 0 ≡ 41 → ⊥) → FieldsAt line at fs → (f : Field) × (gs : List Field) × FieldAt line at f gs
at_field line at [] e h = absurd (e (first line at [] h))
at_field line at (f ∷ fs) e h = (f, fs, field_next line at f fs h)

abbrev Reads : List ℕ → ℕ → Tokens → Type 0
Reads line at p = (f : Field) (gs : List Field) → FieldAt line at f gs → Took at f p

pub hit : (line : List ℕ) (at : ℕ) (name : List ℕ) (p : Tokens) (s : Bor (List ℕ)) (col : ℕ) (fs : List Field) → (get_or line at 0 ≡ 41 → ⊥) → Reads line at p → p.name ≡ Word s col → s.now ≡ name → FieldsAt line at fs → Ok p.next ≡ one_named name fs at
hit line at name p s col [] bar took is same h = absurd (bar (first line at [] h))
hit line at name p s col (f ∷ gs) bar took is same h =
    let t = took f gs (field_next line at f gs h) in
    let w : IsWord (Word s col) f.name (at + 3) = subst (λ x. IsWord x f.name (at + 3)) is t.name in
    ap Ok t.next ∙ sym (cond-true (bytes_eq f.name name) (Ok (at + width f)) (Err (at + 2)) ((bytes_eq-Decides f.name name).1 (sym w.0 ∙ same)))

not_so : (b : Bool) → (b ≡ true → ⊥) → b ≡ false
not_so true h = absurd (h refl)
not_so false h = refl

pub miss : (line : List ℕ) (at : ℕ) (name : List ℕ) (p : Tokens) (s : Bor (List ℕ)) (col : ℕ) (fs : List Field) → (get_or line at 0 ≡ 41 → ⊥) → Reads line at p → p.name ≡ Word s col → (s.now ≡ name → ⊥) → FieldsAt line at fs → Err (col - 1) ≡ one_named name fs at
miss line at name p s col [] bar took is other h = absurd (bar (first line at [] h))
miss line at name p s col (f ∷ gs) bar took is other h =
    let t = took f gs (field_next line at f gs h) in
    let w : IsWord (Word s col) f.name (at + 3) = subst (λ x. IsWord x f.name (at + 3)) is t.name in
    let b : col - 1 ≡ at + 2 = omega (arith, w.1) in
    ap Err b ∙ sym (cond-false (bytes_eq f.name name) (Ok (at + width f)) (Err (at + 2)) (not_so (bytes_eq f.name name) (λ e. other (w.0 ∙ (bytes_eq-Decides f.name name).0 e))))

-- a name's column, past the bracket before it
pub name_column : (line : List ℕ) (at : ℕ) (p : Tokens) (s : Bor (List ℕ)) (col : ℕ) (f : Field) (fs : List Field) → Reads line at p → p.name ≡ Word s col → FieldAt line at f fs → 1 ≤ col
name_column line at p s col f fs took is h =
    let w : IsWord (Word s col) f.name (at + 3) = subst (λ x. IsWord x f.name (at + 3)) is (took f fs h).name in
    omega (arith, w.1)

pub never : {X : Type 0} (line : List ℕ) (at : ℕ) (p : Tokens) (s : Bor (List ℕ)) (col : ℕ) (fs : List Field) → (get_or line at 0 ≡ 41 → ⊥) → Reads line at p → p.name ≡ Number s col → FieldsAt line at fs → X
never line at p s col [] bar took is h = absurd (bar (first line at [] h))
never line at p s col (f ∷ gs) bar took is h =
    let t = took f gs (field_next line at f gs h) in
    absurd (subst (λ x. IsWord x f.name (at + 3)) is t.name)

-- after some names: the fields that are left, and that the answer is the one for these
pub record Walked (line : List ℕ) (ns : List (List ℕ)) (fs : List Field) (start i at : ℕ) : Type 0 where
  pub left : List Field
  pub here : FieldsAt line at left
  pub same : all_named ns fs start ≡ all_named (drop i ns) left at

step_ok : (line : List ℕ) (at : ℕ) (name : List ℕ) (ns : List (List ℕ)) (fs : List Field) (n : ℕ) → FieldsAt line at fs → Ok n ≡ one_named name fs at → (gs : List Field) × FieldsAt line n gs × (all_named (name ∷ ns) fs at ≡ all_named ns gs n)
step_ok line at name ns [] n h e = let z : ◌≡◌ {A = ℕ} 0 1 = cc in absurd (omega arith)
step_ok line at name ns (f ∷ gs) n h e =
    ⊎_elim
    (λ yes'.
    let p : Ok n ≡ Ok (at + width f) = e ∙ cond-true (bytes_eq f.name name) (Ok (at + width f)) (Err (at + 2)) yes' in
    let q : at + width f ≡ n = cc in
    (gs, subst (λ k. FieldsAt line k gs) q (fields_after line at f gs h), cond-true (bytes_eq f.name name) (all_named ns gs (at + width f)) (Err (at + 2)) yes' ∙ ap (all_named ns gs) q))
    (λ other.
    let p : Ok n ≡ Err (at + 2) = e ∙ cond-false (bytes_eq f.name name) (Ok (at + width f)) (Err (at + 2)) other in
    let z : ◌≡◌ {A = ℕ} 0 1 = cc in absurd (omega arith))
    (cases_Bool (bytes_eq f.name name))

step_err : (at : ℕ) (name : List ℕ) (ns : List (List ℕ)) (fs : List Field) (col : ℕ) → Err col ≡ one_named name fs at → Err col ≡ all_named (name ∷ ns) fs at
step_err at name ns [] col e = e
step_err at name ns (f ∷ gs) col e =
    ⊎_elim
    (λ yes'.
    let p : Err col ≡ Ok (at + width f) = e ∙ cond-true (bytes_eq f.name name) (Ok (at + width f)) (Err (at + 2)) yes' in
    let z : ◌≡◌ {A = ℕ} 0 1 = cc in absurd (omega arith))
    (λ other.
    e ∙ cond-false (bytes_eq f.name name) (Ok (at + width f)) (Err (at + 2)) other ∙ sym (cond-false (bytes_eq f.name name) (all_named ns gs (at + width f)) (Err (at + 2)) other))
    (cases_Bool (bytes_eq f.name name))

pub walked_more : (line : List ℕ) (ns : List (List ℕ)) (fs : List Field) (start i at n : ℕ) → i < length ns → ((gs : List Field) → FieldsAt line at gs → Ok n ≡ one_named (get_or ns i []) gs at) → Walked line ns fs start i at → Walked line ns fs start (i + 1) n
walked_more line ns fs start i at n lt told w =
    let s = step_ok line at (get_or ns i []) (drop (i + 1) ns) w.left n w.here (told w.left w.here) in
    record { left = s.0; here = s.1; same = w.same ∙ ap (λ l. all_named l w.left at) (drop_more ns i [] lt) ∙ s.2 }

pub walked_err : (line : List ℕ) (ns : List (List ℕ)) (fs : List Field) (start i at col : ℕ) → i < length ns → ((gs : List Field) → FieldsAt line at gs → Err col ≡ one_named (get_or ns i []) gs at) → Walked line ns fs start i at → Err col ≡ all_named ns fs start
walked_err line ns fs start i at col lt told w =
    step_err at (get_or ns i []) (drop (i + 1) ns) w.left col (told w.left w.here) ∙ sym (w.same ∙ ap (λ l. all_named l w.left at) (drop_more ns i [] lt))
