-- One adding after another. Assumes nothing.
use Rattle.std.proofs.Common.{◌≡◌, ℕ, ◌+◌, ◌<◌, ◌≤◌, List, [], ◌∷◌, ◌++◌, map, length, get_or, take, drop, Bor, ℤ, pos, refl, sym, ap, ◌∙◌, subst, append_assoc, arith, length-append, length-drop}
use Rattle.std.specs.List.{flat_map, enumerate_from}
use Rattle.std.proofs.lemmas.List.{take_at, take_more, length-take-le, map_more, flat_map_more}
use Rattle.std.proofs.lemmas.Slice.{drop-append-drop}
use Rattle.answers.specs.Texts.{field_text, fields_text, pay_text, pay_lines}
use Rattle.answers.specs.declared.writer.Writer.{Writer}
use Rattle.answers.specs.Writing.{laid, Adds, named}

pub length-laid : (d : List ℕ) (k : ℕ) (s : List ℕ) → k + length s ≤ length d → length (laid d k s) ≡ length d
length-laid d k s h =
    let a = length-take-le k d (omega arith) in
    simp (length-append, length-drop) (omega arith)

pub laid-laid : (d : List ℕ) (k : ℕ) (s t : List ℕ) → k + length s ≤ length d → laid (laid d k s) (k + length s) t ≡ laid d k (s ++ t)
laid-laid d k s t h =
    let f : length (take k d ++ s) ≡ k + length s = length-append (take k d) s ∙ ap (λ n. n + length s) (length-take-le k d (omega arith)) in
    let g = sym (append_assoc (take k d) s (drop (k + length s) d)) in
    let a : take (k + length s) (laid d k s) ≡ take k d ++ s = ap (take (k + length s)) g ∙ take_at (take k d ++ s) (drop (k + length s) d) (k + length s) f in
    let b : drop (k + length s + length t) (laid d k s) ≡ drop (k + length s + length t) d = ap (drop (k + length s + length t)) g ∙ drop-append-drop (k + length s) d (take k d ++ s) (k + length s + length t) (omega arith) f in
    let e : k + length s + length t ≡ k + length (s ++ t) = omega (arith, length-append s t) in
    (λ i. a i ++ (t ++ b i)) ∙ append_assoc (take k d) s (t ++ drop (k + length s + length t) d) ∙ ap (λ x. take k d ++ x) (sym (append_assoc s t (drop (k + length s + length t) d))) ∙ ap (λ n. take k d ++ ((s ++ t) ++ drop n d)) e

pub adds_adds : {s t : List ℕ} {w v u : Writer} → Adds s w v → Adds t v u → Adds (s ++ t) w u
adds_adds {s} {t} {w} {v} {u} a b =
    record {
      same = b.same ∙ a.same;
      bytes = b.bytes ∙ (λ i. laid (a.bytes i) (a.long i) t) ∙ laid-laid w.buffer.now w.len s t a.fits;
      long = omega (arith, length-append s t);
      fits = omega (arith, length-append s t);
      kept = b.kept ∙ a.kept;
    }

-- one part more of a text
adds_more : {X : Type 0} (f : X → List ℕ) (xs : List X) (x : X) {w v u : Writer} → Adds (flat_map f xs) w v → Adds (f x) v u → Adds (flat_map f (xs ++ x ∷ [])) w u
adds_more f xs x {w} {v} {u} a b = subst (λ s. Adds s w u) (flat_map_more f [] xs x) (adds_adds a b)

-- fields without the end of the line
abbrev pub fields_alone : List (List ℕ × ℤ) → List ℕ
fields_alone fs = flat_map (λ f. field_text f.0 f.1) fs

pub fields_ended : (fs : List (List ℕ × ℤ)) → fields_alone fs ++ (41 ∷ 10 ∷ []) ≡ fields_text fs
fields_ended [] = refl
fields_ended (f ∷ fs) = append_assoc (field_text f.0 f.1) (fields_alone fs) (41 ∷ 10 ∷ []) ∙ ap (λ s. field_text f.0 f.1 ++ s) (fields_ended fs)

pub fields_more : (fs : List (Bor (List ℕ) × ℤ)) (i : ℕ) (d : Bor (List ℕ) × ℤ) {w v u : Writer} → i < length fs → Adds (fields_alone (map named (take i fs))) w v → Adds (field_text (get_or fs i d).0.now (get_or fs i d).1) v u → Adds (fields_alone (map named (take (i + 1) fs))) w u
fields_more fs i d {w} {v} {u} h a b =
    subst (λ gs. Adds (fields_alone gs) w u) (sym (map_more named fs i d h)) (adds_more (λ f. field_text f.0 f.1) (map named (take i fs)) (named (get_or fs i d)) a b)

numbered_more : (n : ℕ) (xs : List ℤ) (x : ℤ) → enumerate_from n (xs ++ x ∷ []) ≡ enumerate_from n xs ++ (n + length xs, x) ∷ []
numbered_more n [] x = grind arith
numbered_more n (y ∷ ys) x = grind (arith, numbered_more (n + 1) ys x)

pub pays_more : (line : ℤ) (xs : List ℤ) (i : ℕ) {w v u : Writer} → i < length xs → Adds (pay_lines line 1 (take i xs)) w v → Adds (pay_text line (i + 1) (get_or xs i (pos 0))) v u → Adds (pay_lines line 1 (take (i + 1) xs)) w u
pays_more line xs i {w} {v} {u} h a b =
    let l : 1 + length (take i xs) ≡ i + 1 = omega (arith, length-take-le i xs (omega arith)) in
    let e = ap (enumerate_from 1) (take_more xs i (pos 0) h) ∙ numbered_more 1 (take i xs) (get_or xs i (pos 0)) ∙ ap (λ k. enumerate_from 1 (take i xs) ++ (k, get_or xs i (pos 0)) ∷ []) l in
    subst (λ ps. Adds (flat_map (λ p. pay_text line p.0 p.1) ps) w u) (sym e) (adds_more (λ p. pay_text line p.0 p.1) (enumerate_from 1 (take i xs)) (i + 1, get_or xs i (pos 0)) a b)
