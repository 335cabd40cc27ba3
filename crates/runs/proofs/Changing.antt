-- What stands at a place of a list after a part of it, or one element, was changed. Assumes nothing.
use Rattle.std.proofs.Common.{◌≡◌, ℕ, ◌+◌, ◌-◌, ◌<◌, ◌≤◌, cond, ◌&&◌, eqb, ltb, leb, List, ◌++◌, map, length, get_or, take, drop, set, sym, ap, ◌∙◌, ⊎_elim, arith}
use Rattle.std.proofs.lemmas.List.{get_or_append_left, get_or-append_right, get_or-drop, get_or-map, get_or-set_other, get_or-set_same, get_or-take, length-append, length-drop, length-map, length-take-le}
use Rattle.std.proofs.lemmas.Bool.{and_from, and_left, and_right, cases_eq, cases_lt, cond-false, cond-true, eq-eqb, le-leb, le-ltb, lt-leb, lt-ltb, ne_eqb}
use Rattle.book.specs.Posting.{changed}

module _ {A : Type 0} (f : A → A) (a n : ℕ) (xs : List A) (fit : a + n ≤ length xs) where
  front : length (take a xs) ≡ a
  front = length-take-le a xs (omega arith)

  middle : length (map f (take n (drop a xs))) ≡ n
  middle = length-map (take n (drop a xs)) f ∙ length-take-le n (drop a xs) (omega (arith, length-drop a xs))

  pub length-changed : length (changed f a n xs) ≡ length xs
  length-changed = omega (arith, front, middle, length-append (take a xs) (map f (take n (drop a xs)) ++ drop (a + n) xs), length-append (map f (take n (drop a xs))) (drop (a + n) xs), length-drop (a + n) xs)

  before : (k : ℕ) (d : A) → k < a → get_or (changed f a n xs) k d ≡ get_or xs k d
  before k d l = get_or_append_left (take a xs) _ d k (omega (arith, front)) ∙ get_or-take a xs k d l

  inside : (k : ℕ) (d : A) → a ≤ k → k < a + n → get_or (changed f a n xs) k d ≡ f (get_or xs k d)
  inside k d l m =
      let back : a + (k - a) ≡ k = omega arith in
      get_or-append_right (take a xs) _ a k d front l
      ∙ get_or_append_left (map f (take n (drop a xs))) _ d (k - a) (omega (arith, middle))
      ∙ get_or-map f (take n (drop a xs)) (k - a) d d (omega (arith, length-take-le n (drop a xs) (omega (arith, length-drop a xs))))
      ∙ ap f (get_or-take n (drop a xs) (k - a) d (omega arith) ∙ get_or-drop a xs (k - a) d ∙ ap (λ i. get_or xs i d) back)

  behind : (k : ℕ) (d : A) → a + n ≤ k → get_or (changed f a n xs) k d ≡ get_or xs k d
  behind k d l =
      let back : a + n + (k - a - n) ≡ k = omega arith in
      get_or-append_right (take a xs) _ a k d front (omega arith)
      ∙ get_or-append_right (map f (take n (drop a xs))) _ n (k - a) d middle (omega arith)
      ∙ get_or-drop (a + n) xs (k - a - n) d ∙ ap (λ i. get_or xs i d) back

  pub get_or-changed : (k : ℕ) (d : A) → get_or (changed f a n xs) k d ≡ cond (leb a k && ltb k (a + n)) (f (get_or xs k d)) (get_or xs k d)
  get_or-changed k d =
      ⊎_elim
      (λ l. before k d l ∙ sym (cond-false _ _ _ (and_left (leb a k) _ (lt-leb a k l))))
      (λ g. ⊎_elim
      (λ l. inside k d g l ∙ sym (cond-true _ _ _ (and_from (leb a k) (ltb k (a + n)) (le-leb a k g) (lt-ltb k (a + n) l))))
      (λ m. behind k d m ∙ sym (cond-false _ _ _ (and_right (leb a k) _ (le-ltb k (a + n) m))))
      (cases_lt k (a + n)))
      (cases_lt k a)

pub get_d_set : {A : Type 0} (xs : List A) (i k : ℕ) (x d : A) → i < length xs → get_or (set xs i x) k d ≡ cond (eqb k i) x (get_or xs k d)
get_d_set xs i k x d l =
    ⊎_elim
    (λ e. ap (λ j. get_or (set xs i x) j d) e ∙ get_or-set_same xs i x d l ∙ sym (cond-true _ _ _ (eq-eqb k i e)))
    (λ ne. get_or-set_other xs i k x d ne ∙ sym (cond-false _ _ _ (ne_eqb k i ne)))
    (cases_eq k i)
