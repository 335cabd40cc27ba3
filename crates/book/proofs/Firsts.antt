-- The first place at which a test holds. Assumes nothing.
use Rattle.std.proofs.Common.{◌≡◌, ℕ, zero, suc, ◌+◌, ◌<◌, ◌≤◌, Bool, true, false, cond, List, [], ◌∷◌, length, get_or, Some, Option, sym, refl, ap, ◌∙◌, ap₂, subst, arith}
use Rattle.std.specs.List.{position, position_from}
use Rattle.std.specs.Option.{IfSome, option_map}
use Rattle.std.proofs.lemmas.Iterator.Adapters.{position_from-zero}
use Rattle.book.specs.Checks.{first}

mapped : (g : ℕ → ℕ) (b : Bool) (i : ℕ) (o : Option ℕ) → option_map g (cond b (Some i) o) ≡ cond b (Some (g i)) (option_map g o)
mapped g true i o = refl
mapped g false i o = refl

from_position : {X : Type 0} (test : X → Bool) (xs : List X) (d : X) (f : ℕ → Bool) (a i : ℕ) → ((k : ℕ) → k < length xs → f (a + i + k) ≡ test (get_or xs k d)) → option_map (λ k. a + k) (position_from test i xs) ≡ first f (a + i) (length xs)
from_position test [] d f a i h = refl
from_position test (x ∷ xs) d f a i h =
    let start : a + i ≡ a + i + 0 = omega arith in
    let here : f (a + i) ≡ test x = ap f start ∙ h 0 (omega arith) in
    let next : a + (i + 1) ≡ a + i + 1 = omega arith in
    let rest = from_position test xs d f a (i + 1) (λ k l. let at : a + (i + 1) + k ≡ a + i + suc k = omega arith in ap f at ∙ h (suc k) (omega arith)) in
    mapped (λ k. a + k) (test x) i (position_from test (i + 1) xs)
    ∙ ap₂ (λ (b : Bool) (o : Option ℕ). cond b (Some (a + i)) o) (sym here) (rest ∙ ap (λ n. first f n (length xs)) next)

-- it is where the items at those places pass a test for the first time
pub first_position : {X : Type 0} (test : X → Bool) (xs : List X) (d : X) (f : ℕ → Bool) (a : ℕ) → ((k : ℕ) → k < length xs → f (a + k) ≡ test (get_or xs k d)) → option_map (λ k. a + k) (position test xs) ≡ first f a (length xs)
first_position test xs d f a h =
    let start : a + 0 ≡ a = omega arith in
    ap (option_map (λ k. a + k)) (position_from-zero test xs)
    ∙ from_position test xs d f a 0 (λ k l. let at : a + 0 + k ≡ a + k = omega arith in ap f at ∙ h k l)
    ∙ ap (λ n. first f n (length xs)) start

-- it depends on the test in its range alone
pub first-same : (f g : ℕ → Bool) (a n : ℕ) → ((k : ℕ) → a ≤ k → k < a + n → f k ≡ g k) → first f a n ≡ first g a n
first-same f g a zero h = refl
first-same f g a (suc n) h = ap (λ b. cond b (Some a) (first f (a + 1) n)) (h a (omega arith) (omega arith)) ∙ ap (cond (g a) (Some a)) (first-same f g (a + 1) n (λ k l m. h k (omega arith) (omega arith)))

chosen_within : (b : Bool) (o : Option ℕ) (x m : ℕ) → x < m → IfSome o (λ t. t < m) → IfSome (cond b (Some x) o) (λ t. t < m)
chosen_within true o x m l h = l
chosen_within false o x m l h = h

-- it is one of the places
pub first_within : (f : ℕ → Bool) (a n : ℕ) → IfSome (first f a n) (λ t. t < a + n)
first_within f a zero = tt
first_within f a (suc n) =
    let same : a + 1 + n ≡ a + suc n = omega arith in
    chosen_within (f a) (first f (a + 1) n) a (a + suc n) (omega arith) (subst (λ m. IfSome (first f (a + 1) n) (λ t. t < m)) same (first_within f (a + 1) n))
