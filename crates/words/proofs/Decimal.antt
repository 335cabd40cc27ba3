-- The value of decimal digits, digit by digit.
use Rattle.std.proofs.Common.{◌≡◌, ℕ, ◌+◌, ◌-◌, ◌*◌, ◌^◌, ◌<◌, ◌≤◌, List, [], ◌∷◌, ◌++◌, length, get_or, take, sym, ap, ◌∙◌, mul_assoc, add-mul, pow-suc, add-one, arith}
use native.Mathlib.Nat.{pow-le-pow_right}
use Rattle.std.specs.List.{All}
use Rattle.std.proofs.lemmas.List.Elements.{All-get_or}
use Rattle.std.proofs.lemmas.List.{take_more, length_push}
use Rattle.brackets.specs.Bytes.{Digit}
use Rattle.words.specs.Numbers.{decimal_value}

pub below : (n i k : ℕ) → i ≤ k → n < 10 ^ i → n < 10 ^ k
below n i k h l = let p : 10 ^ i ≤ 10 ^ k = pow-le-pow_right (omega arith) h in omega arith

pub more : (n i d : ℕ) → n < 10 ^ i → d ≤ 9 → n * 10 + d < 10 ^ (i + 1)
more n i d l h = let p : 10 ^ (i + 1) ≡ 10 ^ i * 10 = ap (λ k. 10 ^ k) (add-one i) ∙ pow-suc 10 i in omega arith

-- one place further to the left
shifted : (x k : ℕ) → x * 10 ^ (k + 1) ≡ x * 10 ^ k * 10
shifted x k = ap (λ p. x * p) (ap (λ j. 10 ^ j) (add-one k) ∙ pow-suc 10 k) ∙ sym (mul_assoc x (10 ^ k) 10)

value_push : (xs : List ℕ) (c : ℕ) → decimal_value (xs ++ c ∷ []) ≡ decimal_value xs * 10 + (c - 48)
value_push [] c = omega arith
value_push (x ∷ xs) c =
    let a : (x - 48) * 10 ^ length (xs ++ c ∷ []) ≡ (x - 48) * 10 ^ length xs * 10 = ap (λ k. (x - 48) * 10 ^ k) (length_push xs c) ∙ shifted (x - 48) (length xs) in
    let b = value_push xs c in
    let d : ((x - 48) * 10 ^ length xs + decimal_value xs) * 10 ≡ (x - 48) * 10 ^ length xs * 10 + decimal_value xs * 10 = add-mul ((x - 48) * 10 ^ length xs) (decimal_value xs) 10 in
    omega arith

pub value_more : (ds : List ℕ) (i : ℕ) → i < length ds → decimal_value (take (i + 1) ds) ≡ decimal_value (take i ds) * 10 + (get_or ds i 0 - 48)
value_more ds i h = ap decimal_value (take_more ds i 0 h) ∙ value_push (take i ds) (get_or ds i 0)

pub digit_at : (ds : List ℕ) (i : ℕ) → i < length ds → All Digit ds → Digit (get_or ds i 0)
digit_at ds i h a = All-get_or Digit ds i 0 h a
