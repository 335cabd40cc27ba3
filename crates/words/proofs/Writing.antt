-- Fields as they are written: of the right shape, sound, and with the values that they were written from.
use Rattle.std.proofs.Common.{◌≡◌, ℕ, suc, ◌+◌, ◌^◌, ◌<◌, ◌≤◌, List, [], ◌∷◌, map, length, get_or, ℤ, pos, negsuc, neg_ℤ, decimal, refl, ap, inl, inr, ⊎_elim, arith, rules}
use Rattle.std.specs.List.{All}
use Rattle.std.proofs.lemmas.List.Elements.{All-nil, All-cons, All-head, All-tail}
use Rattle.std.proofs.lemmas.Str.Parse.{IsNumeralModel, numerals_by_weight}
use Rattle.std.proofs.lemmas.Fmt.{decimal_nonempty, decimal_digit, first_decimal, length-decimal-le, digits_decimal, digits_value-decimal}
use Rattle.std.proofs.lemmas.Bool.{cases_lt}
use Rattle.brackets.specs.Bytes.{Digit}
use Rattle.brackets.specs.Grammar.{Word, Numeral, GoodField, rest}
use Rattle.words.specs.Numbers.{decimal_value, value, Sound}
use Rattle.words.specs.Layer.{names_of}
use Rattle.words.specs.Walk.{width}
use Rattle.words.specs.Written.{field_of, fields_of, Digits18}
use Rattle.words.proofs.Naming.{length_rest}

own : IsNumeralModel (All Digit) decimal_value
own =
    numerals_by_weight (All Digit)
    (record { empty = All-nil Digit; parts = λ c cs a. (All-head Digit c cs a, All-tail Digit c cs a); more = All-cons Digit })
    decimal_value (search rules)

-- 18 digits fit 64 bits
wide : (n : ℕ) → n < 10 ^ 18 → n < 2 ^ 64
wide n h = omega arith

numeral : (n : ℕ) → n < 10 ^ 18 → Numeral (decimal n)
numeral n h = (decimal_nonempty n (wide n h), digits_decimal own n (wide n h))

pub good : (name : List ℕ) (z : ℤ) → Word name → Digits18 z → GoodField (field_of name z)
good name (pos n) w h = record { named = w; signed = inl refl; counted = numeral n h }
good name (negsuc n) w h = record { named = w; signed = inr refl; counted = numeral (suc n) h }

positive : (n : ℕ) → 0 < n → n < 10 ^ 18 → get_or (decimal n) 0 0 ≡ 48 → ⊥
positive n p h e = let f = first_decimal n p (wide n h) in omega arith

alone : (n : ℕ) → n < 10 ^ 18 → get_or (decimal n) 0 0 ≡ 48 → length (decimal n) ≡ 1
alone n h e =
    ⊎_elim
    (λ l. ap length (decimal_digit n (omega arith)))
    (λ l. absurd (positive n (omega arith) h e))
    (cases_lt n 1)

few : (n : ℕ) → n < 10 ^ 18 → length (decimal n) ≤ 18
few n h = length-decimal-le 18 n (omega arith) h (wide n h)

pub sound_of : (name : List ℕ) (z : ℤ) → Digits18 z → Sound (field_of name z)
sound_of name (pos n) h = record { few = few n h; zero_alone = λ e. (refl, alone n h e) }
sound_of name (negsuc n) h = record { few = few (suc n) h; zero_alone = λ e. absurd (positive (suc n) (omega arith) h e) }

pub value_of : (name : List ℕ) (z : ℤ) → Digits18 z → value (field_of name z) ≡ z
value_of name (pos n) h = ap pos (digits_value-decimal own n (wide n h))
value_of name (negsuc n) h = ap (λ m. neg_ℤ (pos m)) (digits_value-decimal own (suc n) (wide (suc n) h))

name_of_lem : (name : List ℕ) (z : ℤ) → (field_of name z).name ≡ name
name_of_lem name (pos n) = refl
name_of_lem name (negsuc n) = refl

pub width_of : (name : List ℕ) (z : ℤ) → Digits18 z → width (field_of name z) ≤ length name + 23
width_of name (pos n) h = let f = few n h in omega arith
width_of name (negsuc n) h = let f = few (suc n) h in omega arith

pub all_good : (ns : List (List ℕ)) (zs : List ℤ) → All Word ns → All Digits18 zs → All GoodField (fields_of ns zs)
all_good [] zs w h = All-nil GoodField
all_good (n ∷ ns) [] w h = All-nil GoodField
all_good (n ∷ ns) (z ∷ zs) w h =
    All-cons GoodField (field_of n z) (fields_of ns zs) (good n z (All-head Word n ns w) (All-head Digits18 z zs h)) (all_good ns zs (All-tail Word n ns w) (All-tail Digits18 z zs h))

pub all_sound_of : (ns : List (List ℕ)) (zs : List ℤ) → All Digits18 zs → All Sound (fields_of ns zs)
all_sound_of [] zs h = All-nil Sound
all_sound_of (n ∷ ns) [] h = All-nil Sound
all_sound_of (n ∷ ns) (z ∷ zs) h =
    All-cons Sound (field_of n z) (fields_of ns zs) (sound_of n z (All-head Digits18 z zs h)) (all_sound_of ns zs (All-tail Digits18 z zs h))

pub names_of_lem : (ns : List (List ℕ)) (zs : List ℤ) → length ns ≡ length zs → names_of (fields_of ns zs) ≡ ns
names_of_lem [] zs l = refl
names_of_lem (n ∷ ns) [] l = absurd (omega arith)
names_of_lem (n ∷ ns) (z ∷ zs) l = let a = name_of_lem n z in let b = names_of_lem ns zs (omega arith) in λ i. a i ∷ b i

pub values_of : (ns : List (List ℕ)) (zs : List ℤ) → length ns ≡ length zs → All Digits18 zs → map value (fields_of ns zs) ≡ zs
values_of [] [] l h = refl
values_of [] (z ∷ zs) l h = absurd (omega arith)
values_of (n ∷ ns) [] l h = absurd (omega arith)
values_of (n ∷ ns) (z ∷ zs) l h = let a = value_of n z (All-head Digits18 z zs h) in let b = values_of ns zs (omega arith) (All-tail Digits18 z zs h) in λ i. a i ∷ b i

-- how long fields with these names can be
abbrev pub room : List (List ℕ) → ℕ
room [] = 1
room (n ∷ ns) = length n + 23 + room ns

pub within : (ns : List (List ℕ)) (zs : List ℤ) → All Digits18 zs → length (rest (fields_of ns zs)) ≤ room ns
within [] zs h = omega arith
within (n ∷ ns) [] h = omega arith
within (n ∷ ns) (z ∷ zs) h =
    let l = length_rest (field_of n z) (fields_of ns zs) in
    let w = width_of n z (All-head Digits18 z zs h) in
    let t = within ns zs (All-tail Digits18 z zs h) in
    omega arith
