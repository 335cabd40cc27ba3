-- The numbers of a form's fields. Assumes nothing.
--
--   decimal_value ds   the number that decimal digits write
--   value f            the number of a field, with its sign
--   Sound f            it is written as it may be: no leading zero, no minus zero, at most 18 digits
use Rattle.std.specs.Prelude.{◌≡◌, ℕ, ◌+◌, ◌-◌, ◌*◌, ◌^◌, ◌≤◌, List, [], ◌∷◌, length, ℤ, pos, neg_ℤ, slice_index_or}
use Rattle.brackets.specs.Grammar.{Field}

-- each digit (48 is `0`) times the power of ten of its place
abbrev pub decimal_value : List ℕ → ℕ
decimal_value [] = 0
decimal_value (c ∷ cs) = (c - 48) * 10 ^ length cs + decimal_value cs

-- a magnitude with no sign, or with a minus
abbrev pub with_sign : List ℕ → ℕ → ℤ
with_sign [] n = pos n
with_sign (m ∷ t) n = neg_ℤ (pos n)

abbrev pub value : Field → ℤ
value f = with_sign f.sign (decimal_value f.digits)

pub record Sound (f : Field) : Type 0 where
  pub few : length f.digits ≤ 18
  pub zero_alone : slice_index_or f.digits 0 0 ≡ 48 → (f.sign ≡ []) × (length f.digits ≡ 1)
