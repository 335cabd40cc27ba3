-- The bytes that a line may hold. Assumes nothing.
--
--   Letter b, Digit b     b is a lower-case letter, a decimal digit
--   admitted b            a line may hold b
--   Clean line            it holds no other
--   FirstBad line col     the first other byte stands at column col, from 1
use Rattle.std.specs.Prelude.{◌≡◌, ℕ, ◌+◌, ◌<◌, ◌≤◌, Bool, true, false, cond, List, length, ◌==◌, nat_le, slice_index}
use Rattle.std.specs.List.{All}

-- a to z
abbrev pub Letter : ℕ → Type 0
Letter b = (97 ≤ b) × (b ≤ 122)

-- 0 to 9
abbrev pub Digit : ℕ → Type 0
Digit b = (48 ≤ b) × (b ≤ 57)

-- the same as tests
abbrev pub letter : ℕ → Bool
letter b = cond (nat_le 97 b) (nat_le b 122) false

abbrev pub digit : ℕ → Bool
digit b = cond (nat_le 48 b) (nat_le b 57) false

-- a letter, a digit, minus, space or a bracket
abbrev pub admitted : ℕ → Bool
admitted b = cond (letter b) true (cond (digit b) true (cond (b == 45) true (cond (b == 32) true (cond (b == 40) true (b == 41)))))

abbrev pub Admitted : ℕ → Type 0
Admitted b = admitted b ≡ true

abbrev pub Clean : List ℕ → Type 0
Clean line = All Admitted line

-- the byte at column col is not admitted, and each before it is
abbrev pub FirstBad : List ℕ → ℕ → Type 0
FirstBad line col = (i : ℕ) × (col ≡ i + 1) × (i < length line) × (admitted (slice_index line i) ≡ false) × ((k : ℕ) → k < i → Admitted (slice_index line k))
