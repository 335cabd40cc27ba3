-- The shape of a line, as the text of a head and fields, and where a line that has not that shape cannot go on. Assumes nothing.
--
--   Field             a field's name, sign and digits
--   text head fields  how a form with this head and these fields is written
--   IsForm line ..    the line is that text
--   WellShaped line   the line is the text of some form
--   Begins p          some form begins with the bytes p
--   Stuck line col    the line is no form, and col is the first column that cannot go on
--   Only line col     no other column is
use Rattle.std.specs.Prelude.{◌≡◌, ℕ, ◌+◌, ◌-◌, ◌<◌, ◌≤◌, ◌⊎◌, List, [], ◌∷◌, ◌++◌, length, take}
use Rattle.std.specs.List.{All}
use Rattle.brackets.specs.Bytes.{Letter, Digit}

-- one or more letters
abbrev pub Word : List ℕ → Type 0
Word w = (0 < length w) × All Letter w

-- one or more digits
abbrev pub Numeral : List ℕ → Type 0
Numeral v = (0 < length v) × All Digit v

-- a field: its name, the minus of its number if it has one, and the number's digits
pub record Field : Type 0 where
  pub name : List ℕ
  pub sign : List ℕ
  pub digits : List ℕ

-- the name is a word, the sign is nothing or a minus (45), the digits are a numeral
pub record GoodField (f : Field) : Type 0 where
  pub named : Word f.name
  pub signed : (f.sign ≡ []) ⊎ (f.sign ≡ 45 ∷ [])
  pub counted : Numeral f.digits

-- ` (name number)` for each field, and the last bracket: 32 is a space, 40 and 41 are the brackets
abbrev pub rest : List Field → List ℕ
rest [] = 41 ∷ []
rest (f ∷ fs) = 32 ∷ 40 ∷ (f.name ++ (32 ∷ (f.sign ++ (f.digits ++ (41 ∷ rest fs)))))

-- the text of a form with this head and these fields
abbrev pub text : List ℕ → List Field → List ℕ
text head fields = 40 ∷ (head ++ rest fields)

-- the line is the form with this head and these fields
abbrev pub IsForm : List ℕ → List ℕ → List Field → Type 0
IsForm line head fields = Word head × All GoodField fields × (line ≡ text head fields)

-- the line is a form
abbrev pub WellShaped : List ℕ → Type 0
WellShaped line = (head : List ℕ) × (fields : List Field) × IsForm line head fields

-- some form begins with these bytes
abbrev pub Begins : List ℕ → Type 0
Begins p = (t : List ℕ) × WellShaped (p ++ t)

-- the bytes before column col are the longest beginning of the line that some form shares; col may be one past the line's end
pub record Stuck (line : List ℕ) (col : ℕ) : Type 0 where
  pub low : 1 ≤ col
  pub high : col ≤ length line + 1
  pub goes : Begins (take (col - 1) line)
  pub longest : (n : ℕ) → n ≤ length line → Begins (take n line) → n < col
  pub unformed : WellShaped line → ⊥

abbrev pub Only : List ℕ → ℕ → Type 0
Only line col = (d : ℕ) → Stuck line d → d ≡ col
