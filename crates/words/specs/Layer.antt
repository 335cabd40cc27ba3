-- What layers 1 and 2 answer to a line. Columns count from 1. Assumes nothing.
--
--   Reads line r           r is the answer: each case also says that the checks before it passed
--   Once line r            no other answer fits the line
--   OfForm head fields r   the same for a line of the right shape, by its head and its fields
--   Misfit ns head .. col  the fields have not just the names ns, in order; the fault is told at column col
--   FirstUnsound .. col    a number is not written as it may be, and the first of these stands at column col
use Rattle.std.specs.Prelude.{◌≡◌, ℕ, ◌+◌, ◌⊎◌, List, [], ◌∷◌, ◌++◌, map, length, Ok, Err, Result, ◌≢◌}
use Rattle.std.specs.List.{All}
use Rattle.brackets.specs.Grammar.{Field, text, IsForm}
use Rattle.brackets.specs.Layer.{Brackets}
use Rattle.words.specs.declared.form.Form.{Form}
use Rattle.words.specs.declared.reading.Kind.{Kind}
use Rattle.words.specs.declared.faults.WordFault.{WordFault}
use Rattle.words.specs.declared.faults.WordFault.TheVariants.{Bracket, Head, Field as Misnamed, Number as Malformed}
use Rattle.words.specs.Forms.{kind_of, numbers_of}
use Rattle.words.specs.Heads.{head_text, field_names, Unknown}
use Rattle.words.specs.Numbers.{Sound, value}

abbrev pub name_of : Field → List ℕ
name_of f = f.name

abbrev pub names_of : List Field → List (List ℕ)
names_of fields = map name_of fields

-- the names ns start with these
abbrev pub Starts : List (List ℕ) → List (List ℕ) → Type 0
Starts ns these = (t : List (List ℕ)) × (ns ≡ these ++ t)

-- where the field after those before it has its opening bracket: a form that ends before it has its last bracket one column earlier
abbrev pub bracket_at : List ℕ → List Field → ℕ
bracket_at head before = length (text head before) + 1

-- the first field that is misnamed or surplus, at its opening bracket: the names before it are right, and with its own they are not
abbrev pub Wrong : List (List ℕ) → List ℕ → List Field → ℕ → Type 0
Wrong ns head fields col = (before : List Field) × (f : Field) × (later : List Field) × (fields ≡ before ++ (f ∷ later)) × Starts ns (names_of before) × (Starts ns (names_of (before ++ (f ∷ []))) → ⊥) × (col ≡ bracket_at head before)

-- the names are right as far as they go, and some are missing, at the line's last bracket
abbrev pub Missing : List (List ℕ) → List ℕ → List Field → ℕ → Type 0
Missing ns head fields col = Starts ns (names_of fields) × (names_of fields ≢ ns) × (col ≡ length (text head fields))

abbrev pub Misfit : List (List ℕ) → List ℕ → List Field → ℕ → Type 0
Misfit ns head fields col = Wrong ns head fields col ⊎ Missing ns head fields col

-- the numbers before that of f are sound and this one is not; it stands after `(name `, with its minus if it has one
abbrev pub FirstUnsound : List ℕ → List Field → ℕ → Type 0
FirstUnsound head fields col = (before : List Field) × (f : Field) × (later : List Field) × (fields ≡ before ++ (f ∷ later)) × All Sound before × (Sound f → ⊥) × (col ≡ bracket_at head before + length f.name + 2)

abbrev pub OfForm : List ℕ → List Field → Result Form WordFault → Type 0
OfForm head fields (Err (Bracket f)) = ⊥
OfForm head fields (Err Head) = Unknown head
OfForm head fields (Err (Misnamed c)) = (k : Kind) × (head ≡ head_text k) × Misfit (field_names k) head fields c
OfForm head fields (Err (Malformed c)) = (k : Kind) × (head ≡ head_text k) × (names_of fields ≡ field_names k) × FirstUnsound head fields c
OfForm head fields (Ok f) = (head ≡ head_text (kind_of f)) × (names_of fields ≡ field_names (kind_of f)) × All Sound fields × (map value fields ≡ numbers_of f)

-- the line has the right shape, and r is the answer to its head and fields
abbrev pub Shaped : List ℕ → Result Form WordFault → Type 0
Shaped line r = Brackets line (Ok tt) × ((head : List ℕ) (fields : List Field) → IsForm line head fields → OfForm head fields r)

abbrev pub Reads : List ℕ → Result Form WordFault → Type 0
Reads line (Err (Bracket f)) = Brackets line (Err f)
Reads line (Err Head) = Shaped line (Err Head)
Reads line (Err (Misnamed c)) = Shaped line (Err (Misnamed c))
Reads line (Err (Malformed c)) = Shaped line (Err (Malformed c))
Reads line (Ok f) = Shaped line (Ok f)

-- no other answer fits the line
abbrev pub Once : List ℕ → Result Form WordFault → Type 0
Once line r = (s : Result Form WordFault) → Reads line s → s ≡ r
