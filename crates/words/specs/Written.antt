-- How a form is written, and that reading it gives it back. Assumes nothing.
--
--   form_text f        the line that says f
--   Short f            each of its numbers has at most 18 digits
--   ReadsBack line r   if the line is the text of such a form, r is that form
use Rattle.std.specs.Prelude.{◌≡◌, ℕ, suc, ◌^◌, ◌<◌, List, [], ◌∷◌, ℤ, pos, negsuc, Ok, decimal, Result, unsigned_abs}
use Rattle.std.specs.List.{All}
use Rattle.brackets.specs.Grammar.{Field, text}
use Rattle.words.specs.declared.form.Form.{Form}
use Rattle.words.specs.declared.faults.WordFault.{WordFault}
use Rattle.words.specs.Forms.{kind_of, numbers_of}
use Rattle.words.specs.Heads.{head_text, field_names}
use Rattle.words.specs.Layer.{Reads, Once}

-- a name with a number, in decimal, with a minus below 0
abbrev pub field_of : List ℕ → ℤ → Field
field_of name (pos n) = record { name = name; sign = []; digits = decimal n }
field_of name (negsuc n) = record { name = name; sign = 45 ∷ []; digits = decimal (suc n) }

-- each name with its number
abbrev pub fields_of : List (List ℕ) → List ℤ → List Field
fields_of [] zs = []
fields_of (n ∷ ns) [] = []
fields_of (n ∷ ns) (z ∷ zs) = field_of n z ∷ fields_of ns zs

abbrev pub form_text : Form → List ℕ
form_text f = text (head_text (kind_of f)) (fields_of (field_names (kind_of f)) (numbers_of f))

abbrev pub Digits18 : ℤ → Type 0
Digits18 z = unsigned_abs z < 10 ^ 18

abbrev pub Short : Form → Type 0
Short f = All Digits18 (numbers_of f)

abbrev pub ReadsBack : List ℕ → Result Form WordFault → Type 0
ReadsBack line r = (f : Form) → Short f → line ≡ form_text f → r ≡ Ok f

-- the answer, that it is the only one, and this, for private functions
abbrev pub Answers : List ℕ → Result Form WordFault → Type 0
Answers line r = Reads line r × Once line r × ReadsBack line r
