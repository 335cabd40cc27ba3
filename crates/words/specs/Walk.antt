-- What the private functions answer that walk over a line from field to field. Which lines are read, and as what, is defined in
-- specs/Layer.antt without any of this. Places count from 0, columns from 1. Assumes nothing.
use Rattle.std.specs.Prelude.{◌≡◌, ℕ, ◌+◌, Bool, true, cond, List, [], ◌∷◌, ◌++◌, length, drop, ℤ, pos, neg_ℤ, Some, None, Ok, Err, Option, Result, ◌==◌, nat_lt, slice_index}
use Rattle.std.specs.List.{All}
use Rattle.std.specs.Str.{bytes_eq}
use Rattle.brackets.specs.Grammar.{Numeral, Field, GoodField, rest, IsForm}
use Rattle.words.specs.Numbers.{decimal_value}
use Rattle.words.specs.Heads.{head_text}
use Rattle.words.specs.declared.reading.Kind.{Kind}
use Rattle.words.specs.declared.reading.Token.{Token}
use Rattle.words.specs.declared.reading.Token.TheVariants.{Word, Number}
use Rattle.words.specs.declared.reading.Tokens.{Tokens}

-- a number: digits, which may have a minus (45) in front
abbrev pub NumberText : List ℕ → Type 0
NumberText v = Numeral (drop (cond (slice_index v 0 == 45) 1 0) v)

-- a leading zero, minus zero, or over 18 digits
abbrev pub malformed : List ℕ → Bool
malformed v =
    cond (slice_index v 0 == 45)
    (cond (slice_index v 1 == 48) true (nat_lt 19 (length v)))
    (cond (slice_index v 0 == 48) (nat_lt 1 (length v)) (nat_lt 18 (length v)))

-- the value of such a text
abbrev pub text_value : List ℕ → ℤ
text_value v = cond (slice_index v 0 == 45) (neg_ℤ (pos (decimal_value (drop 1 v)))) (pos (decimal_value v))

-- a space or a closing bracket ends a word or a number
abbrev pub stops : ℕ → Bool
stops b = cond (b == 32) true (b == 41)

-- the token is this word, or this number, at this column
abbrev pub IsWord : Token → List ℕ → ℕ → Type 0
IsWord (Word s c) w col = (s.now ≡ w) × (c ≡ col)
IsWord (Number s c) w col = ⊥

abbrev pub IsNumber : Token → List ℕ → ℕ → Type 0
IsNumber (Word s c) w col = ⊥
IsNumber (Number s c) w col = (s.now ≡ w) × (c ≡ col)

-- how many bytes ` (name number)` takes
abbrev pub width : Field → ℕ
width f = length f.name + length (f.sign ++ f.digits) + 4

-- at place `at` the line goes on with this field, and then these
abbrev pub FieldAt : List ℕ → ℕ → Field → List Field → Type 0
FieldAt line at f fs = GoodField f × (drop at line ≡ rest (f ∷ fs))

-- at place `at` the line goes on with these fields and its last bracket
abbrev pub FieldsAt : List ℕ → ℕ → List Field → Type 0
FieldsAt line at fs = All GoodField fs × (drop at line ≡ rest fs)

-- the tokens of the field f at place `at`
pub record Took (at : ℕ) (f : Field) (r : Tokens) : Type 0 where
  pub name : IsWord r.name f.name (at + 3)
  pub number : IsNumber r.number (f.sign ++ f.digits) (at + 4 + length f.name)
  pub next : r.next ≡ at + width f

-- the line's head is that of this kind, and its fields begin at place `start`
abbrev pub HeadAt : List ℕ → Kind → ℕ → Type 0
HeadAt line k start = (head : List ℕ) (fields : List Field) → IsForm line head fields → (head ≡ head_text k) × (start ≡ 1 + length head)

-- the place after the next field if it has this name; else the column of its bracket, or of the last bracket if there is none
abbrev pub one_named : List ℕ → List Field → ℕ → Result ℕ ℕ
one_named name [] at = Err (at + 1)
one_named name (f ∷ fs) at = cond (bytes_eq f.name name) (Ok (at + width f)) (Err (at + 2))

-- the place of the last bracket if the fields have these names; else the column of the first that has not, is surplus or is missing
abbrev pub all_named : List (List ℕ) → List Field → ℕ → Result ℕ ℕ
all_named [] [] at = Ok at
all_named [] (f ∷ fs) at = Err (at + 2)
all_named (n ∷ ns) [] at = Err (at + 1)
all_named (n ∷ ns) (f ∷ fs) at = cond (bytes_eq f.name n) (all_named ns fs (at + width f)) (Err (at + 2))

-- a field's number as it is written, and as it counts
abbrev pub number_text : Field → List ℕ
number_text f = f.sign ++ f.digits

abbrev pub field_value : Field → ℤ
field_value f = text_value (number_text f)

-- the column of the first number that is malformed, the fields lying from place `at` on
abbrev pub first_malformed : List Field → ℕ → Option ℕ
first_malformed [] at = None
first_malformed (f ∷ fs) at = cond (malformed (number_text f)) (Some (at + 4 + length f.name)) (first_malformed fs (at + width f))

-- the value of the next field and the place after it, or the column of its number if that is malformed
abbrev pub one_read : List Field → ℕ → Result (ℤ × ℕ) ℕ
one_read [] at = Err 0
one_read (f ∷ fs) at = cond (malformed (number_text f)) (Err (at + 4 + length f.name)) (Ok (field_value f, at + width f))
