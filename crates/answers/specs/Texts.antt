-- The text of an answer. Assumes nothing.
--
--   field_text name z     ` (name z)`
--   form_text head fs     `(head (name z) ..)` and the end of the line
--   ok_text, no_text, pay_text, operator_text, show_text     the five forms of an answer, of a line's number
--   pay_lines line p hs   a `pay` for each number of halers, the parties numbered from p on
--   answer_text line a    the bytes that answer a line by a
use Rattle.std.specs.Prelude.{ℕ, min, List, [], ◌∷◌, ◌++◌, take, ℤ, pos, codes}
use Rattle.std.specs.Fmt.{signed_decimal}
use Rattle.std.specs.List.{flat_map, enumerate_from}
use Rattle.answers.specs.declared.Answer.{Answer}
use Rattle.answers.specs.declared.Answer.TheVariants.{Accepted, Refused, Paid, Statement}

-- ` (name number)`, the number with its minus and no leading zero
unfoldable pub field_text : List ℕ → ℤ → List ℕ
field_text name z = 32 ∷ 40 ∷ (name ++ (32 ∷ (signed_decimal z ++ (41 ∷ []))))

-- the fields, the last bracket and byte 10
abbrev pub fields_text : List (List ℕ × ℤ) → List ℕ
fields_text [] = 41 ∷ 10 ∷ []
fields_text (f ∷ fs) = field_text f.0 f.1 ++ fields_text fs

-- `(head (name number) ..)` and byte 10
unfoldable pub form_text : List ℕ → List (List ℕ × ℤ) → List ℕ
form_text head fs = (40 ∷ head) ++ fields_text fs

-- `(ok (line L))`
abbrev pub ok_text : ℤ → List ℕ
ok_text line = form_text (codes "ok") ((codes "line", line) ∷ [])

-- `(no (line L) (layer Y) (number N) (place P))`
abbrev pub no_text : ℤ → ℕ → ℕ → ℤ → List ℕ
no_text line layer number place =
    form_text (codes "no") ((codes "line", line) ∷ (codes "layer", pos layer) ∷ (codes "number", pos number) ∷ (codes "place", place) ∷ [])

-- `(pay (line L) (party P) (haler H))`
abbrev pub pay_text : ℤ → ℕ → ℤ → List ℕ
pay_text line party haler =
    form_text (codes "pay") ((codes "line", line) ∷ (codes "party", pos party) ∷ (codes "haler", haler) ∷ [])

-- a `pay` for each party, numbered from this number on
abbrev pub pay_lines : ℤ → ℕ → List ℤ → List ℕ
pay_lines line party hs = flat_map (λ p. pay_text line p.0 p.1) (enumerate_from party hs)

-- `(operator (line L) (haler H))`
abbrev pub operator_text : ℤ → ℤ → List ℕ
operator_text line haler = form_text (codes "operator") ((codes "line", line) ∷ (codes "haler", haler) ∷ [])

-- `(show (line L) (party P) (balance B) (need N))`
abbrev pub show_text : ℤ → ℤ → ℤ → ℤ → List ℕ
show_text line party balance need =
    form_text (codes "show") ((codes "line", line) ∷ (codes "party", party) ∷ (codes "balance", balance) ∷ (codes "need", need) ∷ [])

-- the bytes of an answer to a line; of an evaluation's payments the first `parties`, at most the 20 that there are, from party 1 on
abbrev pub answer_text : ℤ → Answer → List ℕ
answer_text line Accepted = ok_text line
answer_text line (Refused layer number place) = no_text line layer number place
answer_text line (Paid parties payments operator) = pay_lines line 1 (take (min parties 20) payments) ++ operator_text line operator
answer_text line (Statement party balance need) = show_text line party balance need
