-- Where the head and the fields of a form lie, and how many numbers it has.
use Rattle.std.proofs.Common.{◌≡◌, ℕ, ◌+◌, ◌-◌, false, List, [], ◌∷◌, ◌++◌, map, length, take, drop, sym, refl, ap, ◌∙◌, arith, Bor}
use Rattle.std.specs.List.{before_first}
use Rattle.std.proofs.lemmas.List.{drop-drop, drop_at, take_rest, length-map}
use Rattle.std.proofs.lemmas.List.Elements.{All-weaker}
use Rattle.std.proofs.lemmas.Bool.Decides.{nat_tests}
use Rattle.brackets.specs.Bytes.{Letter}
use Rattle.brackets.specs.Grammar.{Field, rest, IsForm}
use Rattle.words.specs.Layer.{name_of, names_of}
use Rattle.words.specs.Walk.{stops, FieldsAt}
use Rattle.words.proofs.Cutting.{word_is}

inner : (b : ℕ) → Letter b → stops b ≡ false
inner b h = grind (arith, nat_tests)

after_bracket : (line head : List ℕ) (fields : List Field) → IsForm line head fields → drop 1 line ≡ head ++ rest fields
after_bracket line head fields h = ap (drop 1) h.2

pub head_is : (line head : List ℕ) (fields : List Field) → IsForm line head fields → before_first stops (take (length line - 1) (drop 1 line)) ≡ head
head_is line head [] h =
    word_is _ head 41 [] (take_rest line 1 ∙ after_bracket line head [] h) (All-weaker Letter (λ b. stops b ≡ false) inner head h.0.1) refl
head_is line head (f ∷ fs) h =
    word_is _ head 32 _ (take_rest line 1 ∙ after_bracket line head (f ∷ fs) h) (All-weaker Letter (λ b. stops b ≡ false) inner head h.0.1) refl

pub fields_at : (line head : List ℕ) (fields : List Field) (r : ℕ) → IsForm line head fields → r ≡ 1 + length head → FieldsAt line r fields
fields_at line head fields r h e =
    (h.1, ap (λ n. drop n line) e ∙ sym (drop-drop (length head) 1 line) ∙ ap (drop (length head)) (after_bracket line head fields h) ∙ drop_at head (rest fields) (length head) refl)

-- the number of names is that of the table
pub count_is : (xs : List (Bor (List ℕ))) (ns : List (List ℕ)) → map (λ x. x.now) xs ≡ ns → length xs ≡ length ns
count_is xs ns e = sym (length-map xs (λ x. x.now)) ∙ ap length e

-- and of the fields that have them
pub as_many : (fields : List Field) (ns : List (List ℕ)) → names_of fields ≡ ns → length fields ≡ length ns
as_many fields ns e = sym (length-map fields name_of) ∙ ap length e
