-- The table of forms: the head of each, and the names of its fields in order. Assumes nothing.
--
--   head_text k     the head
--   field_names k   the names
--   Unknown head    no form has this head
use Rattle.std.specs.Prelude.{ℕ, List, [], ◌∷◌, codes, ◌≢◌}
use Rattle.words.specs.declared.reading.Kind.{Kind}
use Rattle.words.specs.declared.reading.Kind.TheVariants.{Book, Deposit, Withdraw, Register, Market, Close, Regulate, Meter, Evaluate, Show}

abbrev pub head_text : Kind → List ℕ
head_text Book = codes "book"
head_text Deposit = codes "deposit"
head_text Withdraw = codes "withdraw"
head_text Register = codes "register"
head_text Market = codes "market"
head_text Close = codes "close"
head_text Regulate = codes "regulate"
head_text Meter = codes "meter"
head_text Evaluate = codes "evaluate"
head_text Show = codes "show"

abbrev pub field_names : Kind → List (List ℕ)
field_names Book = codes "parties" ∷ codes "days" ∷ codes "pricing" ∷ codes "default" ∷ codes "sharing" ∷ []
field_names Deposit = codes "party" ∷ codes "haler" ∷ []
field_names Withdraw = codes "party" ∷ codes "haler" ∷ []
field_names Register = codes "day" ∷ codes "from" ∷ codes "to" ∷ codes "seller" ∷ codes "buyer" ∷ codes "kwh" ∷ []
field_names Market = codes "day" ∷ codes "from" ∷ codes "to" ∷ codes "seller" ∷ codes "buyer" ∷ codes "kwh" ∷ codes "price" ∷ []
field_names Close = codes "day" ∷ []
field_names Regulate = codes "day" ∷ codes "hour" ∷ codes "party" ∷ codes "kwh" ∷ codes "price" ∷ []
field_names Meter = codes "day" ∷ codes "from" ∷ codes "to" ∷ codes "party" ∷ codes "kwh" ∷ []
field_names Evaluate = codes "day" ∷ codes "stage" ∷ []
field_names Show = codes "party" ∷ []

abbrev pub Unknown : List ℕ → Type 0
Unknown head = (k : Kind) → head ≢ head_text k
