-- What a line is answered by a journal that keeps no book. Assumes nothing.
--
--   Entered line r             the layers made r of the line
--   Answered line a            a line that is not empty is answered by a
--   LineCall d number line r e the line call altered the buffer d to e and returned r
use Rattle.std.specs.Prelude.{◌≡◌, ℕ, List, ℤ, Ok, Err, Option, Result}
use Rattle.answers.specs.declared.Answer.{Answer}
use Rattle.words.specs.declared.form.Form.{Form}
use Rattle.words.specs.Layer.{Reads}
use Rattle.journal.specs.declared.refusal.Refusal.{Refusal}
use Rattle.journal.specs.declared.refusal.Refusal.TheVariants.{Words, NotOpened}
use Rattle.journal.specs.Calling as calling
use Rattle.journal.specs.Told.{refused_as}

-- a fault of layers 1 and 2, or a form; a journal that keeps no book yet accepts none
abbrev pub Entered : List ℕ → Result Answer Refusal → Type 0
Entered line (Err (Words f)) = Reads line (Err f)
Entered line (Err NotOpened) = (form : Form) × Reads line (Ok form)
Entered line (Ok a) = ⊥

-- what an outcome of the layers is answered
abbrev pub answer_of : Result Answer Refusal → Answer
answer_of (Ok a) = a
answer_of (Err f) = refused_as f

-- a line that is not empty is answered by what the layers made of it
abbrev pub Answered : List ℕ → Answer → Type 0
Answered line a = (r : Result Answer Refusal) × Entered line r × (a ≡ answer_of r)

-- nothing is kept from line to line
abbrev pub LineCall : List ℕ → ℤ → List ℕ → Option ℕ → List ℕ → Type 0
LineCall d number line r e = calling.LineCall {V = Unit {0}} (λ _ l a _. Answered l a) tt d number line r tt e
