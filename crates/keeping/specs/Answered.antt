-- What a journal answers a line, and what it keeps afterwards. Assumes nothing.
--
--   made_in v f                    what the journal v makes of a line that layers 1 and 2 read as f: an answer or a refusal
--   kept_in v f                    what it keeps afterwards
--   Entered v line r w             the journal v made r of the line, and became w
--   Answered v line a w            it answered a line that is not empty by a, and became w
--   LineText v number line text w  it answered the line of this number by these bytes, and became w
--   LineCall v d number line r w e the line call altered the journal v to w and the buffer d to e, and returned r
use Rattle.std.specs.Prelude.{◌≡◌, ℕ, List, ℤ, Ok, Err, Option, Result}
use Rattle.answers.specs.declared.Answer.{Answer}
use Rattle.words.specs.declared.faults.WordFault.{WordFault}
use Rattle.words.specs.declared.form.Form.{Form}
use Rattle.words.specs.Layer.{Reads}
use Rattle.journal.specs.Calling as calling
use Rattle.keeping.specs.declared.refusal.Refusal.{Refusal}
use Rattle.keeping.specs.declared.refusal.Refusal.TheVariants.{Words}
use Rattle.keeping.specs.Told.{refused_as}
use Rattle.keeping.specs.View.{View}
use Rattle.keeping.specs.Entered.{after_in, answer_in}

-- a fault of layers 1 and 2 changes nothing
abbrev pub made_in : View → Result Form WordFault → Result Answer Refusal
made_in v (Err f) = Err (Words f)
made_in v (Ok form) = answer_in v form

abbrev pub kept_in : View → Result Form WordFault → View
kept_in v (Err f) = v
kept_in v (Ok form) = after_in v form

-- by what layers 1 and 2 read the line as
abbrev pub Entered : View → List ℕ → Result Answer Refusal → View → Type 0
Entered v line r w = (f : Result Form WordFault) × Reads line f × (r ≡ made_in v f) × (w ≡ kept_in v f)

-- what an outcome of the layers is answered
abbrev pub answer_of : Result Answer Refusal → Answer
answer_of (Ok a) = a
answer_of (Err f) = refused_as f

abbrev pub Answered : View → List ℕ → Answer → View → Type 0
Answered v line a w = (r : Result Answer Refusal) × Entered v line r w × (a ≡ answer_of r)

abbrev pub LineText : View → ℤ → List ℕ → List ℕ → View → Type 0
LineText = calling.LineText Answered

abbrev pub LineCall : View → List ℕ → ℤ → List ℕ → Option ℕ → View → List ℕ → Type 0
LineCall = calling.LineCall Answered
