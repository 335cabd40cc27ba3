-- What is written to all lines of an input by a journal that keeps a book, in what the journal keeps (its `View`): what `journal` says of whatever answers lines, at this journal. Assumes nothing.
--
--   Transcript v n lines output w the journal v answers these lines, numbered from n on, by the output, and becomes w
--   Whole v input output w        the journal v answers every line of an input that has ended by the output, and becomes w
--   Ran v i input output          as the input so far has come in, the journal v answered the lines that ended by the output, and i holds the journal now and the rest
--   Runs i more text j            as more came in, i became j, and text was written
--   Takes i d byte r j e          what the call for the next byte does, with the buffer d
--   Finishes i d r j e            what the call at the end of the input does
use Rattle.std.specs.Prelude.{ℕ, List, Option}
use Rattle.journal.specs.declared.input.Input.{Input}
use Rattle.journal.specs.Lines as told
use Rattle.journal.proofs.Seen.{ran_seen, whole_seen}
use Rattle.keeping.specs.declared.keeper.Journal.{Journal}
use Rattle.keeping.specs.View.{View, view}
use Rattle.keeping.specs.Answered.{Answered}

abbrev pub Outcome : View → ℕ → List ℕ → List ℕ → View → Type 0
Outcome = told.Outcome Answered

abbrev pub Transcript : View → ℕ → List (List ℕ) → List ℕ → View → Type 0
Transcript = told.Transcript Answered

abbrev pub Whole : View → List ℕ → List ℕ → View → Type 0
Whole = told.Whole Answered

abbrev pub Holds : Input Journal → List (List ℕ) → List ℕ → Type 0
Holds = told.Holds

abbrev pub Ran : View → Input Journal → List ℕ → List ℕ → Type 0
Ran = told.Ran view Answered

abbrev pub Runs : Input Journal → List ℕ → List ℕ → Input Journal → Type 0
Runs = told.Runs view Answered

abbrev pub Takes : Input Journal → List ℕ → ℕ → Option ℕ → Input Journal → List ℕ → Type 0
Takes = told.Takes view Answered

abbrev pub Finishes : Input Journal → List ℕ → Option ℕ → Journal → List ℕ → Type 0
Finishes = told.Finishes view Answered

-- what `journal` promises of the journal itself is so of what it keeps
pub ran_kept : (j : Journal) (i : Input Journal) (input output : List ℕ) → told.Ran (λ j. j) (λ j line a k. Answered (view j) line a (view k)) j i input output → Ran (view j) i input output
ran_kept = ran_seen view Answered

pub whole_kept : (j k : Journal) (input output : List ℕ) → told.Whole (λ j line a k. Answered (view j) line a (view k)) j input output k → Whole (view j) input output (view k)
whole_kept = whole_seen view Answered
