-- An input that is read from a source and answered on an output, whose bytes may be known. Assumes nothing.
--
--   Feeds view Answered i block k held new     a block came in, i became k, and what the output held became new by the answers
--   Ends view Answered i held new k            the input ended: likewise, and k is handed back
--   Answers Answered v left rest held new w    the source was read to its end, what kept v answered all of its lines on the output and then keeps w
use Rattle.std.specs.Prelude.{ℕ, List, ◌++◌, Option}
use Rattle.std.specs.Io.KnownBytes.{Appends, Consumes, IsAtEnd}
use Rattle.answers.specs.declared.Answer.{Answer}
use Rattle.journal.specs.declared.input.Input.{Input}
use Rattle.journal.specs.Lines.{Ran, Runs, Whole}

module _ {J V : Type 0} (view : J → V) (Answered : V → List ℕ → Answer → V → Type 0) where
  pub record Feeds (i : Input J) (block : List ℕ) (k : Input J) (held new : Option (List ℕ)) : Type 0 where
    pub text : List ℕ
    pub runs : Runs view Answered i block text k
    pub written : Appends held new text

  pub record Ends (i : Input J) (held new : Option (List ℕ)) (k : J) : Type 0 where
    pub text : List ℕ
    pub answered : (v : V) (input output : List ℕ) → Ran view Answered v i input output → Whole Answered v input (output ++ text) (view k)
    pub written : Appends held new text

pub record Answers {V : Type 0} (Answered : V → List ℕ → Answer → V → Type 0) (v : V) (left rest held new : Option (List ℕ)) (w : V) : Type 0 where
  pub input : List ℕ
  pub output : List ℕ
  pub taken : Consumes left rest input
  pub ended : IsAtEnd rest
  pub answered : Whole Answered v input output w
  pub written : Appends held new output
