-- What answers lines, seen as less than it is: `seen` may leave out of it what no answer shows, as a journal's view leaves out its references. What holds of it then holds of what is seen. Assumes nothing.
use Rattle.std.proofs.Common.{ℕ, ◌+◌, List, [], ◌∷◌, ◌++◌, ℤ, pos, ap}
use Rattle.answers.specs.declared.Answer.{Answer}
use Rattle.journal.specs.Calling.{LineText}
use Rattle.journal.specs.declared.input.Input.{Input}
use Rattle.journal.specs.Lines.{Outcome, Transcript, Whole, Ran}

module _ {J V : Type 0} (seen : J → V) (A : V → List ℕ → Answer → V → Type 0) where
  abbrev By : J → List ℕ → Answer → J → Type 0
  By j line a k = A (seen j) line a (seen k)

  line_text_seen : (j k : J) (number : ℤ) (line text : List ℕ) → LineText By j number line text k → LineText A (seen j) number line text (seen k)
  line_text_seen j k number line text t = (λ z. ((t.0 z).0, ap seen (t.0 z).1), t.1)

  outcome_seen : (j k : J) (n : ℕ) (line text : List ℕ) → Outcome By j n line text k → Outcome A (seen j) n line text (seen k)
  outcome_seen j k n line text o = (λ s. line_text_seen j k (pos n) line text (o.0 s), λ past. ((o.1 past).0, ap seen (o.1 past).1))

  pub transcript_seen : (j k : J) (n : ℕ) (lines : List (List ℕ)) (output : List ℕ) → Transcript By j n lines output k → Transcript A (seen j) n lines output (seen k)
  transcript_seen j k n [] output t = (t.0, ap seen t.1)
  transcript_seen j k n (line ∷ lines) output t = (t.0, t.1, seen t.2, outcome_seen j t.2 n line t.0 t.3, transcript_seen t.2 k (n + 1) lines t.1 t.4, t.5)

  pub whole_seen : (j k : J) (input output : List ℕ) → Whole By j input output k → Whole A (seen j) input output (seen k)
  whole_seen j k input output w = (w.0, w.1, w.2, transcript_seen j k 1 (w.0 ++ w.1 ∷ []) output w.3)

  pub ran_seen : (j : J) (i : Input J) (input output : List ℕ) → Ran (λ j. j) By j i input output → Ran seen A (seen j) i input output
  ran_seen j i input output r =
      record { lines = r.lines; rest = r.rest; divided = r.divided; written = transcript_seen j i.journal 1 r.lines output r.written; holds = r.holds }
