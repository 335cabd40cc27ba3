-- The lines of an input, and what is written to them all by what answers them (`Answered`, as in `Calling`), in what is kept of it (`view`). Assumes nothing.
--
--   Divided input lines rest               the input is these lines, each ended by byte 10, and the rest after the last of them
--   Transcript Answered v n lines output w what keeps v answers these lines, numbered from n on, by the output, and then keeps w
--   Whole Answered v input output w        what keeps v answers every line of an input that has ended by the output, and then keeps w
--   Ran view Answered v i input output     as the input so far has come in, what kept v answered the lines that ended by the output, and i holds what answers now and the rest
--   Runs view Answered i more text k       as more came in, i became k, and text was written
--   Filled d n e                           n bytes were written at the start of the buffer d, which became e
--   Takes view Answered i d byte r k e     what the call for the next byte does, with the buffer d
--   Finishes view Answered i d r k e       what the call at the end of the input does
use Rattle.std.specs.Prelude.{◌≡◌, ℕ, ◌+◌, ◌<◌, ◌≤◌, min, List, [], ◌∷◌, ◌++◌, length, take, pos, Some, None, Option, ◌≢◌, All}
use Rattle.answers.specs.declared.Answer.{Answer}
use Rattle.answers.specs.Writing.{laid}
use Rattle.journal.specs.declared.input.Input.{Input}
use Rattle.journal.specs.Calling.{LineText}

-- no byte 10
abbrev pub Unbroken : List ℕ → Type 0
Unbroken line = All (λ b. b ≢ 10) line

-- each line and the byte 10 that ends it
abbrev pub ended : List (List ℕ) → List ℕ
ended [] = []
ended (line ∷ lines) = line ++ (10 ∷ ended lines)

pub record Divided (input : List ℕ) (lines : List (List ℕ)) (rest : List ℕ) : Type 0 where
  pub unbroken : All Unbroken lines
  pub going : Unbroken rest
  pub whole : input ≡ ended lines ++ rest

-- its first 201 bytes are kept of a line, so that one of over 200 is told apart, and of its number no more than that it is past the last that is answered
pub record Holds {J : Type 0} (i : Input J) (lines : List (List ℕ)) (rest : List ℕ) : Type 0 where
  pub front : i.line.items ≡ take 201 rest
  pub numbered : i.number ≡ min (length lines + 1) 1000000000

-- at most 4,096 bytes, and no byte after them altered
pub record Filled (d : List ℕ) (n : ℕ) (e : List ℕ) : Type 0 where
  pub only : e ≡ laid d 0 (take n e)
  pub within : n ≤ 4096

module _ {V : Type 0} (Answered : V → List ℕ → Answer → V → Type 0) where
  -- the bytes written to a line, and what is kept after it; from line 1,000,000,000 on nothing is written and nothing changes
  abbrev pub Outcome : V → ℕ → List ℕ → List ℕ → V → Type 0
  Outcome v n line text w = (n ≤ 999999999 → LineText Answered v (pos n) line text w) × (999999999 < n → (text ≡ []) × (w ≡ v))

  -- the answers one after the other, each by what the lines before left
  abbrev pub Transcript : V → ℕ → List (List ℕ) → List ℕ → V → Type 0
  Transcript v n [] output w = (output ≡ []) × (w ≡ v)
  Transcript v n (line ∷ lines) output w = (text : List ℕ) × (more : List ℕ) × (u : V) × Outcome v n line text u × Transcript u (n + 1) lines more w × (output ≡ text ++ more)

  -- what follows the last byte 10 is a line too, and gets no answer if it is empty
  abbrev pub Whole : V → List ℕ → List ℕ → V → Type 0
  Whole v input output w = (lines : List (List ℕ)) × (rest : List ℕ) × Divided input lines rest × Transcript v 1 (lines ++ rest ∷ []) output w

module _ {J V : Type 0} (view : J → V) (Answered : V → List ℕ → Answer → V → Type 0) where
  pub record Ran (v : V) (i : Input J) (input output : List ℕ) : Type 0 where
    pub lines : List (List ℕ)
    pub rest : List ℕ
    pub divided : Divided input lines rest
    pub written : Transcript Answered v 1 lines output (view i.journal)
    pub holds : Holds i lines rest

  abbrev pub Runs : Input J → List ℕ → List ℕ → Input J → Type 0
  Runs i more text k = (v : V) (input output : List ℕ) → Ran v i input output → Ran v k (input ++ more) (output ++ text)

  -- a byte came in: with a buffer under 4,096 bytes nothing is taken, else what answers it is at the buffer's start
  abbrev pub Takes : Input J → List ℕ → ℕ → Option ℕ → Input J → List ℕ → Type 0
  Takes i d byte None k e = (length d < 4096) × (k ≡ i) × (e ≡ d)
  Takes i d byte (Some n) k e = (4096 ≤ length d) × Runs i (byte ∷ []) (take n e) k × Filled d n e

  -- the input ended: likewise, and what answered it is handed back
  abbrev pub Finishes : Input J → List ℕ → Option ℕ → J → List ℕ → Type 0
  Finishes i d None k e = (length d < 4096) × (k ≡ i.journal) × (e ≡ d)
  Finishes i d (Some n) k e = (4096 ≤ length d) × ((v : V) (input output : List ℕ) → Ran v i input output → Whole Answered v input (output ++ take n e) (view k)) × Filled d n e
