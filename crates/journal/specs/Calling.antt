-- The line call of what answers lines, in what is kept of it from line to line. Assumes nothing.
--
--   LineText Answered v number line text w    what keeps v answers the line of this number by these bytes, and then keeps w
--   LineCall Answered v d number line r w e   the line call altered what is kept from v to w and the buffer d to e, and returned r
use Rattle.std.specs.Prelude.{◌≡◌, ℕ, ◌<◌, ◌≤◌, List, [], length, ℤ, Some, None, Option}
use Rattle.answers.specs.declared.Answer.{Answer}
use Rattle.answers.specs.Texts.{answer_text}
use Rattle.answers.specs.Writing.{laid, Answerable}

-- Answered v line a w says that what keeps v answers a line that is not empty by a, and then keeps w
module _ {V : Type 0} (Answered : V → List ℕ → Answer → V → Type 0) where
  -- no byte for an empty line, which changes nothing; else an answer's text
  abbrev pub LineText : V → ℤ → List ℕ → List ℕ → V → Type 0
  LineText v number line text w = (length line ≡ 0 → (text ≡ []) × (w ≡ v)) × (0 < length line → (a : Answer) × Answered v line a w × (text ≡ answer_text number a))

  -- None, with what is kept and the buffer unaltered, exactly where the line is not answerable; else the answer's bytes at the buffer's start, no other byte altered, and their number
  abbrev pub LineCall : V → List ℕ → ℤ → List ℕ → Option ℕ → V → List ℕ → Type 0
  LineCall v d number line None w e = (Answerable (length d) number → ⊥) × (w ≡ v) × (e ≡ d)
  LineCall v d number line (Some n) w e = Answerable (length d) number × ((text : List ℕ) × LineText v number line text w × (n ≡ length text) × (n ≤ 4096) × (e ≡ laid d 0 text))
