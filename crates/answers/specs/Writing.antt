-- What writing does to a buffer. Assumes nothing.
--
--   laid d k s           the buffer d with s laid down at place k, and nothing else altered
--   Adds s w v           the writer w became v by adding the bytes s
--   Room w n             n bytes more go into the writer's buffer
--   named f, Brief f     a field's name and number; its name has at most 10 bytes
--   Answerable n line    a buffer of n bytes and a line's number that an answer is written for
--   Writes d line a r e  the buffer d became e, and r was returned, by answering the line with a
use Rattle.std.specs.Prelude.{◌≡◌, ℕ, ◌+◌, ◌≤◌, List, ◌++◌, length, take, drop, ℤ, pos, ◌≤ℤ◌, Some, None, Option}
use Rattle.std.specs.Borrow.{Bor}
use Rattle.answers.specs.declared.Answer.{Answer}
use Rattle.answers.specs.declared.writer.Writer.{Writer}
use Rattle.answers.specs.Texts.{answer_text}

-- the buffer d with s laid down at place k, and nothing else altered
abbrev pub laid : List ℕ → ℕ → List ℕ → List ℕ
laid d k s = take k d ++ (s ++ drop (k + length s) d)

-- the bytes s were added after those before, each once, and there was room for them
pub record Adds (s : List ℕ) (w v : Writer) : Type 0 where
  pub same : v.buffer.ghost_name ≡ w.buffer.ghost_name
  pub bytes : v.buffer.now ≡ laid w.buffer.now w.len s
  pub long : v.len ≡ w.len + length s
  pub fits : w.len + length s ≤ length w.buffer.now
  pub kept : length v.buffer.now ≡ length w.buffer.now

-- n bytes more go into the buffer
pub record Room (w : Writer) (n : ℕ) : Type 0 where
  pub left : w.len + n ≤ length w.buffer.now

-- the name and the number of a field
abbrev pub named : Bor (List ℕ) × ℤ → List ℕ × ℤ
named f = (f.0.now, f.1)

-- its name has at most 10 bytes
abbrev pub Brief : Bor (List ℕ) × ℤ → Type 0
Brief f = length f.0.now ≤ 10

-- a buffer of 4,096 bytes or more, and a line's number from 1 to 999,999,999
abbrev pub Answerable : ℕ → ℤ → Type 0
Answerable room line = (4096 ≤ room) × (pos 1 ≤ℤ line) × (line ≤ℤ pos 999999999)

-- None, with the buffer unaltered, exactly where the line is not answerable; else the answer at the buffer's start, no other byte altered, and its length, never above 4,096
abbrev pub Writes : List ℕ → ℤ → Answer → Option ℕ → List ℕ → Type 0
Writes d line a None e = (Answerable (length d) line → ⊥) × (e ≡ d)
Writes d line a (Some n) e = Answerable (length d) line × (n ≡ length (answer_text line a)) × (n ≤ 4096) × (e ≡ laid d 0 (answer_text line a))
