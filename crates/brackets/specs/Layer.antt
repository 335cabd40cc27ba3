-- What layer 1 answers to a line. Assumes nothing.
--
--   Brackets line r   r is the answer: each case also says that the checks before it passed
use Rattle.std.specs.Prelude.{ℕ, ◌<◌, ◌≤◌, List, length, Ok, Err, Result}
use Rattle.brackets.specs.Bytes.{Clean, FirstBad}
use Rattle.brackets.specs.Grammar.{WellShaped, Stuck, Only}
use Rattle.brackets.specs.declared.BracketFault.{BracketFault}
use Rattle.brackets.specs.declared.BracketFault.TheVariants.{Long, Byte, Shape}

abbrev pub Brackets : List ℕ → Result (Unit {0}) BracketFault → Type 0
Brackets line (Err Long) = 200 < length line
Brackets line (Err (Byte c)) = (length line ≤ 200) × FirstBad line c
Brackets line (Err (Shape c)) = (length line ≤ 200) × Clean line × Stuck line c × Only line c
Brackets line (Ok u) = (length line ≤ 200) × Clean line × WellShaped line
