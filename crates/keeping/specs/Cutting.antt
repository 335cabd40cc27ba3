-- A line of over 200 bytes is answered by its first 201 as by the whole of it. Assumes nothing.
use Rattle.std.specs.Prelude.{ℕ, ◌<◌, List, length, take}
use Rattle.answers.specs.declared.Answer.{Answer}
use Rattle.journal.specs.Cutting.{reads_cut}
use Rattle.keeping.specs.View.{View}
use Rattle.keeping.specs.Answered.{Answered}

pub answered_cut : (v w : View) (line : List ℕ) (a : Answer) → 200 < length line → Answered v (take 201 line) a w → Answered v line a w
answered_cut v w line a h e = (e.0, (e.1.0, reads_cut line e.1.0 h e.1.1, e.1.2, e.1.3), e.2)
