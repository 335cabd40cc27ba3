-- A line of over 200 bytes is answered by its first 201 as by the whole of it. Assumes nothing.
use Rattle.std.proofs.Common.{ℕ, ◌<◌, List, length, take, Ok, Err, Result, arith}
use Rattle.std.proofs.lemmas.List.{length-take-le}
use Rattle.answers.specs.declared.Answer.{Answer}
use Rattle.brackets.specs.declared.BracketFault.TheVariants.{Long, Byte, Shape}
use Rattle.words.specs.declared.faults.WordFault.{WordFault}
use Rattle.words.specs.declared.faults.WordFault.TheVariants.{Bracket, Head, Field, Number}
use Rattle.words.specs.declared.form.Form.{Form}
use Rattle.words.specs.Layer.{Reads}
use Rattle.journal.specs.declared.refusal.Refusal.{Refusal}
use Rattle.journal.specs.declared.refusal.Refusal.TheVariants.{Words, NotOpened}
use Rattle.journal.specs.Answered.{Entered, Answered}

-- such a line meets the first check, whatever its bytes are
reads_long : (front line : List ℕ) (r : Result Form WordFault) → 200 < length front → 200 < length line → Reads front r → Reads line r
reads_long front line (Err (Bracket Long)) f l e = l
reads_long front line (Err (Bracket (Byte c))) f l e = absurd (omega (arith, e.0))
reads_long front line (Err (Bracket (Shape c))) f l e = absurd (omega (arith, e.0))
reads_long front line (Err Head) f l e = absurd (omega (arith, e.0.0))
reads_long front line (Err (Field c)) f l e = absurd (omega (arith, e.0.0))
reads_long front line (Err (Number c)) f l e = absurd (omega (arith, e.0.0))
reads_long front line (Ok form) f l e = absurd (omega (arith, e.0.0))

pub reads_cut : (line : List ℕ) (r : Result Form WordFault) → 200 < length line → Reads (take 201 line) r → Reads line r
reads_cut line r h e = let f = length-take-le 201 line (omega arith) in reads_long (take 201 line) line r (omega arith) h e

entered_cut : (line : List ℕ) (r : Result Answer Refusal) → 200 < length line → Entered (take 201 line) r → Entered line r
entered_cut line (Err (Words f)) h e = reads_cut line (Err f) h e
entered_cut line (Err NotOpened) h e = (e.0, reads_cut line (Ok e.0) h e.1)
entered_cut line (Ok a) h e = e

pub answered_cut : (line : List ℕ) (a : Answer) → 200 < length line → Answered (take 201 line) a → Answered line a
answered_cut line a h e = (e.0, entered_cut line e.0 h e.1, e.2)
