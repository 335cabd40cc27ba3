use Rattle.std.proofs.Common.{◌≡◌, List, length}
use Rattle.brackets.specs.Grammar.{Field}
use Rattle.words.specs.Walk.{FieldsAt}
use Rattle.words.proofs.Numbering.{Read}
use Rattle.words.proofs.reading.Line.values.Given as goal

abbrev pub invariant-loop-v : goal.invariant-loop-v
invariant-loop-v l = (length l.v-items ≡ l.count) × ((fs : List Field) → FieldsAt l.self.bytes.now l.initial.at fs → length fs ≡ l.count → Read l.self.bytes.now fs l.initial.at l.count l.v-index l.at l.v-items)
