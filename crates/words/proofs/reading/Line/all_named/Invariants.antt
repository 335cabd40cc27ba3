use Rattle.std.proofs.Common.{List, map}
use Rattle.brackets.specs.Grammar.{Field}
use Rattle.words.specs.Walk.{FieldsAt}
use Rattle.words.proofs.Walking.{Walked}
use Rattle.words.proofs.reading.Line.all_named.Given as goal

abbrev pub invariant-loop-name : goal.invariant-loop-name
invariant-loop-name l = (fs : List Field) → FieldsAt l.self.bytes.now l.initial.at fs → Walked l.self.bytes.now (map (λ x. x.now) l.names) fs l.initial.at l.name-index l.at
