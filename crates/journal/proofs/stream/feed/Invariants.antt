use Rattle.std.proofs.Common.{take}
use Rattle.journal.specs.Streams.{Feeds}
use Rattle.journal.proofs.stream.feed.Given as goal

abbrev pub invariant-loop-byte : goal.invariant-loop-byte
invariant-loop-byte g l = Feeds g.S.Subject.view g.S.Subject.answered l.initial.input (take l.byte-index l.block) l.input (g.W.Write.contents l.initial.out) (g.W.Write.contents l.out)
