use Rattle.journal.proofs.Streaming.{Going}
use Rattle.journal.proofs.stream.answer_blocks.Given as goal

abbrev pub invariant-loop : goal.invariant-loop
invariant-loop g l = Going g.S.Subject.view g.S.Subject.answered (g.S.Subject.view l.fn.journal) l.input (g.R.Read.remaining l.initial.source) (g.R.Read.remaining l.source) (g.W.Write.contents l.initial.out) (g.W.Write.contents l.out)
