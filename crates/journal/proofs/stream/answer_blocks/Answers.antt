use Rattle.std.proofs.Common.{rules, length, ◌<◌}
use Rattle.journal.proofs.Streaming.{going_ends}
use Rattle.journal.proofs.stream.answer_blocks.Goals as goal

pub returns-then-len-eq0 : goal.returns-then-len-eq0
returns-then-len-eq0 g c =
    let room : 0 < length c.read.new.buf = search rules in
    going_ends g.S.Subject.view g.S.Subject.answered (g.S.Subject.view c.args.journal) c.loop.input c.read.new.buf c.in_ok-len.len _ _ _ _ _ _ c.end.result c.loop.invariant c.in_ok-len.ensures.bytes c.if-len-eq0.true room c.end.ensures
