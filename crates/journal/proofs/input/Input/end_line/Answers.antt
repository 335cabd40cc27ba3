use Rattle.std.proofs.Common.{take}
use Rattle.journal.proofs.Running.{ran_line}
use Rattle.journal.proofs.input.Input.end_line.Goals as goal

pub returns-clause-runs : goal.returns-clause-runs
returns-clause-runs g c =
    ran_line g.S.Subject.view g.S.Subject.answered c.args.self.now c.answer-len.new.self c.begin_line.new.self (take c.answer-len.result c.answer-len.new.out) c.answer-len.ensures.outcome c.answer-len.ensures.line c.answer-len.ensures.number c.begin_line.ensures.holds c.begin_line.ensures.journal
