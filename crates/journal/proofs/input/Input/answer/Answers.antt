use Rattle.std.proofs.Common.{pos, subst, take, rules}
use Rattle.journal.specs.Calling.{LineCall}
use Rattle.journal.proofs.Running.{called_outcome, ran_whole}
use Rattle.journal.proofs.input.Input.answer.Goals as goal

pub returns-clause-outcome : goal.returns-clause-outcome
returns-clause-outcome g c =
    let A = g.S.Subject.answered in
    let j = g.S.Subject.view c.args.self.now.journal in
    let k = g.S.Subject.view c.call_line.new.answering in
    let d = c.args.out.now in
    let e = c.call_line.new.out in
    let m = c.args.self.now.number in
    let call : LineCall A j d (pos m) c.args.self.now.line.items c.call_line.result k e = search rules in
    λ lines rest h. rw c.unwrap_or.ensures (called_outcome A g.met.S.Subject.cut j k d e m c.call_line.result lines rest c.requires h.numbered (subst (λ l. LineCall A j d (pos m) l c.call_line.result k e) h.front call))

pub returns-clause-whole : goal.returns-clause-whole
returns-clause-whole g c =
    λ j input output r. ran_whole g.S.Subject.view g.S.Subject.answered j (g.S.Subject.view c.call_line.new.answering) c.args.self.now (take c.unwrap_or.result c.call_line.new.out) input output (returns-clause-outcome g c) r
