use Rattle.std.proofs.Common.{◌+◌, ◌*◌, ◌≤◌, take}
use Rattle.answers.specs.Texts.{pay_lines}
use Rattle.answers.specs.Writing.{Adds}
use Rattle.answers.proofs.writer.Writer.paid.Given as goal

abbrev pub invariant-loop-i : goal.invariant-loop-i
invariant-loop-i l = record {
  adds : Adds (pay_lines l.line 1 (take l.i l.paid)) l.initial.self l.self;
  short : l.self.len ≤ l.initial.self.len + 135 * l.i;
}
