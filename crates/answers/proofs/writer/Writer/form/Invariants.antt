use Rattle.std.proofs.Common.{◌+◌, ◌*◌, ◌≤◌, map, take}
use Rattle.answers.specs.Writing.{Adds, named}
use Rattle.answers.proofs.Laying.{fields_alone}
use Rattle.answers.proofs.writer.Writer.form.Given as goal

abbrev pub invariant-loop-field : goal.invariant-loop-field
invariant-loop-field l = record {
  adds : Adds (fields_alone (map named (take l.field-index l.fields))) l.initial.self l.self;
  short : l.self.len ≤ l.initial.self.len + 40 * l.field-index;
}
