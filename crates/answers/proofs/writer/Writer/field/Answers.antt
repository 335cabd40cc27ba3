use Rattle.std.proofs.Common.{rules}
use Rattle.std.specs.Fmt.{signed_decimal}
use Rattle.answers.specs.Texts.{field_text}
use Rattle.answers.specs.Writing.{Adds}
use Rattle.answers.proofs.Laying.{adds_adds}
use Rattle.answers.proofs.writer.Writer.field.Goals as goal

pub returns-clause-adds : goal.returns-clause-adds
unfolding field_text
returns-clause-adds c =
    let g : Adds (signed_decimal c.args.field.now.1) c.add-3.new.self c.add-4.new.self = search rules in
    adds_adds c.add.ensures (adds_adds c.add-2.ensures (adds_adds c.add-3.ensures (adds_adds g c.add-5.ensures)))
