use Rattle.std.proofs.Common.{map, subst, arith, rules}
use Rattle.std.proofs.lemmas.List.{take_all}
use Rattle.answers.specs.Texts.{fields_text, form_text}
use Rattle.answers.specs.Writing.{Adds, named}
use Rattle.answers.proofs.Laying.{adds_adds, fields_alone, fields_ended, fields_more}
use Rattle.answers.proofs.writer.Writer.form.Goals as goal

pub loop-field-preserved : goal.loop-field-preserved
loop-field-preserved c = record {
  adds = search (rules, fields_more);
  short = search rules;
}

pub returns-clause-adds : goal.returns-clause-adds
unfolding form_text
returns-clause-adds c =
    let fields : Adds (fields_alone (map named c.args.fields.now)) c.add-2.new.self c.loop-field.self =
    subst (λ fs. Adds (fields_alone (map named fs)) c.add-2.new.self c.loop-field.self) (take_all c.loop-field.field-index c.args.fields.now (omega arith)) c.loop-field.invariant.adds in
    let ended : Adds (fields_text (map named c.args.fields.now)) c.add-2.new.self c.add-3.new.self =
    subst (λ s. Adds s c.add-2.new.self c.add-3.new.self) (fields_ended (map named c.args.fields.now)) (adds_adds fields c.add-3.ensures) in
    adds_adds c.add.ensures (adds_adds c.add-2.ensures ended)
