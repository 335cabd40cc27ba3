use Rattle.std.proofs.Common.{◌≡◌, ◌+◌, min, get_or, take, pos, ap, ◌∙◌, subst, arith, rules}
use Rattle.std.proofs.lemmas.List.{take_all}
use Rattle.answers.specs.Texts.{pay_text, pay_lines, operator_text}
use Rattle.answers.specs.Writing.{Adds}
use Rattle.answers.proofs.Laying.{adds_adds, pays_more}
use Rattle.answers.proofs.writer.Writer.paid.Goals as goal

pub loop-i-preserved : goal.loop-i-preserved
loop-i-preserved c =
    let paid = take c.min.result c.args.payments.now in
    let a : Adds (pay_lines c.args.line 1 (take c.loop-i.i paid)) c.args.self.now c.loop-i.self = search rules in
    let b : Adds (pay_text c.args.line (c.loop-i.i + 1) (get_or paid c.loop-i.i (pos 0))) c.loop-i.self c.payment.new.self = search rules in
    let s : Adds (pay_lines c.args.line 1 (take (c.loop-i.i + 1) paid)) c.args.self.now c.payment.new.self = pays_more c.args.line paid c.loop-i.i (omega arith) a b in
    record { adds = search rules; short = search rules }

pub returns-clause-adds : goal.returns-clause-adds
returns-clause-adds c =
    let paid = take c.min.result c.args.payments.now in
    let all : take c.loop-i.i paid ≡ take (min c.args.parties 20) c.args.payments.now =
    take_all c.loop-i.i paid (omega arith) ∙ ap (λ n. take n c.args.payments.now) c.min.ensures in
    let a : Adds (pay_lines c.args.line 1 (take c.loop-i.i paid)) c.args.self.now c.loop-i.self = search rules in
    let b : Adds (operator_text c.args.line c.args.operator) c.loop-i.self c.form.new.self = search rules in
    adds_adds (subst (λ hs. Adds (pay_lines c.args.line 1 hs) c.args.self.now c.loop-i.self) all a) b
