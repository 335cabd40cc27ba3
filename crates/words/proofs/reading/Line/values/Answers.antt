use Rattle.std.proofs.Common.{◌≡◌, ◌+◌, ◌<◌, length, set, sym, ◌∙◌, subst, arith, length-set, w64, to_z, of_z, rules}
use Rattle.std.proofs.lemmas.List.{take_at, take_all}
use Rattle.std.proofs.lemmas.Result.{err_from_is_err_and}
use Rattle.words.proofs.Numbering.{Read, next_is, read_more, read_err, read_all}
use Rattle.words.proofs.reading.Line.values.Goals as goal

pub value-requires : goal.value-requires
value-requires c =
    let r = c.loop-v.invariant.1 c.requires.some.0 c.requires.some.1 c.requires.some.2 in
    next_is c.args.self.bytes.now c.loop-v.at r.left r.here (omega (arith, r.long))

pub returns-in_err-v : goal.returns-in_err-v
returns-in_err-v c fs h l =
    let p = err_from_is_err_and c.from_residual.result c.from_residual.ensures.1 in
    let told = c.in_err-v.ensures in
    let e = read_err c.args.self.bytes.now fs c.args.start c.args.count c.loop-v.v-index c.loop-v.at _ c.loop-v.v-items (omega arith) told (c.loop-v.invariant.1 fs h l) in
    rw (p.1, p.2) e

pub loop-v-preserved : goal.loop-v-preserved
loop-v-preserved c =
    let e : to_z w64 (of_z w64 c.in_ok-v.field-0-0) ≡ c.in_ok-v.field-0-0 = search rules in
    let less : c.loop-v.v-index < c.args.count = omega (arith, c.loop-v.auto.v-items) in
    let long : c.loop-v.v-index < length c.loop-v.v-items = omega (arith, c.loop-v.invariant.0) in
    (length-set c.loop-v.v-items c.loop-v.v-index _ ∙ c.loop-v.invariant.0, λ fs h l. subst (λ z. Read c.args.self.bytes.now fs c.args.start c.args.count (c.loop-v.v-index + 1) c.in_ok-v.field-0-1 (set c.loop-v.v-items c.loop-v.v-index z)) (sym e) (read_more c.args.self.bytes.now fs c.args.start c.args.count c.loop-v.v-index c.loop-v.at c.in_ok-v.field-0-1 c.in_ok-v.field-0-0 c.loop-v.v-items long less c.in_ok-v.ensures (c.loop-v.invariant.1 fs h l)))
