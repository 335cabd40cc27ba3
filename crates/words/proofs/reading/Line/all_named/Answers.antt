use Rattle.std.proofs.Common.{◌<◌, [], map, length, Err, sym, ap, ◌∙◌, arith}
use Rattle.std.proofs.lemmas.Result.{err_from_is_err_and}
use Rattle.std.proofs.lemmas.List.{get_or-map, length-map}
use Rattle.words.specs.Walk.{one_named}
use Rattle.words.proofs.Walking.{walked_more, walked_err}
use Rattle.words.proofs.reading.Line.all_named.Goals as goal

pub returns-in_err-at : goal.returns-in_err-at
returns-in_err-at c fs h =
    let p = err_from_is_err_and c.from_residual.result c.from_residual.ensures.1 in
    let told = c.in_err-at.ensures in
    let lt : c.loop-name.name-index < length c.args.names.now = omega arith in
    let all : c.loop-name.name-index < length (map (λ x. x.now) c.args.names.now) = rw length-map lt in
    p.1 ∙ ap Err p.2 ∙ walked_err c.args.self.bytes.now (map (λ x. x.now) c.args.names.now) fs c.args.start c.loop-name.name-index c.loop-name.at _ all (λ gs k. told gs k ∙ ap (λ nm. one_named nm gs c.loop-name.at) (sym (get_or-map (λ x. x.now) c.args.names.now c.loop-name.name-index _ [] lt))) (c.loop-name.invariant fs h)

pub loop-name-preserved : goal.loop-name-preserved
loop-name-preserved c fs h =
    let told = c.in_ok-at.ensures in
    let lt : c.loop-name.name-index < length c.args.names.now = omega arith in
    let all : c.loop-name.name-index < length (map (λ x. x.now) c.args.names.now) = rw length-map lt in
    walked_more c.args.self.bytes.now (map (λ x. x.now) c.args.names.now) fs c.args.start c.loop-name.name-index c.loop-name.at _ all (λ gs k. told gs k ∙ ap (λ nm. one_named nm gs c.loop-name.at) (sym (get_or-map (λ x. x.now) c.args.names.now c.loop-name.name-index _ [] lt))) (c.loop-name.invariant fs h)
