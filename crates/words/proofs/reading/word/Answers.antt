use Rattle.std.proofs.Common.{◌≡◌, ◌≤◌, length, take, ap, arith, rules}
use Rattle.std.specs.List.{position_or_len}
use Rattle.words.specs.Walk.{stops}
use Rattle.words.proofs.Cutting.{unwrap_position, position_within}
use Rattle.words.proofs.reading.word.Goals as goal

pub slice_bounds-result-end : goal.slice_bounds-result-end
slice_bounds-result-end c =
    let e : c.unwrap_or-len.result ≡ position_or_len stops c.args.rest.now = search (rules, unwrap_position) in
    let l : c.unwrap_or-len.result ≤ length c.args.rest.now = omega (arith, position_within stops c.args.rest.now) in
    search rules

pub returns : goal.returns
returns c =
    let e : c.unwrap_or-len.result ≡ position_or_len stops c.args.rest.now = search (rules, unwrap_position) in
    ap (λ n. take n c.args.rest.now) e
