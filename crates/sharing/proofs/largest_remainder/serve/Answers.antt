use Rattle.std.proofs.Common.{◌≡◌, ◌+◌, ◌++◌, [], ◌∷◌, cond, ltb, length, get_or, sym, ap, ◌∙◌, arith}
use Rattle.std.proofs.lemmas.List.FromFn.{length-map-range_with_len, map-range_with_len_more}
use Rattle.sharing.specs.Rules.{rank}
use Rattle.sharing.proofs.Ranks.{byte_is, one_or_none}
use Rattle.sharing.proofs.Signs.{at_most_sum}
use Rattle.sharing.proofs.largest_remainder.serve.Goals as goal

pub overflow_add-floor : goal.overflow_add-floor
overflow_add-floor c =
    let b = ltb c.place_in_line.result c.args.left in
    let h = at_most_sum c.args.floors.now c.loop-k.k in
    let e = c.from.ensures ∙ byte_is b in
    omega (arith, one_or_none b)

pub push-requires : goal.push-requires
push-requires c = omega (arith, ap length c.loop-k.invariant ∙ length-map-range_with_len (λ k. get_or c.args.floors.now k 0 + cond (ltb (rank c.args.rests.now k) c.args.left) 1 0) 0 c.loop-k.k)

pub loop-k-preserved : goal.loop-k-preserved
loop-k-preserved c =
    let k = c.loop-k.k in
    let x = get_or c.args.floors.now k 0 in
    let e : x + c.from.result ≡ x + cond (ltb (rank c.args.rests.now k) c.args.left) 1 0 = ap (λ n. x + n) (c.from.ensures ∙ byte_is _ ∙ ap (λ n. cond (ltb n c.args.left) 1 0) c.place_in_line.ensures) in
    c.push.ensures.items
    ∙ ap (λ n. c.loop-k.shares.items ++ n ∷ []) e
    ∙ ap (λ xs. xs ++ (x + cond (ltb (rank c.args.rests.now k) c.args.left) 1 0) ∷ []) c.loop-k.invariant
    ∙ sym (map-range_with_len_more (λ k. get_or c.args.floors.now k 0 + cond (ltb (rank c.args.rests.now k) c.args.left) 1 0) 0 k k (omega arith))
