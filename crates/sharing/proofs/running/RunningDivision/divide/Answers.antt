use Rattle.std.proofs.Common.{◌≡◌, ◌+◌, ◌-◌, ◌*◌, ◌/◌, ◌++◌, [], ◌∷◌, length, get_or, take, sym, ap, ◌∙◌, arith}
use Rattle.std.proofs.lemmas.List.FromFn.{length-map-range_with_len, map-range_with_len_more}
use Rattle.units.specs.Sums.{sum_n}
use Rattle.units.proofs.Summing.{sum_n_more, sum_n-take}
use Rattle.sharing.specs.Rules.{running_share}
use Rattle.sharing.proofs.running.RunningDivision.divide.Goals as goal

pub overflow_add-upto : goal.overflow_add-upto
overflow_add-upto c =
    let ws = c.deref-weight-items.result.now in
    let i = c.loop-weight.weight-index in
    let e = ap sum_n c.deref-weight-items.ensures.0 in
    omega (arith, sum_n_more ws i c.loop-weight-test.true, sum_n-take ws (i + 1))

pub floor-high-requires : goal.floor-high-requires
floor-high-requires c =
    let ws = c.deref-weight-items.result.now in
    let i = c.loop-weight.weight-index in
    let e = ap sum_n c.deref-weight-items.ensures.0 in
    omega (arith, sum_n_more ws i c.loop-weight-test.true, sum_n-take ws (i + 1))

pub push-requires : goal.push-requires
push-requires c =
    let ws = c.deref-weight-items.result.now in
    let i = c.loop-weight.weight-index in
    omega (arith, ap length c.loop-weight.invariant.shares ∙ length-map-range_with_len (running_share c.args.split.now.halers ws) 0 i)

pub loop-weight-preserved : goal.loop-weight-preserved
loop-weight-preserved c =
    let ws = c.deref-weight-items.result.now in
    let m = c.args.split.now.halers in
    let W = c.args.split.now.total in
    let i = c.loop-weight.weight-index in
    let e : W ≡ sum_n ws = c.args.split.now.whole ∙ sym (ap sum_n c.deref-weight-items.ensures.0) in
    let u : c.loop-weight.upto + get_or ws i 0 ≡ sum_n (take (i + 1) ws) = omega (arith, sum_n_more ws i c.loop-weight-test.true) in
    let h : c.floor-high.result ≡ m * sum_n (take (i + 1) ws) / W = c.floor-high.ensures ∙ ap (λ n. m * n / W) u in
    let hs : m * sum_n (take (i + 1) ws) / W ≡ m * sum_n (take (i + 1) ws) / sum_n ws = ap (λ n. m * sum_n (take (i + 1) ws) / n) e in
    let ls : m * sum_n (take i ws) / W ≡ m * sum_n (take i ws) / sum_n ws = ap (λ n. m * sum_n (take i ws) / n) e in
    let p : c.floor-high.result - c.loop-weight.low ≡ running_share m ws i = omega arith in
    record {
      upto = u;
      low = h;
      shares = c.push.ensures.items
          ∙ ap (λ n. c.loop-weight.shares.items ++ n ∷ []) p
          ∙ ap (λ xs. xs ++ running_share m ws i ∷ []) c.loop-weight.invariant.shares
          ∙ sym (map-range_with_len_more (running_share m ws) 0 i i (omega arith));
    }
