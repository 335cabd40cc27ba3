use Rattle.std.proofs.Common.{sym, ◌∙◌, arith}
use lib.ListN.{length-map}
use Rattle.units.proofs.Summing.{page_is}
use Rattle.sharing.specs.Rules.{signed}
use Rattle.sharing.specs.Signs.{get_or_signed}
use Rattle.sharing.proofs.Signs.{at_most_sum}
use Rattle.sharing.proofs.restore.Goals as goal

pub with_sign-requires : goal.with_sign-requires
with_sign-requires c = omega (arith, at_most_sum c.args.shares.now c.loop-i.i)

pub returns : goal.returns
returns c =
    let b = c.args.negative in
    let xs = c.args.shares.now in
    let l = length-map xs (signed b) in
    page_is _ c.loop-i.parts c.loop-i.invariant.2 (omega arith)
    (λ k h. c.loop-i.invariant.0 k (omega arith) ∙ sym (get_or_signed b xs k))
    (λ k h. c.loop-i.invariant.1 k (omega arith))
