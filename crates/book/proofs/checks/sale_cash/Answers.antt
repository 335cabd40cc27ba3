use Rattle.std.proofs.Common.{◌≡◌, ◌≤◌, ◌+ℤ◌, neg_ℤ, nat_abs, ◌∙◌, ap₂, arith, rules}
use Rattle.units.proofs.Integers.{sum-read}
use Rattle.book.specs.Effects.{side}
use Rattle.book.proofs.checks.sale_cash.Goals as goal

pub returns-clause-value : goal.returns-clause-value
returns-clause-value c =
    let x = c.side.result in
    let y = c.side-2.result in
    let a : nat_abs x ≤ 119758802400 = search rules in
    let b : nat_abs y ≤ 119758802400 = search rules in
    let u : x ≡ side c.args.seller c.args.halers c.args.of = search rules in
    let v : y ≡ side c.args.buyer (neg_ℤ c.args.halers) c.args.of = search rules in
    sum-read x y (omega arith) (omega arith) ∙ ap₂ ◌+ℤ◌ u v
