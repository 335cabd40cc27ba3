use Rattle.std.proofs.Common.{◌≡◌, ◌≤◌, sym, refl, ◌∙◌, arith, rules}
use Rattle.std.specs.List.{sum}
use Rattle.std.proofs.lemmas.List.Recursion.{is_sum_by}
use Rattle.units.specs.Sums.{sum_n}
use Rattle.sharing.proofs.sum.Goals as goal

pub sum-requires-clause-fits : goal.sum-requires-clause-fits
sum-requires-clause-fits c =
    let e = is_sum_by sum_n (λ x. x) refl (λ _ _. refl) c.args.numbers.now in
    let h : sum c.args.numbers.now ≤ 600000000000 = omega arith in
    search rules

pub returns : goal.returns
returns c =
    let e : c.sum.result ≡ sum c.args.numbers.now = search rules in
    e ∙ sym (is_sum_by sum_n (λ x. x) refl (λ _ _. refl) c.args.numbers.now)
