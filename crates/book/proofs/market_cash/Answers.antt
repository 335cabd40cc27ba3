use Rattle.std.proofs.Common.{◌≡◌, ◌*◌, ◌/◌, ◌≤◌, ℤ, pos, ◌*ℤ◌, nat_abs, sym, ap, ◌∙◌, subst, arith, w64, to_z, of_z, rules}
use Rattle.std.proofs.lemmas.Int.{ints}
use Rattle.units.proofs.Integers.{product_within}
use Rattle.book.specs.Standing.{hours}
use Rattle.book.proofs.market_cash.Goals as goal

pub returns : goal.returns
returns c =
    let k = c.tens-moved.result in
    let p = c.args.price in
    let m = hours c.args.from c.args.to * nat_abs c.args.kwh / 10 in
    let few : k ≤ 1197600 = search rules in
    let km : k ≡ m = search rules in
    let kz : to_z w64 k ≡ pos k = omega (arith, ints) in
    let v : c.unwrap.result ≡ to_z w64 k *ℤ p = search rules in
    let z : to_z w64 (of_z w64 c.unwrap.result) ≡ c.unwrap.result = search rules in
    let e = z ∙ v ∙ ap (λ (x : ℤ). x *ℤ p) kz in
    record {
      value = e ∙ ap (λ n. pos n *ℤ p) km;
      few = subst (λ (x : ℤ). nat_abs x ≤ 119758802400) (sym e) (product_within (pos k) p 1197600 99999 few c.requires.amount.1);
    }
