use Rattle.std.proofs.Common.{◌≡◌, ◌≤◌, ℤ, ◌*ℤ◌, nat_abs, sym, subst, arith, lit<, w64, SFits, to_z, of_z}
use Rattle.std.proofs.lemmas.Int.{fits_signed_mul, to_z-of_z}
use Rattle.units.proofs.Integers.{product_within}
use Rattle.units.proofs.product.Goals as goal

pub returns : goal.returns
returns c =
    let k = c.args.kwh in
    let p = c.args.price in
    let fits : SFits w64 (k *ℤ p) = fits_signed_mul w64 k p 2000000 99999 c.requires.0 c.requires.1 (lit< tt) in
    let read : to_z w64 (of_z w64 (to_z w64 (of_z w64 k) *ℤ to_z w64 (of_z w64 p))) ≡ k *ℤ p = grind (arith, to_z-of_z) in
    record {
      value = read;
      bound = subst (λ (z : ℤ). nat_abs z ≤ 199998000000) (sym read) (product_within k p 2000000 99999 c.requires.0 c.requires.1);
    }
