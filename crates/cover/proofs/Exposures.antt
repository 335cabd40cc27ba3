-- What energy sold exposes a party to. Assumes nothing.
use Rattle.std.proofs.Common.{◌≡◌, ◌*◌, false, ℤ, pos, negsuc, nat_abs, refl}
use lib.Signed.{lt_z}
use Rattle.std.proofs.lemmas.Bool.{true≢false}
use Rattle.cover.specs.declared.hour.HourPrices.{HourPrices}
use Rattle.cover.specs.Prices.{exposure}

pub sold : (p : HourPrices) (z : ℤ) → lt_z z (pos 0) ≡ false → nat_abs z * p.short ≡ exposure p z
sold p (pos n) h = refl
sold p (negsuc n) h = absurd (true≢false h)
