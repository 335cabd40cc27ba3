use Rattle.std.proofs.Common.{refl}
use Rattle.units.proofs.Nearby.{nearest_is}
use Rattle.sheet.specs.Firsts.{first_small}
use Rattle.worked.proofs.figures_stand.Goals as goal

pub returns : goal.returns
returns c = record {
  roundings = (refl, refl, refl, refl);
  shares = (refl, refl);
  pricings = (λ default. refl, λ default. refl, λ h. (refl, refl, refl, refl));
  hours = (refl, refl, refl, refl, refl, refl, refl, refl);
  rounds = nearest_is;
  firsts = first_small;
}
