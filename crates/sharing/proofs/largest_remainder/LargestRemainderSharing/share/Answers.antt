use Rattle.std.proofs.Common.{ℤ, ap, ◌∙◌, w64}
use Rattle.std.proofs.lemmas.Int.{to_z-of_z}
use Rattle.sharing.specs.Limits.{afterwards, magnitudes, refusal}
use Rattle.sharing.specs.Rules.{largest_remainder}
use Rattle.sharing.proofs.Ranges.{filled}
use Rattle.sharing.proofs.Ranks.{serves_page}
use Rattle.sharing.proofs.largest_remainder.LargestRemainderSharing.share.Goals as goal

pub returns-clause-serves : goal.returns-clause-serves
returns-clause-serves c =
    let n = c.args.remainder in
    let ws = c.args.weights.now in
    let z = ap (λ (m : ℤ). afterwards (refusal m ws) (largest_remainder m (magnitudes ws)) c.args.parts.now) (to_z-of_z w64 n c.ranges.remainder) in
    λ e. serves_page n (magnitudes ws) _ (c.share_by.ensures.page ∙ z ∙ filled _ _ _ e)
