use Rattle.std.proofs.Common.{sym, subst₂}
use Rattle.entries.specs.Replies.{Reply}
use Rattle.book.specs.Books.{held, terms_by}
use Rattle.book.specs.Held.{Held}
use Rattle.histories.specs.Agreement.{Follows}
use Rattle.histories.proofs.Following.{opened-reflects, posted_follows}
use Rattle.histories.proofs.Always.{always_agree}
use Rattle.histories.proofs.Covers.{keeps_cover, leaves_covered}
use Rattle.histories.proofs.followed.Goals as goal

pub returns : goal.returns
returns g c =
    let b = c.args.book.now in
    let e = c.args.entry.now in
    let m = terms_by g.P.Pricing.map g.S.Sharing.map b in
    record {
      reply = c.enter.ensures.answer;
      held = c.enter.ensures.held;
      pricing = c.enter.ensures.pricing;
      sharing = c.enter.ensures.sharing;
      follows = subst₂ (λ (r : Reply) (x : Held). Follows m (held b) e r x) (sym c.enter.ensures.answer) (sym c.enter.ensures.held) (posted_follows m (held b) e);
      opening = opened-reflects;
      agreement = always_agree;
      cover = keeps_cover;
      named = leaves_covered;
    }
