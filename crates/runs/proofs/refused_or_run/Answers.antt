use Rattle.std.proofs.Common.{◌≡◌, true, length, ap, ◌∙◌, rules}
use Rattle.book.specs.Books.{held}
use Rattle.book.specs.Held.{Held}
use Rattle.book.specs.Opening.{sizes_of}
use Rattle.book.specs.Posting.{opened}
use Rattle.book.specs.Standing.{terms}
use Rattle.book.proofs.WholeCash.{whole-cash}
use Rattle.runs.specs.Runs.{ran, replied, runnable}
use Rattle.runs.proofs.Level.{after_holds, laws_hold}
use Rattle.runs.proofs.Running.{laws_throughout}
use Rattle.runs.proofs.refused_or_run.Goals as goal

pub returns : goal.returns
returns g c =
    let f = g.P.Pricing.map in
    let k = g.S.Sharing.map in
    let b = c.in_ok-book.book in
    let cells = length c.args.pages.cells.now in
    let records = length c.args.pages.records.now in
    let es = c.args.entries.now in
    let rs = c.args.replies.now in
    let h : Held = opened (sizes_of c.args.parties c.args.days) in
    let can : runnable c.args.parties c.args.days cells records (length es) (length rs) ≡ true = search rules in
    let fresh : held b ≡ h = search rules in
    let p : b.pricing ≡ c.args.pricing = search rules in
    let s : b.sharing ≡ c.args.sharing = search rules in
    record {
      ran = (
        can,
        c.enter_all.ensures.held
            ∙ ap (λ (x : Held). ran (terms x.sizes (f b.pricing) (k b.sharing)) x es) fresh
            ∙ ap (λ x. ran (terms h.sizes (f x) (k b.sharing)) h es) p
            ∙ ap (λ x. ran (terms h.sizes (f c.args.pricing) (k x)) h es) s,
        c.enter_all.ensures.replies
            ∙ ap (λ (x : Held). replied (terms x.sizes (f b.pricing) (k b.sharing)) x es rs) fresh
            ∙ ap (λ x. replied (terms h.sizes (f x) (k b.sharing)) h es rs) p
            ∙ ap (λ x. replied (terms h.sizes (f c.args.pricing) (k x)) h es rs) s,
        c.enter_all.ensures.pricing ∙ p,
        c.enter_all.ensures.sharing ∙ s,
        laws_throughout c.args.parties c.args.days cells records (length es) (length rs) (f c.args.pricing) (k c.args.sharing) es can,
      );
      laws = laws_hold;
      after = after_holds;
      cash = whole-cash;
    }

pub returns-then-entries-replies : goal.returns-then-entries-replies
returns-then-entries-replies g c = record { ran = search rules; laws = laws_hold; after = after_holds; cash = whole-cash }

pub returns-in_err-book : goal.returns-in_err-book
returns-in_err-book g c = record { ran = search rules; laws = laws_hold; after = after_holds; cash = whole-cash }
