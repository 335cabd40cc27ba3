use Rattle.std.proofs.Common.{◌≡◌, ◌<◌, length, pos, ap, ◌∙◌, arith}
use Rattle.entries.specs.declared.entry.Entry.TheVariants.{Deposit}
use Rattle.entries.specs.declared.entry.Sizes.{Sizes}
use Rattle.book.specs.Books.{held, terms_by}
use Rattle.book.specs.Standing.{terms}
use Rattle.runs.proofs.Entering.{entered_more, same-sizes}
use Rattle.runs.proofs.enter_all.Goals as goal

pub loop-i-preserved : goal.loop-i-preserved
loop-i-preserved g c =
    let f = g.P.Pricing.map in
    let k = g.S.Sharing.map in
    let a = c.args.book.now in
    let b = c.loop-i.book in
    let es = c.args.entries.now in
    let rs = c.args.replies.now in
    let i = c.loop-i.i in
    let ps = c.loop-i.replies in
    let w = c.loop-i.invariant.0 in
    let m = terms_by f k a in
    let n = terms_by f k b in
    let same : n ≡ m =
    ap (λ (s : Sizes). terms s (f b.pricing) (k b.sharing)) (same-sizes m (held a) es rs i (held b) ps w)
    ∙ ap (λ p. terms a.ledger.sizes (f p) (k b.sharing)) c.loop-i.invariant.1
    ∙ ap (λ s. terms a.ledger.sizes (f a.pricing) (k s)) c.loop-i.invariant.2 in
    let here : i < length rs = omega arith in (
      entered_more m n (held a) es rs i (held b) (held c.enter.new.self) ps (Deposit (pos 0) (pos 0)) c.enter.result c.loop-i-test.true here same w c.enter.ensures.answer c.enter.ensures.held,
      c.enter.ensures.pricing ∙ c.loop-i.invariant.1,
      c.enter.ensures.sharing ∙ c.loop-i.invariant.2,
    )
