use Rattle.std.proofs.Common.{◌≡◌}
use Rattle.book.specs.Books.{held, terms_by}
use Rattle.book.specs.Standing.{Terms}
use Rattle.runs.proofs.Entering.{Entered}
use Rattle.runs.proofs.enter_all.Given as goal

abbrev pub invariant-loop-i : goal.invariant-loop-i
invariant-loop-i g l =
    let m : Terms = terms_by g.P.Pricing.map g.S.Sharing.map l.initial.book in
    Entered m (held l.initial.book) l.entries l.initial.replies l.i (held l.book) l.replies × (l.book.pricing ≡ l.initial.book.pricing) × (l.book.sharing ≡ l.initial.book.sharing)
