use Rattle.std.proofs.Common.{◌≡◌, ℤ, pos, refl, ap, ◌∙◌, ap₂, w64, to_z, of_z, rules}
use Rattle.book.specs.declared.statement.Statement.{Statement}
use Rattle.book.specs.Books.{held, terms_by}
use Rattle.book.specs.Checks.{balance_at}
use Rattle.book.specs.Held.{standing_on}
use Rattle.book.specs.Posting.{statement_at}
use Rattle.book.proofs.Covering.{need_now}
use Rattle.book.proofs.book.Book.statement_of.Goals as goal

stated : ℤ → ℤ → Statement
stated balance need = record { balance = balance; need = need }

pub returns : goal.returns
unfolding statement_at stated
returns g c =
    let b = c.args.self.now in
    let h = held b in
    let p = c.args.party in
    let m = terms_by g.P.Pricing.map g.S.Sharing.map b in
    let x : to_z w64 (of_z w64 c.balance.result) ≡ balance_at (standing_on h) p = search rules in
    let y : to_z w64 (of_z w64 c.need_now.result) ≡ c.need_now.result = search rules in
    ap₂ stated x (y ∙ c.need_now.ensures.value ∙ ap pos (need_now m h p refl c.need_now.ensures.long))
