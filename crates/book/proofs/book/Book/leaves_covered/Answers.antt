use Rattle.std.proofs.Common.{◌≡◌, pos, ◌+ℤ◌, ◌∙◌, ap₂, w64, to_z, of_z, rules}
use lib.Signed.{le_z}
use Rattle.book.specs.Books.{held, terms_by}
use Rattle.book.specs.Checks.{cash_after, need_after, passes_cover}
use Rattle.book.specs.Held.{standing_on}
use Rattle.book.proofs.book.Book.leaves_covered.Goals as goal

pub returns : goal.returns
unfolding passes_cover
returns g c =
    let b = c.args.self.now in
    let v = standing_on (held b) in
    let e = c.args.entry.now in
    let m = terms_by g.P.Pricing.map g.S.Sharing.map b in
    let x : to_z w64 (of_z w64 c.need_after.result) ≡ c.need_after.result = search rules in
    let y : to_z w64 (of_z w64 c.balance_after.result) ≡ c.balance_after.result = search rules in
    let n : c.need_after.result ≡ pos (need_after m v e c.args.party) = search rules in
    let a : c.balance_after.result ≡ cash_after v e c.args.party +ℤ (v.account c.args.party).settled = search rules in
    ap₂ le_z (x ∙ n) (y ∙ a)
