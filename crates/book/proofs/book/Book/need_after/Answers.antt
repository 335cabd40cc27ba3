use Rattle.std.proofs.Common.{◌≡◌, length, pos, refl, ap, ◌∙◌, w64, to_z, of_z, rules}
use Rattle.needs.specs.Need.{need_with}
use Rattle.cover.specs.Prices.{in_use}
use Rattle.book.specs.Books.{held, terms_by}
use Rattle.book.specs.Sales.{cells_of, states_of, trade_of}
use Rattle.book.proofs.Covering.{need-after}
use Rattle.book.proofs.book.Book.need_after.Goals as goal

pub returns : goal.returns
returns g c =
    let b = c.args.self.now in
    let h = held b in
    let e = c.args.entry.now in
    let p = c.args.party in
    let t = trade_of e p in
    let m = terms_by g.P.Pricing.map g.S.Sharing.map b in
    let z : to_z w64 (of_z w64 c.need_with_trade.result) ≡ c.need_with_trade.result = search rules in
    let v : c.need_with_trade.result ≡ pos (need_with in_use (states_of h) (cells_of h p) t.start t.end t.kwh) = search rules in
    let l : length (states_of h) ≡ h.sizes.days = c.need_with_trade.ensures.long in
    record { value = z ∙ v ∙ ap pos (need-after m h e p refl c.requires.sane l) }
