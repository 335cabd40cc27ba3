use Rattle.std.proofs.Common.{◌≡◌, Ok, Err, ◌∙◌, rules}
use Rattle.entries.specs.Fields.{verdict}
use Rattle.book.specs.Books.{held, terms_by}
use Rattle.book.specs.Posting.{refusal_on}
use Rattle.book.proofs.Unrefused.{changed, unchanged, writable}
use Rattle.book.proofs.book.Book.post.Goals as goal

pub returns-in_err-check-clause-held : goal.returns-in_err-check-clause-held
returns-in_err-check-clause-held g c =
    let b = c.args.self.now in
    let m = terms_by g.P.Pricing.map g.S.Sharing.map b in
    let n : verdict (refusal_on m (held b) c.args.entry.now) ≡ Err c.in_err-check.field-0.0 = search rules in
    unchanged m (held b) c.args.entry.now c.in_err-check.field-0.0 n

pub write-requires : goal.write-requires
write-requires g c =
    let b = c.args.self.now in
    let m = terms_by g.P.Pricing.map g.S.Sharing.map b in
    let n : verdict (refusal_on m (held b) c.args.entry.now) ≡ Ok tt = search rules in
    let w = writable m (held b) c.args.entry.now n in
    record { sane = w.sane; room = w.room }

pub returns-clause-held : goal.returns-clause-held
returns-clause-held g c =
    let b = c.args.self.now in
    let m = terms_by g.P.Pricing.map g.S.Sharing.map b in
    let n : verdict (refusal_on m (held b) c.args.entry.now) ≡ Ok tt = search rules in
    c.write.ensures ∙ changed m (held b) c.args.entry.now n
