use Rattle.std.proofs.Common.{◌≡◌, true, length, ap, ◌∙◌, w64, to_z, of_z, rules}
use Rattle.std.proofs.lemmas.List.{length-replicate}
use Rattle.hourly.specs.Cells.{blank}
use Rattle.hourly.specs.Records.{no_deliveries, record_plain}
use Rattle.book.specs.Opening.{openable}
use Rattle.book.proofs.Opened.{laid}
use Rattle.book.proofs.book.Ledger.opened.Goals as goal

pub invariant_of-result : goal.invariant_of-result
invariant_of-result c =
    let parties = to_z w64 (of_z w64 c.args.parties) in
    let days = to_z w64 (of_z w64 c.args.days) in
    let cells = c.args.pages.cells.now in
    let records = c.args.pages.records.now in
    let ok : openable parties days (length cells) (length records) ≡ true = search rules in
    let l = laid parties days (length cells) (length records) ok in
    (l.0, ap length c.clear_cells.ensures ∙ length-replicate (length cells) blank ∙ l.1, ap length c.clear_records.ensures ∙ length-replicate (length records) (record_plain no_deliveries) ∙ l.2)
