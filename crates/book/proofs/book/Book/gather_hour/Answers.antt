use Rattle.std.proofs.Common.{◌≡◌, List, map, take, ap, ◌∙◌, ap₂, rules}
use Rattle.hourly.specs.Cells.{read}
use Rattle.hourly.specs.Records.{HourFigures}
use Rattle.sheet.specs.declared.row.Row.{Row}
use Rattle.sheet.specs.Evaluation.{HourFacts}
use Rattle.sheet.specs.Gathering.{facts, gather_refusal, rows_gathered}
use Rattle.book.specs.Standing.{index}
use Rattle.book.specs.Books.{held, terms_by}
use Rattle.book.specs.Held.{standing_on}
use Rattle.book.specs.HourSheets.{hour_cells}
use Rattle.book.proofs.book.Book.gather_hour.Goals as goal

known : List Row → HourFigures → HourFacts
known rows deliveries = record { rows = rows; deliveries = deliveries }

pub returns : goal.returns
unfolding known
returns g c =
    let b = c.args.self.now in
    let v = standing_on (held b) in
    let m = terms_by g.P.Pricing.map g.S.Sharing.map b in
    let cells = hour_cells m v c.args.day c.args.hour in
    let e : map read (take b.ledger.sizes.parties c.hour_cells-cells.result) ≡ cells = search rules in
    let x : c.sheet_from.result.refusal ≡ gather_refusal c.args.hour (map read (take b.ledger.sizes.parties c.hour_cells-cells.result)) = search rules in
    let y : (facts c.sheet_from.result).rows ≡ rows_gathered c.args.hour (map read (take b.ledger.sizes.parties c.hour_cells-cells.result)) = search rules in
    let z : (facts c.sheet_from.result).deliveries ≡ v.deliveries (index c.args.day) (index c.args.hour) = search rules in
    record {
      refusal = x ∙ ap (gather_refusal c.args.hour) e;
      facts = ap₂ known (y ∙ ap (rows_gathered c.args.hour) e) z;
    }
