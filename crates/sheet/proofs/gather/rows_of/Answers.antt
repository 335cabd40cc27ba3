use Rattle.std.proofs.Common.{◌≡◌, ◌<◌, List, map, length, take, ap, ◌∙◌, arith, length-take}
use lib.ListN.{length-map}
use Rattle.std.proofs.lemmas.List.{take_all, take_at}
use Rattle.hourly.specs.Cells.{blank, read}
use Rattle.hourly.specs.declared.plain.PlainCell.{PlainCell}
use Rattle.sheet.specs.declared.row.Row.{Row}
use Rattle.sheet.specs.Bounds.{RowWithin, zero_row}
use Rattle.sheet.specs.Gathering.{row_of, row_page}
use Rattle.sheet.proofs.Columns.{column_more, length_padded}
use Rattle.sheet.proofs.Rows.{each_set, rows-read}
use Rattle.sheet.proofs.gather.rows_of.Goals as goal

pub loop-i-preserved : goal.loop-i-preserved
loop-i-preserved c =
    let i = c.loop-i.i in
    let rows = c.loop-i.rows in
    let cells = c.args.cells.now in
    let f : PlainCell → Row = λ p. row_of (read p) in
    let ys = map f (take i cells) in
    let l : i < length rows = omega (arith, ap length c.loop-i.invariant.0, length_padded zero_row ys (omega (arith, length-map (take i cells) f, length-take i cells)), c.requires) in (
      column_more zero_row f cells i blank rows c.row_at.result c.loop-i-test.true c.requires c.loop-i.invariant.0 c.row_at.ensures.value,
      each_set RowWithin rows i c.row_at.result zero_row l c.loop-i.invariant.1 c.row_at.ensures.within,
    )

pub returns : goal.returns
returns c =
    let cells = c.args.cells.now in
    let f : PlainCell → Row = λ p. row_of (read p) in
    let rows = map row_of (map read cells) in
    let page : c.loop-i.rows ≡ row_page rows = c.loop-i.invariant.0 ∙ ap (λ (xs : List PlainCell). row_page (map f xs)) (take_all c.loop-i.i cells c.loop-i-test.false) ∙ ap row_page (rows-read cells) in
    let l : length rows ≡ length cells = omega (arith, length-map (map read cells) row_of, length-map cells read) in
    record {
      page = page;
      value = ap (take (length cells)) page ∙ take_at rows _ (length cells) l;
      within = c.loop-i.invariant.1;
    }
