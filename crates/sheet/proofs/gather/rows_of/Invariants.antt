use Rattle.std.proofs.Common.{◌≡◌, map, take}
use Rattle.hourly.specs.Cells.{read}
use Rattle.hourly.specs.declared.plain.PlainCell.{PlainCell}
use Rattle.sheet.specs.Bounds.{RowsWithin}
use Rattle.sheet.specs.Gathering.{row_of, row_page}
use Rattle.sheet.proofs.gather.rows_of.Given as goal

abbrev pub invariant-loop-i : goal.invariant-loop-i
invariant-loop-i l = (l.rows ≡ row_page (map (λ (p : PlainCell). row_of (read p)) (take l.i l.cells))) × RowsWithin l.rows
