use Rattle.std.proofs.Common.{◌<◌, ◌++◌, map, length, get_or, set, ap, ◌∙◌, ap₂, append-nil, arith}
use Rattle.std.proofs.lemmas.List.{take_all, drop_all, get_or_default}
use Rattle.std.proofs.lemmas.List.Edits.{map_over_more}
use Rattle.hourly.specs.Cells.{blank}
use Rattle.rows.specs.Changes.{relaid}
use Rattle.rows.proofs.change_each.Goals as goal

pub loop-cell-preserved : goal.loop-cell-preserved
loop-cell-preserved g c =
    let f = relaid (g.C.Change.change c.args.change.now) in
    let i = c.loop-cell.cell-index in
    let xs = c.args.row.now in
    let ys = c.loop-cell.row in
    let x = get_or ys i blank in
    let l : i < length xs = omega arith in
    let m : i < length ys = omega arith in
    ap (set ys i) {y = f x} c.changed.ensures ∙ map_over_more f xs ys i x l c.loop-cell.invariant (get_or_default ys i blank x m)
