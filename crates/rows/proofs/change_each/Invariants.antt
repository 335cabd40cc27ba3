use Rattle.std.proofs.Common.{◌≡◌, ◌++◌, map, take, drop}
use Rattle.rows.specs.Changes.{relaid}
use Rattle.rows.proofs.change_each.Given as goal

abbrev pub invariant-loop-cell : goal.invariant-loop-cell
invariant-loop-cell g l = l.row ≡ map (relaid (g.C.Change.change l.change)) (take l.cell-index l.initial.row) ++ drop l.cell-index l.initial.row
