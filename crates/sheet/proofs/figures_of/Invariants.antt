use Rattle.std.proofs.Common.{◌≡◌, map, take}
use Rattle.units.specs.Sums.{page}
use Rattle.sheet.specs.Bounds.{Within}
use Rattle.sheet.proofs.figures_of.Given as goal

abbrev pub invariant-loop-i : goal.invariant-loop-i
invariant-loop-i g l = (l.figures ≡ page (map (g.F.Figure.figure l.figure) (take l.i l.row-items))) × Within g.F.Figure.limit l.figures
