use Rattle.std.proofs.Common.{◌≡◌, take, Some}
use Rattle.brackets.specs.declared.State.TheVariants.{Start}
use Rattle.brackets.specs.Scanner.{run}
use Rattle.brackets.proofs.scan.Given as goal

abbrev pub invariant-loop-i : goal.invariant-loop-i
invariant-loop-i l = run (Some Start) (take l.i l.line) ≡ Some l.s
