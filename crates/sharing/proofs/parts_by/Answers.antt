use Rattle.sharing.specs.Limits.{magnitudes}
use Rattle.sharing.proofs.Signs.{nothing_shared}
use Rattle.std.proofs.Common.{nat_abs, arith}
use lib.ListN.{length-map}
use Rattle.sharing.proofs.parts_by.Goals as goal

pub returns-in-None : goal.returns-in-None
returns-in-None g c =
    let ws = c.args.weights.now in
    nothing_shared (g.D.Division.shares c.args.division.now) (g.met.D.Division.splits c.args.division.now) c.args.remainder (magnitudes ws) (omega (arith, length-map ws nat_abs, c.requires.few)) c.in-None.ensures
