use Rattle.std.proofs.Common.{rules}
use Rattle.rows.proofs.changes.Delivery.delivered_to.Goals as goal

pub returns : goal.returns
returns c = search rules
