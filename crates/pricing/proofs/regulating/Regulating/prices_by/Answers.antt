use Rattle.std.proofs.Common.{rules}
use Rattle.pricing.proofs.regulating.Regulating.prices_by.Goals as goal

pub returns-in-Less : goal.returns-in-Less
returns-in-Less g c = search rules

pub returns-in-Equal : goal.returns-in-Equal
returns-in-Equal g c = search rules

pub returns-in-Greater : goal.returns-in-Greater
returns-in-Greater g c = search rules
