use Rattle.sheet.proofs.Rows.{rows_taken}
use Rattle.sheet.proofs.party_rows.Goals as goal

pub returns-clause-within : goal.returns-clause-within
returns-clause-within c = let s = c.args.sheet.now in rows_taken s.rows s.count s.within
