use Rattle.std.proofs.Common.{Err}
use Rattle.std.proofs.lemmas.Result.{err_from_is_err_and}
use Rattle.words.specs.declared.faults.WordFault.TheVariants.{Bracket}
use Rattle.words.proofs.Once.{answers}
use Rattle.words.proofs.reading.shaped.Goals as goal

pub returns-in_err-brackets : goal.returns-in_err-brackets
returns-in_err-brackets c =
    let p = err_from_is_err_and c.from_residual.result c.from_residual.ensures.1 in
    rw (p.1, p.2) (answers c.args.line.now (Err (Bracket c.in_err-brackets.field-0.0)) c.in_err-brackets.ensures)
