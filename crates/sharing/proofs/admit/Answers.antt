use Rattle.std.proofs.Common.{Result, sym, subst, arith}
use Rattle.std.proofs.lemmas.Int.{ints}
use Rattle.sharing.specs.Limits.{Admits}
use Rattle.sharing.specs.declared.refusal.SharingRefusal.{SharingRefusal}
use Rattle.sharing.proofs.Ranges.{admits}
use Rattle.sharing.proofs.admit.Goals as goal

pub returns : goal.returns
returns c =
    subst (λ (r : Result (Unit {0}) SharingRefusal). Admits c.args.remainder c.args.weights.now r) (sym c.admit_weights.ensures)
    (admits c.args.remainder c.args.weights.now (omega (arith, ints, c.unsigned_abs.ensures.value)) c.if-weights-gt-MOST_WEIGHTS.false)
