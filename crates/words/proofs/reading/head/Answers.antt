use Rattle.std.proofs.Common.{◌≡◌, ◌+◌, length, Err, sym, ap, ◌∙◌, subst}
use Rattle.std.specs.Option.{MatchOption}
use Rattle.words.specs.declared.faults.WordFault.TheVariants.{Head}
use Rattle.words.specs.Walk.{HeadAt}
use Rattle.words.specs.Written.{Answers}
use Rattle.words.proofs.Once.{answers}
use Rattle.words.proofs.Joining.{head_is}
use Rattle.words.proofs.reading.head.Goals as goal

pub returns : goal.returns
returns c head fields h =
    let name : c.word-name.result.now ≡ head = c.word-name.ensures ∙ head_is c.args.line.bytes.now head fields h in
    (sym name ∙ c.in_ok-kind.ensures, ap (λ w. 1 + length w) name)

pub returns-in_err-kind : goal.returns-in_err-kind
returns-in_err-kind c =
    let unknown : Answers c.args.line.bytes.now (Err Head) = answers c.args.line.bytes.now (Err Head) (
      c.requires,
      λ head fields h k is. c.in_err-kind.ensures k (c.word-name.ensures ∙ head_is c.args.line.bytes.now head fields h ∙ is),
    ) in
    subst (λ r. MatchOption r (Answers c.args.line.bytes.now (Err Head)) (λ p. HeadAt c.args.line.bytes.now p.0 p.1)) (sym c.from_residual.ensures) unknown
