use Rattle.std.proofs.Common.{◌≡◌, ℕ, ◌≤◌, List, length, MatchResult, Ok, Err, Result, sym, subst, rules}
use Rattle.std.specs.Result.{IsErrAnd}
use Rattle.brackets.specs.declared.BracketFault.{BracketFault}
use Rattle.brackets.specs.declared.BracketFault.TheVariants.{Shape}
use Rattle.brackets.specs.Bytes.{Clean}
use Rattle.brackets.specs.Grammar.{WellShaped, Stuck, Only}
use Rattle.brackets.specs.Layer.{Brackets}
use Rattle.brackets.proofs.check_shape.Goals as goal

told : (line : List ℕ) (r : Result (Unit {0}) ℕ) (q : Result (Unit {0}) BracketFault) → length line ≤ 200 → Clean line → MatchResult r (λ _. WellShaped line) (λ col. Stuck line col × Only line col) → MatchResult r (λ x. q ≡ Ok x) (λ e. IsErrAnd q (λ f. f ≡ Shape e)) → Brackets line q
told line (Ok u) q short clean h e = subst (Brackets line) (sym e) (short, clean, h)
told line (Err col) (Ok u) short clean h e = absurd e
told line (Err col) (Err f) short clean h e = subst (λ f. Brackets line (Err f)) (sym e) (short, clean, h.0, h.1)

pub returns : goal.returns
returns c = told c.args.line.now c.scan.result c.map_err.result c.requires.short c.requires.clean c.scan.ensures (search rules)
