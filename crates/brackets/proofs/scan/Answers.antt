use Rattle.std.proofs.Common.{◌≡◌, ℕ, ◌≤◌, List, length, take, Some, sym, ap, ◌∙◌, arith, rules}
use Rattle.std.proofs.lemmas.List.{take_all}
use denote.Enum.Bare.{same_true, same_false}
use Rattle.brackets.specs.contracts.State.{the_type}
use Rattle.brackets.specs.declared.State.{State}
use Rattle.brackets.specs.declared.State.TheVariants.{Start}
use Rattle.brackets.specs.Grammar.{Stuck, Only}
use Rattle.brackets.specs.Scanner.{run}
use Rattle.brackets.proofs.Shape.{stuck_at, stuck_past, only, form, run_more}
use Rattle.brackets.proofs.scan.Goals as goal

-- stuck there, and there only
once : (line : List ℕ) (col : ℕ) → Stuck line col → Stuck line col × Only line col
once line col h = (h, only line col h)

pub returns-in_default : goal.returns-in_default
returns-in_default c =
    once c.args.line.now _
    (stuck_at c.args.line.now c.loop-i.i c.loop-i.s (omega arith) c.loop-i.invariant
    (run_more c.args.line.now c.loop-i.i c.loop-i.s (omega arith) c.loop-i.invariant ∙ sym c.advance.ensures ∙ c.in_default.is))

pub loop-i-preserved : goal.loop-i-preserved
loop-i-preserved c =
    run_more c.args.line.now c.loop-i.i c.loop-i.s (omega arith) c.loop-i.invariant ∙ sym c.in-Some.ensures

-- past the loop the scanner has read the whole line
whole : (line : List ℕ) (i : ℕ) (s : State) → length line ≤ i → run (Some Start) (take i line) ≡ Some s → run (Some Start) line ≡ Some s
whole line i s h on = sym (ap (run (Some Start)) (take_all i line h)) ∙ on

pub returns-then-eq : goal.returns-then-eq
returns-then-eq c =
    form c.args.line.now c.loop-i.s (whole c.args.line.now c.loop-i.i c.loop-i.s c.loop-i-test.false c.loop-i.invariant) (same_true the_type (search rules) _ _ (sym c.if-eq.ensures))

pub returns-else-eq : goal.returns-else-eq
returns-else-eq c =
    once c.args.line.now _
    (stuck_past c.args.line.now c.loop-i.s (whole c.args.line.now c.loop-i.i c.loop-i.s c.loop-i-test.false c.loop-i.invariant) (same_false the_type _ _ (sym c.if-eq.ensures)))
