use Rattle.std.proofs.Common.{◌≡◌, ◌+◌, ◌≤◌, true, length, ℤ, nat_abs, Some, None, sym, ap, ◌∙◌, w64, to_z, of_z, rules}
use Rattle.sheet.specs.declared.row.SheetRefusal.TheVariants.{Reading}
use Rattle.sheet.specs.Gathering.{known_hour}
use Rattle.sheet.proofs.Rows.{readings_decide}
use Rattle.sheet.proofs.gather.admit.Goals as goal

pub returns-in-Some : goal.returns-in-Some
returns-in-Some c =
    let hour = c.args.hour in
    let known : known_hour hour ≡ true = search rules in
    let some : 1 ≤ length c.args.cells.now = search rules in
    let z : to_z w64 (of_z w64 hour) ≡ hour = search rules in
    readings_decide hour c.args.cells.now (Some c.in-Some.at) some c.if-cells-gt20.false known c.in-Some.ensures
    ∙ ap (λ (h : ℤ). Some (Reading (nat_abs h) (c.in-Some.at + 1))) (sym z)

pub returns-in-None : goal.returns-in-None
returns-in-None c =
    let known : known_hour c.args.hour ≡ true = search rules in
    let some : 1 ≤ length c.args.cells.now = search rules in
    (readings_decide c.args.hour c.args.cells.now None some c.if-cells-gt20.false known c.in-None.ensures, c.if-cells-gt20.false)
