use Rattle.std.proofs.Common.{◌≡◌, ◌<◌, ◌≤◌, map, length, take, ℤ, pos, nat_abs, sym, ap, ◌∙◌, subst, arith, length-take, w64, to_z, of_z, rules}
use lib.ListN.{length-map}
use Rattle.units.proofs.Summing.{length-page}
use Rattle.sheet.proofs.Columns.{column_more}
use Rattle.sheet.proofs.Rows.{each_set}
use Rattle.sheet.proofs.figures_of.Goals as goal

pub loop-i-preserved : goal.loop-i-preserved
loop-i-preserved g c =
    let i = c.loop-i.i in
    let rows = c.party_rows-row-items.result.now in
    let ps = c.loop-i.figures in
    let f = g.F.Figure.figure c.args.figure.now in
    let n = g.F.Figure.limit in
    let few : length rows ≤ 20 = c.party_rows-row-items.ensures.few in
    let z : to_z w64 (of_z w64 c.of.result) ≡ c.of.result = search rules in
    let v = z ∙ c.of.ensures.value in
    let ys = map f (take i rows) in
    let l : i < length ps = omega (arith, ap length c.loop-i.invariant.0, length-page ys (omega (arith, length-map (take i rows) f, length-take i rows)), c.loop-i-test.true) in (
      column_more (pos 0) f rows i c.row-item.result ps _ c.loop-i-test.true few c.loop-i.invariant.0 (v ∙ ap f c.row-item.is),
      each_set (λ (x : ℤ). nat_abs x ≤ n) ps i _ (pos 0) l c.loop-i.invariant.1 (subst (λ (x : ℤ). nat_abs x ≤ n) (sym z) c.of.ensures.within),
    )
