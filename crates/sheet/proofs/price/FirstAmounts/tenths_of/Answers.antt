use Rattle.std.proofs.Common.{◌≡◌, ℕ, ◌^◌, ◌<◌, ◌≤◌, ℤ, SFits, ◌+ℤ◌, ◌*ℤ◌, nat_abs, sym, ap, ap₂, ◌∙◌, subst, arith, w64, to_z, of_z}
use Rattle.std.proofs.lemmas.Int.{ints, to_z-of_z}
use Rattle.pricing.specs.Prices.{Bounded}
use Rattle.pricing.specs.declared.prices.Prices.{Prices}
use Rattle.sheet.specs.Bounds.{RowFigures, RowWithin}
use Rattle.sheet.specs.Evaluation.{imbalance, price_for, tenths_of}
use Rattle.sheet.specs.Firsts.{price_small, priced_small, tenths_small}
use Rattle.sheet.proofs.price.FirstAmounts.tenths_of.Goals as goal

fits-within : (z : ℤ) (A : ℕ) → nat_abs z ≤ A → A < 2 ^ 63 → SFits w64 z
fits-within z A h l = omega (arith, ints)

-- energy at its price, and tenths: the sum as the code reads it
abbrev added_up : ℤ → ℤ → ℤ → ℤ
added_up x y t = to_z w64 (of_z w64 (to_z w64 (of_z w64 x) *ℤ to_z w64 (of_z w64 y))) +ℤ to_z w64 (of_z w64 t)

-- it is the tenths that are meant, of r as the clauses see the row that the code reads
meant : (p : Prices) (read r : RowFigures) (x y : ℤ) → read ≡ r → Bounded p → RowWithin read → nat_abs x ≤ 1999996 → x ≡ imbalance r → y ≡ price_for p (to_z w64 (of_z w64 x)) → added_up x y read.tenths ≡ tenths_of p r
meant p read r x y e b w hx i v =
    let fx = to_z-of_z w64 x (fits-within x 1999996 hx (omega arith)) in
    let q : y ≡ price_for p x = v ∙ ap (price_for p) fx in
    let hy : nat_abs y ≤ 99999 = subst (λ (z : ℤ). nat_abs z ≤ 99999) (sym q) (price_small p x b) in
    let hxy : nat_abs (x *ℤ y) ≤ 199997600004 = subst (λ (z : ℤ). nat_abs (x *ℤ z) ≤ 199997600004) (sym q) (priced_small p x b hx) in
    let fy = to_z-of_z w64 y (fits-within y 99999 hy (omega arith)) in
    let fxy = to_z-of_z w64 (x *ℤ y) (fits-within (x *ℤ y) 199997600004 hxy (omega arith)) in
    let ft = to_z-of_z w64 read.tenths (fits-within read.tenths 99998800002 w.2 (omega arith)) in
    ap₂ (λ (m : ℤ) (n : ℤ). m +ℤ n) (ap₂ (λ (m : ℤ) (n : ℤ). to_z w64 (of_z w64 (m *ℤ n))) fx fy ∙ fxy) ft
    ∙ ap (λ (z : ℤ). x *ℤ z +ℤ read.tenths) q
    ∙ ap (λ (z : ℤ). z *ℤ price_for p z +ℤ read.tenths) i
    ∙ ap (λ (f : RowFigures). imbalance r *ℤ price_for p (imbalance r) +ℤ f.tenths) e

pub overflow_add-result : goal.overflow_add-result
overflow_add-result c =
    let s = c.args.self.now in
    let r = c.args.row.now in
    let x = c.imbalance_of-imbalance in
    let e = meant s.prices _ r x.result c.price_for.result c.row.view_is (s.long, s.short) c.row.invariant x.ensures.within x.ensures.value c.price_for.ensures in
    let h = tenths_small s.prices r (s.long, s.short) (subst RowWithin c.row.view_is c.row.invariant) in
    subst (λ (z : ℤ). SFits w64 z) (sym e) (fits-within (tenths_of s.prices r) 299996400006 h (omega arith))

pub returns : goal.returns
returns c =
    let s = c.args.self.now in
    let r = c.args.row.now in
    let x = c.imbalance_of-imbalance in
    let e = meant s.prices _ r x.result c.price_for.result c.row.view_is (s.long, s.short) c.row.invariant x.ensures.within x.ensures.value c.price_for.ensures in
    let h = tenths_small s.prices r (s.long, s.short) (subst RowWithin c.row.view_is c.row.invariant) in
    let f = fits-within (tenths_of s.prices r) 299996400006 h (omega arith) in
    let v = ap (λ (z : ℤ). to_z w64 (of_z w64 z)) e ∙ to_z-of_z w64 (tenths_of s.prices r) f in
    record { value = v; within = subst (λ (z : ℤ). nat_abs z ≤ 299996400006) (sym v) h }
