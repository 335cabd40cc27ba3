-- An entry whose field checks all pass has its fields in range; and the first refusal of two lists of checks one after the other.
use Rattle.std.proofs.Common.{◌≡◌, ℕ, ◌%◌, ◌≤◌, Bool, true, false, cond, not, ◌&&◌, eqb, List, [], ◌∷◌, ◌++◌, ℤ, pos, negsuc, neg_ℤ, nat_abs, ◌≤ℤ◌, Some, None, Ok, Err, Option, Result, sym, refl, ◌∙◌, ⊎_elim, arith}
use Rattle.std.proofs.lemmas.Int.{ints}
use lib.Signed.{le_z}
use Rattle.std.proofs.lemmas.Bool.{and_parts, both_ways, cond-true, cond-false, cases_Bool, eqb-true, eqb-false}
use Rattle.entries.specs.declared.entry.Entry.{Entry}
use Rattle.entries.specs.declared.entry.Entry.TheVariants.{Deposit, Withdraw, Register, Market, Close, Regulate, Meter, Evaluate}
use Rattle.entries.specs.declared.entry.Sizes.{Sizes}
use Rattle.entries.specs.declared.refusal.Refusal.{Refusal}
use Rattle.entries.specs.Fields.{Check, between, checked, field_checks, first_of, verdict, market_kwh, market_price, regulating_kwh, within}
use Rattle.entries.specs.States.{same}
use Rattle.entries.specs.Sane.{Numbered, Ranged, Sane, Traders}

-- a refusal is not none
some-none : (r : Refusal) → ◌≡◌ {A = Option Refusal} (Some r) None → ⊥
some-none r h = let z : ◌≡◌ {A = ℕ} 0 1 = cc in omega arith

err-ok : (r : Refusal) → ◌≡◌ {A = Result (Unit {0}) Refusal} (Ok tt) (Err r) → ⊥
err-ok r h = let z : ◌≡◌ {A = ℕ} 0 1 = cc in omega arith

-- where no check holds, the first does not, nor any after it
pub passed : (b : Bool) (r : Refusal) (rest : Option Refusal) → cond b (Some r) rest ≡ None → (b ≡ false) × (rest ≡ None)
passed true r rest h = absurd (some-none r h)
passed false r rest h = (refl, h)

-- the first refusal of two lists: that of the first list, else that of the second
pub later : (cs ds : List Check) → first_of cs ≡ None → first_of (cs ++ ds) ≡ first_of ds
later [] ds h = refl
later (c ∷ cs) ds h = let p = passed c.fails c.refusal (first_of cs) h in cond-false c.fails _ _ p.0 ∙ later cs ds p.1

-- the answer of two lists of checks: that of the first list, unless it meets no refusal
stopped : (b : Bool) (r s : Refusal) (xs ys : Option Refusal) → (verdict xs ≡ Err s → verdict ys ≡ Err s) → verdict (cond b (Some r) xs) ≡ Err s → verdict (cond b (Some r) ys) ≡ Err s
stopped true r s xs ys f h = h
stopped false r s xs ys f h = f h

pub stops : (cs ds : List Check) (r : Refusal) → checked cs ≡ Err r → checked (cs ++ ds) ≡ Err r
stops [] ds r h = absurd (err-ok r h)
stops (c ∷ cs) ds r h = stopped c.fails c.refusal r (first_of cs) (first_of (cs ++ ds)) (stops cs ds r) h

gone_on : (b : Bool) (r : Refusal) (xs ys zs : Option Refusal) → (verdict xs ≡ Ok tt → verdict ys ≡ verdict zs) → verdict (cond b (Some r) xs) ≡ Ok tt → verdict (cond b (Some r) ys) ≡ verdict zs
gone_on true r xs ys zs f h = absurd (err-ok r (sym h))
gone_on false r xs ys zs f h = f h

pub goes_on : (cs ds : List Check) → checked cs ≡ Ok tt → checked (cs ++ ds) ≡ checked ds
goes_on [] ds h = refl
goes_on (c ∷ cs) ds h = gone_on c.fails c.refusal (first_of cs) (first_of (cs ++ ds)) (first_of ds) (goes_on cs ds) h

-- not the denial
passes : (b : Bool) → not b ≡ false → b ≡ true
passes true h = refl
passes false h = absurd (both_ways true h refl)

at_most : (a b : ℤ) → le_z a b ≡ true → a ≤ℤ b
at_most a b h = grind (arith, ints)

numbered : (n : ℕ) (z : ℤ) → not (between 1 n z) ≡ false → Numbered n z
numbered n z h =
    let p = and_parts (le_z (pos 1) z) (le_z z (pos n)) (passes (between 1 n z) h) in
    let a = at_most (pos 1) z p.0 in
    let b = at_most z (pos n) p.1 in
    (grind (arith, ints), grind (arith, ints), grind (arith, ints))

ranged : (from to : ℤ) → not (le_z (pos 1) from && le_z from to && le_z to (pos 24)) ≡ false → Ranged from to
ranged from to h =
    let p = and_parts (le_z (pos 1) from && le_z from to) (le_z to (pos 24)) (passes _ h) in
    let q = and_parts (le_z (pos 1) from) (le_z from to) p.0 in
    let a = at_most (pos 1) from q.0 in
    let b = at_most from to q.1 in
    let c = at_most to (pos 24) p.1 in
    ((grind (arith, ints), grind (arith, ints), grind (arith, ints)), (grind (arith, ints), grind (arith, ints), grind (arith, ints)), grind (arith, ints))

small : (n : ℕ) (z : ℤ) → within n z ≡ true → nat_abs z ≤ n
small n z h =
    let p = and_parts (le_z (neg_ℤ (pos n)) z) (le_z z (pos n)) h in
    let a = at_most (neg_ℤ (pos n)) z p.0 in
    let b = at_most z (pos n) p.1 in
    grind (arith, ints)

apart : (a b : ℤ) → same a b ≡ false → a ≡ pos (nat_abs a) → b ≡ pos (nat_abs b) → nat_abs a ≡ nat_abs b → ⊥
apart (pos a) (pos b) h p q e = eqb-false a b h e
apart (pos a) (negsuc b) h p q e = absurd (grind (arith, ints))
apart (negsuc a) b h p q e = absurd (grind (arith, ints))

traders : (sizes : Sizes) (seller buyer : ℤ) → Numbered sizes.parties seller → Numbered sizes.parties buyer → same seller buyer ≡ false → Traders sizes seller buyer
traders sizes seller buyer s b h = (s, b, λ e. apart seller buyer h s.0 b.0 e)

-- an entry whose field checks pass has its fields in range
pub sane : (sizes : Sizes) (e : Entry) → first_of (field_checks sizes e) ≡ None → Sane sizes e
sane sizes (Deposit party haler) h =
    let a = passed _ _ _ h in
    let b = passed _ _ _ a.1 in
    (numbered _ party a.0, numbered _ haler b.0)
sane sizes (Withdraw party haler) h =
    let a = passed _ _ _ h in
    let b = passed _ _ _ a.1 in
    (numbered _ party a.0, numbered _ haler b.0)
sane sizes (Register day from to seller buyer kwh) h =
    let a = passed _ _ _ h in
    let b = passed _ _ _ a.1 in
    let c = passed _ _ _ b.1 in
    let d = passed _ _ _ c.1 in
    let e = passed _ _ _ d.1 in
    let f = passed _ _ _ e.1 in
    (traders sizes seller buyer (numbered _ seller a.0) (numbered _ buyer b.0) f.0, numbered _ day c.0, ranged from to d.0, numbered _ kwh e.0)
sane sizes (Market day from to seller buyer kwh price) h =
    let a = passed _ _ _ h in
    let b = passed _ _ _ a.1 in
    let c = passed _ _ _ b.1 in
    let d = passed _ _ _ c.1 in
    let e = passed _ _ _ d.1 in
    let f = passed _ _ _ e.1 in
    let g = passed _ _ _ f.1 in
    let k = and_parts (between 1000 499000 kwh) (eqb (nat_abs kwh % 100) 0) (passes (market_kwh kwh) e.0) in
    let l = and_parts (within 99999 price) (not (same price (pos 0))) (passes (market_price price) f.0) in
    let m = and_parts (le_z (pos 1000) kwh) (le_z kwh (pos 499000)) k.0 in
    let n = at_most (pos 1000) kwh m.0 in
    let o = at_most kwh (pos 499000) m.1 in
    (traders sizes seller buyer (numbered _ seller a.0) (numbered _ buyer b.0) g.0, numbered _ day c.0, ranged from to d.0, (grind (arith, ints), grind (arith, ints), grind (arith, ints)), eqb-true _ _ k.1, small 99999 price l.0)
sane sizes (Close day) h = let a = passed _ _ _ h in numbered _ day a.0
sane sizes (Regulate day hour party kwh price) h =
    let a = passed _ _ _ h in
    let b = passed _ _ _ a.1 in
    let c = passed _ _ _ b.1 in
    let d = passed _ _ _ c.1 in
    let e = passed _ _ _ d.1 in
    let k = and_parts (within 499000 kwh) (not (same kwh (pos 0))) (passes (regulating_kwh kwh) d.0) in
    (numbered _ party a.0, numbered _ day b.0, numbered _ hour c.0, small 499000 kwh k.0, small 99999 price (passes _ e.0))
sane sizes (Meter day from to party kwh) h =
    let a = passed _ _ _ h in
    let b = passed _ _ _ a.1 in
    let c = passed _ _ _ b.1 in
    let d = passed _ _ _ c.1 in
    (numbered _ party a.0, numbered _ day b.0, ranged from to c.0, small 499999 kwh (passes _ d.0))
sane sizes (Evaluate day stage) h =
    let a = passed _ _ _ h in
    let b = passed _ _ _ a.1 in
    (numbered _ day a.0, numbered _ stage b.0)

-- a refusal of the first list is that of both
pub earlier : (cs ds : List Check) (r : Refusal) → first_of cs ≡ Some r → first_of (cs ++ ds) ≡ Some r
earlier [] ds r h = absurd (some-none r (sym h))
earlier (c ∷ cs) ds r h =
    ⊎_elim
    (λ e. cond-true c.fails _ _ e ∙ sym (cond-true c.fails _ _ e) ∙ h)
    (λ e. cond-false c.fails _ _ e ∙ earlier cs ds r (sym (cond-false c.fails _ _ e) ∙ h))
    (cases_Bool c.fails)
