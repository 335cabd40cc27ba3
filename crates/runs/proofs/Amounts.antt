-- Deliveries and readings after an entry: those to a cell are among those of its hour, and a reading stays in its range. Assumes nothing.
use Rattle.std.proofs.Common.{◌≡◌, ℕ, ◌+◌, ◌*◌, ◌≤◌, Bool, true, false, cond, ◌&&◌, eqb, ℤ, pos, ◌*ℤ◌, nat_abs, Some, Option, arith}
use lib.Signed.{lt_z}
use Rattle.std.proofs.lemmas.Bool.{le-leb}
use Rattle.units.proofs.Integers.{product_within}
use Rattle.hourly.specs.Bounds.{within_opt}
use Rattle.hourly.specs.Records.{HourFigures, delivered, with_delivery}
use Rattle.entries.specs.Sane.{Sane}
use Rattle.entries.specs.declared.entry.Entry.{Entry}
use Rattle.entries.specs.declared.entry.Entry.TheVariants.{Deposit, Withdraw, Register, Market, Close, Regulate, Meter, Evaluate}
use Rattle.entries.specs.declared.entry.Sizes.{Sizes}
use Rattle.book.specs.Standing.{index}
use Rattle.book.specs.Effects.{in_hours}
use Rattle.runs.specs.After.{brought_by, deliveries_after, reading_by, regulating_by, tenths_by}
use Rattle.runs.specs.Kept.{hour_kwh}

delivered_kwh : (f : HourFigures) (n : ℕ) (price : ℤ) (b : Bool) → hour_kwh (cond b (record { upward = f.upward; downward = with_delivery false f.downward n price }) (record { upward = with_delivery true f.upward n price; downward = f.downward })) ≡ hour_kwh f + n
delivered_kwh f n price true = omega arith
delivered_kwh f n price false = omega arith

brought : (f : HourFigures) (kwh price : ℤ) (i : Bool) → hour_kwh (cond i (delivered f kwh price) f) ≡ hour_kwh f + cond i (nat_abs kwh) 0
brought f kwh price true = delivered_kwh f (nat_abs kwh) price (lt_z kwh (pos 0))
brought f kwh price false = omega arith

none : (f : HourFigures) → hour_kwh f ≡ hour_kwh f + 0
none f = omega arith

pub hour_more : (e : Entry) (d t : ℕ) (f : HourFigures) → hour_kwh (deliveries_after e d t f) ≡ hour_kwh f + brought_by e d t
hour_more (Deposit party haler) d t f = none f
hour_more (Withdraw party haler) d t f = none f
hour_more (Register day from to seller buyer kwh) d t f = none f
hour_more (Market day from to seller buyer kwh price) d t f = none f
hour_more (Close day) d t f = none f
hour_more (Regulate day hour party kwh price) d t f = brought f kwh price (in_hours day hour hour d t)
hour_more (Meter day from to party kwh) d t f = none f
hour_more (Evaluate day stage) d t f = none f

part_of : (i s : Bool) (z : ℤ) → nat_abs (cond i (cond s z (pos 0)) (pos 0)) ≤ cond i (nat_abs z) 0
part_of true true z = omega arith
part_of true false z = omega arith
part_of false s z = omega arith

worth_of : (i s : Bool) (kwh price : ℤ) → nat_abs price ≤ 99999 → nat_abs (cond i (cond s (kwh *ℤ price) (pos 0)) (pos 0)) ≤ 99999 * cond i (nat_abs kwh) 0
worth_of true true kwh price h = omega (arith, product_within kwh price (nat_abs kwh) 99999 (omega arith) h)
worth_of true false kwh price h = omega arith
worth_of false s kwh price h = omega arith

pub regulating-few : (e : Entry) (p d t : ℕ) → nat_abs (regulating_by e p d t) ≤ brought_by e d t
regulating-few (Deposit party haler) p d t = omega arith
regulating-few (Withdraw party haler) p d t = omega arith
regulating-few (Register day from to seller buyer kwh) p d t = omega arith
regulating-few (Market day from to seller buyer kwh price) p d t = omega arith
regulating-few (Close day) p d t = omega arith
regulating-few (Regulate day hour party kwh price) p d t = part_of (in_hours day hour hour d t) (eqb p (index party)) kwh
regulating-few (Meter day from to party kwh) p d t = omega arith
regulating-few (Evaluate day stage) p d t = omega arith

pub tenths-few : (s : Sizes) (e : Entry) → Sane s e → (p d t : ℕ) → nat_abs (tenths_by e p d t) ≤ 99999 * brought_by e d t
tenths-few s (Deposit party haler) w p d t = omega arith
tenths-few s (Withdraw party haler) w p d t = omega arith
tenths-few s (Register day from to seller buyer kwh) w p d t = omega arith
tenths-few s (Market day from to seller buyer kwh price) w p d t = omega arith
tenths-few s (Close day) w p d t = omega arith
tenths-few s (Regulate day hour party kwh price) w p d t = worth_of (in_hours day hour hour d t) (eqb p (index party)) kwh price w.4
tenths-few s (Meter day from to party kwh) w p d t = omega arith
tenths-few s (Evaluate day stage) w p d t = omega arith

-- a reading stays in its range
read-within : (b : Bool) (kwh : ℤ) (r : Option ℤ) → nat_abs kwh ≤ 499999 → within_opt 499999 r ≡ true → within_opt 499999 (cond b (Some kwh) r) ≡ true
read-within true kwh r h o = le-leb _ _ h
read-within false kwh r h o = o

pub reading-within : (s : Sizes) (e : Entry) → Sane s e → (p d t : ℕ) (r : Option ℤ) → within_opt 499999 r ≡ true → within_opt 499999 (reading_by e p d t r) ≡ true
reading-within s (Deposit party haler) w p d t r o = o
reading-within s (Withdraw party haler) w p d t r o = o
reading-within s (Register day from to seller buyer kwh) w p d t r o = o
reading-within s (Market day from to seller buyer kwh price) w p d t r o = o
reading-within s (Close day) w p d t r o = o
reading-within s (Regulate day hour party kwh price) w p d t r o = o
reading-within s (Meter day from to party kwh) w p d t r o = read-within (eqb p (index party) && in_hours day from to d t) kwh r w.3 o
reading-within s (Evaluate day stage) w p d t r o = o
