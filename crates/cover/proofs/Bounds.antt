-- How much positions expose a party to at most, where each is of at most m kWh. Assumes nothing.
use Rattle.std.proofs.Common.{◌≡◌, ℕ, zero, suc, ◌+◌, ◌*◌, ◌≤◌, Bool, true, false, cond, ◌&&◌, ltb, leb, List, length, get_or, ℤ, pos, ◌+ℤ◌, negsuc, nat_abs, refl, arith}
use Rattle.std.proofs.lemmas.Nat.{mul-le}
use Rattle.std.proofs.lemmas.Bool.{and_parts, leb-true}
use Rattle.units.proofs.Integers.{sum-within}
use Rattle.hourly.specs.declared.plain.PlainCell.{PlainCell}
use Rattle.hourly.specs.Cells.{blank, cleared, given, read, sound}
use Rattle.cover.specs.declared.hour.HourPrices.{HourPrices}
use Rattle.cover.specs.Prices.{exposure, in_range}
use Rattle.cover.specs.Need.{added, day_counted, day_in, day_tenths, fits, position_in, position_with, price_at, tenths, tenths_of, tenths_with, total}
use Rattle.cover.proofs.Tables.{price_small}

pub exposure_small : (p : HourPrices) (z : ℤ) (m : ℕ) → p.short ≤ 99999 → p.long ≤ 99999 → nat_abs z ≤ m → exposure p z ≤ m * 99999
exposure_small p (pos n) m s l h = mul-le n p.short m 99999 h s
exposure_small p (negsuc n) m s l h = mul-le (n + 1) p.long m 99999 (omega (arith, h)) l

-- of n terms, each at most m
total_small : (f : ℕ → ℕ) (m : ℕ) → ((k : ℕ) → f k ≤ m) → (n : ℕ) → total f n ≤ n * m
total_small f m h zero = omega arith
total_small f m h (suc n) = grind (arith, total_small f m h n, h n)

counted_small : (b : Bool) (t m : ℕ) → t ≤ m → cond b t 0 ≤ m
counted_small true t m h = h
counted_small false t m h = omega arith

module _ (ps : List HourPrices) (priced : in_range ps ≡ true) (m : ℕ) where
  hour_small : (k : ℕ) (z : ℤ) → nat_abs z ≤ m → exposure (price_at ps k) z ≤ m * 99999
  hour_small k z h = let s = price_small ps priced k in exposure_small (price_at ps k) z m s.0 s.1 h

  pub day_small : (kwh : ℕ → ℤ) → ((h : ℕ) → nat_abs (kwh h) ≤ m) → (hours : ℕ) → day_tenths ps hours kwh ≤ hours * (m * 99999)
  day_small kwh h hours = total_small (λ k. exposure (price_at ps k) (kwh k)) (m * 99999) (λ k. hour_small k (kwh k) (h k)) hours

  days_small : (counts : ℕ → Bool) (kwh : ℕ → ℕ → ℤ) → ((d h : ℕ) → nat_abs (kwh d h) ≤ m) → (days : ℕ) → tenths ps (λ d. 24) counts kwh days ≤ days * (24 * (m * 99999))
  days_small counts kwh h days = total_small (day_counted ps (λ d. 24) counts kwh) (24 * (m * 99999)) (λ d. counted_small (counts d) _ _ (day_small (kwh d) (h d) 24)) days

-- the position of a cell, and after a trade
cell_small : (x : PlainCell) → nat_abs (read x).position ≤ 499999
cell_small x = go (sound x) refl
  where
    go : (b : Bool) → sound x ≡ b → nat_abs (cond b (given x) cleared).position ≤ 499999
    go true h = leb-true _ _ (and_parts _ _ (and_parts _ _ (and_parts _ _ (and_parts _ _ h).0).0).0).0
    go false h = omega arith

pub traded_small : (x : PlainCell) (start end : ℕ) (kwh : ℤ) (k : ℕ) → nat_abs kwh ≤ 499000 → nat_abs ((read x).position +ℤ added start end kwh k) ≤ 998999
traded_small x start end kwh k h = omega (arith, cell_small x, sum-within (read x).position (added start end kwh k), go (leb start k && ltb k end))
  where
    go : (b : Bool) → nat_abs (cond b kwh (pos 0)) ≤ 499000
    go true = h
    go false = omega arith

-- how many days fitting sizes have
pub few_days : (days cells : ℕ) → fits days cells ≡ true → days ≤ 62
few_days days cells h = leb-true days 62 (and_parts _ _ (and_parts _ _ h).0).1

module _ {D : Type 0} (counts : D → Bool) (past : D) (ps : List HourPrices) (days : List D) (cells : List PlainCell) (priced : in_range ps ≡ true) (fitting : fits (length days) (length cells) ≡ true) where
  -- the tenths and the need as the positions stand, and after a trade
  pub tenths_small : tenths_of counts past ps days cells ≤ 74399107201488
  tenths_small =
      let k : ℕ = length days in
      let few : k ≤ 62 = few_days k (length cells) fitting in
      omega (arith, few, days_small ps priced 499999 (day_in counts past days) (position_in cells) (λ d h. cell_small (get_or cells (d * 24 + h) blank)) k)

  pub tenths_with_small : (start end : ℕ) (kwh : ℤ) → nat_abs kwh ≤ 499000 → tenths_with counts past ps days cells start end kwh ≤ 148649564689488
  tenths_with_small start end kwh m =
      let k : ℕ = length days in
      let few : k ≤ 62 = few_days k (length cells) fitting in
      omega (arith, few, days_small ps priced 998999 (day_in counts past days) (position_with cells start end kwh) (λ d h. traded_small (get_or cells (d * 24 + h) blank) start end kwh (d * 24 + h) m) k)
