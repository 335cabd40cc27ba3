-- The cash of a market trade loses no tenth of a haler: kWh come in steps of 100. Assumes nothing.
use Rattle.std.proofs.Common.{◌≡◌, ℕ, ◌*◌, ◌/◌, ◌%◌, ℤ, pos, ◌*ℤ◌, nat_abs, sym, ap, ◌∙◌, arith}
use lib.IntN.{pos-*ℤ-pos}
use Rattle.units.proofs.Integers.{mul_int_assoc}
use Rattle.book.specs.Standing.{hours}
use Rattle.book.specs.Effects.{market_cash}

tens : (h k : ℕ) → k % 100 ≡ 0 → 10 * (h * k / 10) ≡ h * k
tens h k e =
    let q : k ≡ k / 100 * 100 = omega arith in
    let m : h * k ≡ h * (k / 100 * 100) = ap (λ n. h * n) q in
    omega arith

-- ten times the cash is hours × kWh × price
pub whole-cash : (from to kwh price : ℤ) → kwh ≡ pos (nat_abs kwh) → nat_abs kwh % 100 ≡ 0 → pos 10 *ℤ market_cash from to kwh price ≡ pos (hours from to) *ℤ kwh *ℤ price
whole-cash from to kwh price is e =
    let h = hours from to in
    let k = nat_abs kwh in
    sym (mul_int_assoc (pos 10) (pos (h * k / 10)) price)
    ∙ ap (λ (z : ℤ). z *ℤ price) (pos-*ℤ-pos 10 (h * k / 10) ∙ ap pos (tens h k e) ∙ sym (pos-*ℤ-pos h k) ∙ ap (λ (z : ℤ). pos h *ℤ z) (sym is))
