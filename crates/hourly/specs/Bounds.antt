-- The bounds of cells and hour records. No type of the crate is named here, so that the types can cite it. Assumes nothing.
use Rattle.std.specs.Prelude.{ℕ, ◌*◌, Bool, true, false, cond, ◌&&◌, ℤ, pos, ◌*ℤ◌, Some, None, Option, ◌==◌, int_le, int_lt, nat_le, unsigned_abs}

-- z lies within ±n
abbrev pub within : ℕ → ℤ → Bool
within n z = nat_le (unsigned_abs z) n

-- so does a number that may be absent
abbrev pub within_opt : ℕ → Option ℤ → Bool
within_opt n None = true
within_opt n (Some z) = within n z

-- a total of kWh × price is not beyond kWh × extreme price: not above the highest price upward, not below the lowest one downward
abbrev pub not_beyond : Bool → ℤ → ℤ → Bool
not_beyond true total top = int_le total top
not_beyond false total bottom = int_le bottom total

-- the deliveries of a direction (true is upward): nothing at all, or 1 to 499,999 kWh with extreme and average price within ±99,999 and the average not beyond the extreme
abbrev pub deliveries_ok : Bool → ℕ → ℤ → Option ℤ → Bool
deliveries_ok up kwh total None = kwh == 0 && unsigned_abs total == 0
deliveries_ok up kwh total (Some extreme) = nat_le 1 kwh && nat_le kwh 499999 && within 99999 extreme && within (99999 * kwh) total && not_beyond up total (pos kwh *ℤ extreme)

-- the extreme one of two prices: the highest upward, the lowest downward
abbrev pub further : Bool → ℤ → ℤ → ℤ
further true former price = cond (int_lt former price) price former
further false former price = cond (int_lt price former) price former
