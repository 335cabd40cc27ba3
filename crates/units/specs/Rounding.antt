-- Rounding to the nearest whole number, halves away from 0. Assumes nothing.
--
--   Nearest t d r   r is the whole number nearest to t / d
--   nearest t d     that number, computed
--   rounded t       t tenths of a haler, in halers
use Rattle.std.specs.Prelude.{◌≡◌, ℕ, ◌+◌, ◌*◌, ◌/◌, ◌<◌, ◌≤◌, ℤ, pos, negsuc, ◌-ℤ◌, ◌*ℤ◌, neg_ℤ, unsigned_abs}

-- r is the whole number nearest to t / d: twice its distance is at most 1, and where it is 1, halfway, r lies away from 0
abbrev pub Nearest : ℤ → ℕ → ℤ → Type 0
Nearest t d r = (2 * unsigned_abs (r *ℤ pos d -ℤ t) ≤ d) × (2 * unsigned_abs (r *ℤ pos d -ℤ t) ≡ d → unsigned_abs t < unsigned_abs r * d)

-- a magnitude m over d, to the nearest whole number: a half goes up
abbrev pub nearest_n : ℕ → ℕ → ℕ
nearest_n m d = (2 * m + d) / (2 * d)

-- t / d to the nearest whole number, halves away from 0
abbrev pub nearest : ℤ → ℕ → ℤ
nearest (pos m) d = pos (nearest_n m d)
nearest (negsuc m) d = neg_ℤ (pos (nearest_n (m + 1) d))

-- tenths of a haler to the nearest haler
abbrev pub rounded : ℤ → ℤ
rounded t = nearest t 10
