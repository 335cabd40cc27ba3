-- What a sharing rule takes and refuses. Assumes nothing.
--
--   refusal n ws        why the remainder n and the weights ws are refused, if they are
--   told e              the number and the place of a refusal
--   answer o            what the rule answers, given why it refuses
--   afterwards o xs ps  the page of parts afterwards: that of xs, or ps as it was
--   Within n ws         the magnitudes of the remainder and the weights are in range
--   Light ws            the same of weights as natural numbers
--   Admits n ws r       r admits what is in range, and otherwise tells why not
use Rattle.std.specs.Prelude.{◌≡◌, ℕ, ◌<◌, ◌≤◌, Bool, cond, ◌&&◌, not, List, map, find, option_map, length, ℤ, pos, Some, None, Ok, Err, Option, Result, int_le, nat_lt, slice_index, slice_index_or, unsigned_abs}
use Rattle.refusals.specs.declared.Told.{Told}
use Rattle.units.specs.Sums.{page}
use Rattle.sharing.specs.declared.refusal.SharingRefusal.{SharingRefusal}
use Rattle.sharing.specs.declared.refusal.SharingRefusal.TheVariants.{Remainder, Count, Weight}

-- a weight lies in 0 to 499,999
abbrev pub in_range : ℤ → Bool
in_range w = int_le (pos 0) w && int_le w (pos 499999)

-- the refusal of the first weight out of range
abbrev pub weight_refusal : List ℤ → Option SharingRefusal
weight_refusal ws = option_map Weight (find (λ w. not (in_range w)) ws)

-- the first of three reasons that holds: the remainder beyond ±600,000,000,000, over 20 weights, a weight out of range
abbrev pub refusal : ℤ → List ℤ → Option SharingRefusal
refusal n ws = cond (nat_lt 600000000000 (unsigned_abs n)) (Some (Remainder n)) (cond (nat_lt 20 (length ws)) (Some (Count (pos (length ws)))) (weight_refusal ws))

-- a field out of range is refused with 4; the place is the number given, or the count of the weights
abbrev pub told : SharingRefusal → Told
told (Remainder halers) = record { number = 4; place = halers }
told (Count weights) = record { number = 4; place = weights }
told (Weight kwh) = record { number = 4; place = kwh }

abbrev pub answer : Option SharingRefusal → Result (Unit {0}) SharingRefusal
answer None = Ok tt
answer (Some e) = Err e

abbrev pub afterwards : Option SharingRefusal → List ℤ → List ℤ → List ℤ
afterwards None xs ps = page xs
afterwards (Some e) xs ps = ps

-- the weights, none of which is below 0 where they are in range, as natural numbers
abbrev pub magnitudes : List ℤ → List ℕ
magnitudes = map unsigned_abs

pub record Within (n : ℤ) (ws : List ℤ) : Type 0 where
  pub halers : unsigned_abs n ≤ 600000000000
  pub few : length ws ≤ 20
  pub light : (k : ℕ) → k < length ws → unsigned_abs (slice_index_or ws k (pos 0)) ≤ 499999

pub record Light (ws : List ℕ) : Type 0 where
  pub few : length ws ≤ 20
  pub each : (k : ℕ) → k < length ws → slice_index ws k ≤ 499999

abbrev pub Admits : ℤ → List ℤ → Result (Unit {0}) SharingRefusal → Type 0
Admits n ws (Ok _) = (refusal n ws ≡ None) × Within n ws
Admits n ws (Err e) = refusal n ws ≡ Some e
