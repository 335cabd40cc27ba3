-- The two sharing rules. Both share the magnitude of N and restore its sign. Parties are counted from 0. Assumes nothing.
--
--   running n ws            the parts of the running rule
--   largest_remainder n ws  the parts of the largest remainder rule
--   Serves n ws ps          the parts ps are floors, with one haler more for the largest remainders
use Rattle.std.specs.Prelude.{◌≡◌, ℕ, ◌+◌, ◌-◌, ◌*◌, ◌/◌, ◌%◌, ◌<◌, Bool, true, false, cond, ◌&&◌, ◌||◌, ◌⊎◌, List, map, length, take, ℤ, pos, negsuc, neg_ℤ, ◌==◌, count_by, nat_lt, slice_index, slice_index_or, unsigned_abs}
use Rattle.std.specs.List.{range_with_len}
use Rattle.units.specs.Sums.{sum_n}

-- The sign of N

abbrev pub below_zero : ℤ → Bool
below_zero (pos n) = false
below_zero (negsuc n) = true

-- a magnitude with a sign
abbrev pub signed : Bool → ℕ → ℤ
signed false m = pos m
signed true m = neg_ℤ (pos m)

-- a rule f on magnitudes shares the magnitude of N, and each share gets the sign of N
abbrev pub by_magnitude : (ℕ → List ℕ → List ℕ) → ℤ → List ℕ → List ℤ
by_magnitude f n ws = map (signed (below_zero n)) (f (unsigned_abs n) ws)

-- Rule 1, running

-- party k's share of m halers: floor(m × C / W) less floor(m × B / W), with C the weights up to and including the party and B those before it
abbrev pub running_share : ℕ → List ℕ → ℕ → ℕ
running_share m ws k = m * sum_n (take (k + 1) ws) / sum_n ws - m * sum_n (take k ws) / sum_n ws

abbrev pub running_shares : ℕ → List ℕ → List ℕ
running_shares m ws = map (running_share m ws) (range_with_len 0 (length ws))

abbrev pub running : ℤ → List ℕ → List ℤ
running = by_magnitude running_shares

-- Rule 2, largest remainder

-- what each weight has of m halers for certain: floor(m × weight / W)
abbrev pub floors : ℕ → List ℕ → List ℕ
floors m ws = map (λ w. m * w / sum_n ws) ws

-- the remainder of each of these divisions
abbrev pub rests : ℕ → List ℕ → List ℕ
rests m ws = map (λ w. m * w % sum_n ws) ws

-- the halers that the floors leave, where there is a weight
abbrev pub leftover : ℕ → List ℕ → ℕ
leftover m ws = cond (nat_lt 0 (sum_n ws)) (m - sum_n (floors m ws)) 0

-- party j comes before party k: its remainder in rs is larger, or equal and j is the lower party
abbrev pub before : List ℕ → ℕ → ℕ → Bool
before rs j k = nat_lt (slice_index rs k) (slice_index rs j) || (slice_index rs j == slice_index rs k && nat_lt j k)

-- how many parties come before party k
abbrev pub rank : List ℕ → ℕ → ℕ
rank rs k = count_by (λ j. before rs j k) (range_with_len 0 (length rs))

-- party k's share of m halers: its floor, and one haler more if those before it leave one over
abbrev pub largest_share : ℕ → List ℕ → ℕ → ℕ
largest_share m ws k = slice_index (floors m ws) k + cond (nat_lt (rank (rests m ws) k) (leftover m ws)) 1 0

abbrev pub largest_shares : ℕ → List ℕ → List ℕ
largest_shares m ws = map (largest_share m ws) (range_with_len 0 (length ws))

abbrev pub largest_remainder : ℤ → List ℕ → List ℤ
largest_remainder = by_magnitude largest_shares

-- what the rule means without a count: with the sum that the laws ask for, this leaves no other parts
pub record Serves (n : ℤ) (ws : List ℕ) (ps : List ℤ) : Type 0 where
  -- every part has the sign of N, and its magnitude is the party's floor or one haler more
  pub each : (k : ℕ) → k < length ws → (slice_index_or ps k (pos 0) ≡ signed (below_zero n) (slice_index (floors (unsigned_abs n) ws) k)) ⊎ (slice_index_or ps k (pos 0) ≡ signed (below_zero n) (slice_index (floors (unsigned_abs n) ws) k + 1))
  -- a party with one haler more comes before every party without
  pub order : (j k : ℕ) → j < length ws → k < length ws → slice_index_or ps j (pos 0) ≡ signed (below_zero n) (slice_index (floors (unsigned_abs n) ws) j + 1) → slice_index_or ps k (pos 0) ≡ signed (below_zero n) (slice_index (floors (unsigned_abs n) ws) k) → before (rests (unsigned_abs n) ws) j k ≡ true
