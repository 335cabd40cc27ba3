-- The laws of a sharing rule. Assumes nothing.
--
--   Lawful f   the map f, from a remainder and weights to parts, keeps the laws
use Rattle.std.specs.Prelude.{◌≡◌, ℕ, ◌<◌, List, length, ℤ, pos, ◌-ℤ◌, ◌*ℤ◌, slice_index, slice_index_or, unsigned_abs}
use Rattle.units.specs.Sums.{sum_n, sum_z}

-- f takes a remainder N and the weights to their parts; W, the sum of the weights, is sum_n ws, and parties are counted from 0
pub record Lawful (f : ℤ → List ℕ → List ℤ) : Type 0 where
  -- every weight has a part
  pub len : (n : ℤ) (ws : List ℕ) → length (f n ws) ≡ length ws
  -- where there is a weight, the parts add up to N
  pub whole : (n : ℤ) (ws : List ℕ) → 0 < sum_n ws → sum_z (f n ws) ≡ n
  -- weight 0 gets 0
  pub nothing : (n : ℤ) (ws : List ℕ) (k : ℕ) → k < length ws → slice_index ws k ≡ 0 → slice_index_or (f n ws) k (pos 0) ≡ pos 0
  -- where there is a weight, part × W differs from N × weight by less than W
  pub fair : (n : ℤ) (ws : List ℕ) (k : ℕ) → 0 < sum_n ws → k < length ws → unsigned_abs (slice_index_or (f n ws) k (pos 0) *ℤ pos (sum_n ws) -ℤ n *ℤ pos (slice_index ws k)) < sum_n ws
  -- where there is no weight, every part is 0
  pub none : (n : ℤ) (ws : List ℕ) (k : ℕ) → sum_n ws ≡ 0 → slice_index_or (f n ws) k (pos 0) ≡ pos 0
