-- The running rule keeps the laws. Assumes nothing.
use Rattle.std.specs.Prelude.{◌≡◌, ℕ, zero, suc, ◌+◌, ◌*◌, ◌/◌, ◌<◌, ◌≤◌, List, [], ◌∷◌, ◌++◌, map, length, take, slice_index, slice_index_or}
use Rattle.std.proofs.Common.{arith, div-mul-le_self, mul-div_cancel, mul-le-mul_left, mul-zero, ⊎_elim, sym, ap, ◌∙◌}
use Rattle.std.proofs.Math.Nat.{div-zero, lt-div-mul-add, zero-div}
use Rattle.std.specs.List.{range_with_len}
use Rattle.std.proofs.lemmas.Nat.{le-div}
use Rattle.std.proofs.lemmas.List.FromFn.{length-map-range_with_len, get_or-map-range_with_len, map-range_with_len_more}
use Rattle.std.proofs.lemmas.List.{get_or_past, take_all}
use Rattle.std.proofs.lemmas.Bool.{cases_lt}
use Rattle.units.specs.Sums.{sum_n}
use Rattle.units.proofs.Summing.{sum_n-append, sum_n_more}
use Rattle.sharing.specs.Laws.{Lawful}
use Rattle.sharing.specs.Rules.{running_share, running_shares, running}
use Rattle.sharing.specs.Signs.{Splits, lawful}

-- division by the same number keeps the order
pub div_mono : (a b W : ℕ) → a ≤ b → a / W ≤ b / W
div_mono a b zero h = omega (arith, div-zero a, div-zero b)
div_mono a b (suc W) h = le-div (a / suc W) b (suc W) (omega arith) (omega (arith, div-mul-le_self a (suc W)))

-- a difference p of two quotients of m by W is near the share of w
near : (m W B w p : ℕ) → 0 < W → p + m * B / W ≡ m * (B + w) / W → (p * W < m * w + W) × (m * w < p * W + W)
near m W B w p h e =
    let a = div-mul-le_self (m * B) W in
    let b = lt-div-mul-add {a = m * B} h in
    let c = div-mul-le_self (m * (B + w)) W in
    let d = lt-div-mul-add {a = m * (B + w)} h in
    let t : (p + m * B / W) * W ≡ m * (B + w) / W * W = ap (λ n. n * W) e in
    (omega arith, omega arith)

-- a share and the quotient of those before make up the quotient with the party's own weight
share_is : (m : ℕ) (ws : List ℕ) (k : ℕ) → k < length ws → running_share m ws k + m * sum_n (take k ws) / sum_n ws ≡ m * (sum_n (take k ws) + slice_index ws k) / sum_n ws
share_is m ws k h =
    let W = sum_n ws in
    let B = sum_n (take k ws) in
    let e : m * sum_n (take (k + 1) ws) / W ≡ m * (B + slice_index ws k) / W = ap (λ n. m * n / W) (sum_n_more ws k h) in
    omega (arith, div_mono (m * B) (m * (B + slice_index ws k)) W (mul-le-mul_left m (omega arith)))

pub shares_at : (m : ℕ) (ws : List ℕ) (k : ℕ) → k < length ws → slice_index (running_shares m ws) k ≡ running_share m ws k
shares_at m ws k h = get_or-map-range_with_len (running_share m ws) 0 (length ws) k k 0 h (omega arith)

shares_length : (m : ℕ) (ws : List ℕ) → length (running_shares m ws) ≡ length ws
shares_length m ws = length-map-range_with_len (running_share m ws) 0 (length ws)

-- the shares of the first j parties add up to the quotient of their weights
first_shares : (m : ℕ) (ws : List ℕ) (j : ℕ) → j ≤ length ws → sum_n (map (running_share m ws) (range_with_len 0 j)) ≡ m * sum_n (take j ws) / sum_n ws
first_shares m ws zero h = sym (ap (λ n. n / sum_n ws) (mul-zero m) ∙ zero-div (sum_n ws))
first_shares m ws (suc j) h =
    let f = running_share m ws in
    let W = sum_n ws in
    let lt : j < length ws = omega arith in
    let i : suc j ≡ j + 1 = omega arith in
    let s : sum_n (map f (range_with_len 0 (suc j))) ≡ sum_n (map f (range_with_len 0 (j + 1))) = ap (λ n. sum_n (map f (range_with_len 0 n))) i in
    let t : sum_n (map f (range_with_len 0 (j + 1))) ≡ sum_n (map f (range_with_len 0 j) ++ f j ∷ []) = ap sum_n (map-range_with_len_more f 0 j j (omega arith)) in
    let u = sum_n-append (map f (range_with_len 0 j)) (f j ∷ []) in
    let ih = first_shares m ws j (omega arith) in
    let p = share_is m ws j lt in
    let v : m * (sum_n (take j ws) + slice_index ws j) / W ≡ m * sum_n (take (suc j) ws) / W = ap (λ n. m * n / W) (sym (ap (λ n. sum_n (take n ws)) i ∙ sum_n_more ws j lt)) in
    omega arith

pub running_splits : Splits running_shares
running_splits = record {
  len = shares_length;
  whole = λ m ws h.
      let W = sum_n ws in
      let o : m * sum_n (take (length ws) ws) / W ≡ m = ap (λ (xs : List ℕ). m * sum_n xs / W) (take_all (length ws) ws (omega arith)) ∙ mul-div_cancel m h in
      first_shares m ws (length ws) (omega arith) ∙ o;
  nothing = λ m ws k h e.
      let q : m * (sum_n (take k ws) + slice_index ws k) / sum_n ws ≡ m * sum_n (take k ws) / sum_n ws = ap (λ n. m * n / sum_n ws) (omega arith) in
      omega (arith, shares_at m ws k h, share_is m ws k h);
  fair = λ m ws k p h.
      let n = near m (sum_n ws) (sum_n (take k ws)) (slice_index ws k) (running_share m ws k) p (share_is m ws k h) in
      let e : slice_index_or (running_shares m ws) k 0 * sum_n ws ≡ running_share m ws k * sum_n ws = ap (λ x. x * sum_n ws) (shares_at m ws k h) in
      (omega arith, omega arith);
  none = λ m ws k e. ⊎_elim
      (λ lt.
      let a : m * (sum_n (take k ws) + slice_index ws k) / sum_n ws ≡ m * (sum_n (take k ws) + slice_index ws k) / 0 = ap (λ n. m * (sum_n (take k ws) + slice_index ws k) / n) e in
      omega (arith, shares_at m ws k lt, share_is m ws k lt, div-zero (m * (sum_n (take k ws) + slice_index ws k))))
      (λ ge. get_or_past (running_shares m ws) k 0 (omega (arith, shares_length m ws)))
      (cases_lt k (length ws));
}

pub running_lawful : Lawful running
running_lawful = lawful running_shares running_splits
