-- What the largest remainder rule means, and the steps of its loops. That it keeps the laws is in `specs/Ranks`. Assumes nothing.
use Rattle.std.specs.Prelude.{◌≡◌, ℕ, ◌+◌, ◌-◌, ◌*◌, ◌/◌, ◌<◌, Bool, true, false, cond, ◌⊎◌, List, map, length, get_or, ℤ, pos, nat_lt, slice_index, slice_index_or, unsigned_abs, refl}
use Rattle.std.proofs.Common.{arith, not-suc-le-zero, inl, inr, ⊎_elim, sym, ap, ◌∙◌}
use mir.Val.{bool_byte}
use Rattle.std.specs.List.{range_with_len}
use Rattle.std.proofs.lemmas.List.{length-map}
use Rattle.std.proofs.lemmas.Bool.{cases_lt}
use Rattle.units.specs.Sums.{sum_n, page}
use Rattle.units.proofs.Summing.{page-inside}
use Rattle.sharing.specs.Rules.{floors, rests, leftover, before, rank, largest_share, largest_shares, largest_remainder, signed, below_zero, Serves}
use Rattle.sharing.specs.Signs.{get_or_signed}
use Rattle.sharing.proofs.Signs.{signed_same}
use Rattle.sharing.specs.Leftovers.{handed, enough, give_order, no_weight, leftover_is}
use Rattle.sharing.specs.Ranks.{before_from, largest_at, same_shares, largest_lawful}

-- one more or none
pub one_or_none : (b : Bool) → (◌≡◌ {A = ℕ} (cond b 1 0) 0) ⊎ (◌≡◌ {A = ℕ} (cond b 1 0) 1)
one_or_none true = inr refl
one_or_none false = inl refl

floor_or_more : (m : ℕ) (ws : List ℕ) (k : ℕ) → k < length ws → (slice_index (largest_shares m ws) k ≡ slice_index (floors m ws) k) ⊎ (slice_index (largest_shares m ws) k ≡ slice_index (floors m ws) k + 1)
floor_or_more m ws k h =
    let e = largest_at m ws k h in
    ⊎_elim (λ z. inl (omega arith)) (λ o. inr (omega arith)) (one_or_none (nat_lt (rank (rests m ws) k) (leftover m ws)))

served_first : (m : ℕ) (ws : List ℕ) (j k : ℕ) → slice_index (largest_shares m ws) j ≡ slice_index (floors m ws) j + 1 → slice_index (largest_shares m ws) k ≡ slice_index (floors m ws) k → before (rests m ws) j k ≡ true
served_first m ws j k p u =
    let at : (i : ℕ) → slice_index (handed m ws) i ≡ get_or (largest_shares m ws) i 0 = λ i. ap (λ (xs : List ℕ). slice_index xs i) (sym (same_shares m ws)) in
    ⊎_elim
    (λ h. before_from (rests m ws) j k (give_order (leftover m ws) (sum_n ws) (rests m ws) (floors m ws) (enough m ws h) j k (at j ∙ p) (at k ∙ u)))
    (λ z. let e = ap (λ (xs : List ℕ). slice_index xs j) (no_weight m ws (omega arith)) in absurd (not-suc-le-zero {n = 0} (omega (arith, at j))))
    (cases_lt 0 (sum_n ws))

serves : (n : ℤ) (ws : List ℕ) (ps : List ℤ) → ((k : ℕ) → k < length ws → slice_index_or ps k (pos 0) ≡ slice_index_or (largest_remainder n ws) k (pos 0)) → Serves n ws ps
serves n ws ps same =
    let m = unsigned_abs n in
    let b = below_zero n in
    let xs = largest_shares m ws in
    let at : (k : ℕ) → k < length ws → slice_index_or ps k (pos 0) ≡ signed b (slice_index xs k) = λ k h. same k h ∙ get_or_signed b xs k in
    record {
      each = λ k h. ⊎_elim (λ e. inl (at k h ∙ ap (signed b) e)) (λ e. inr (at k h ∙ ap (signed b) e)) (floor_or_more m ws k h);
      order = λ j k hj hk p u. served_first m ws j k (signed_same b _ _ (sym (at j hj) ∙ p)) (signed_same b _ _ (sym (at k hk) ∙ u));
    }

-- a page of the rule's parts serves the largest remainders
pub serves_page : (n : ℤ) (ws : List ℕ) (ps : List ℤ) → ps ≡ page (largest_remainder n ws) → Serves n ws ps
serves_page n ws ps e = serves n ws ps (λ k h. ap (λ (xs : List ℤ). get_or xs k (pos 0)) e ∙ page-inside (largest_remainder n ws) k (omega (arith, largest_lawful.len n ws)))

pub byte_is : (b : Bool) → ◌≡◌ {A = ℕ} (bool_byte b) (cond b 1 0)
byte_is true = refl
byte_is false = refl

-- floors with one haler more for each party that has fewer before it than l
abbrev served : ℕ → List ℕ → List ℕ → List ℕ
served l rs qs = map (λ k. slice_index qs k + cond (nat_lt (rank rs k) l) 1 0) (range_with_len 0 (length qs))

-- floors with the halers left over are the rule's shares
pub allotted : (m : ℕ) (ws qs rs : List ℕ) (l : ℕ) → 0 < sum_n ws → qs ≡ floors m ws → rs ≡ rests m ws → l ≡ m - sum_n (floors m ws) → served l rs qs ≡ largest_shares m ws
allotted m ws qs rs l p eq er el =
    ap (λ (xs : List ℕ). served l rs xs) eq
    ∙ ap (λ (xs : List ℕ). served l xs (floors m ws)) er
    ∙ ap (λ n. served n (rests m ws) (floors m ws)) (el ∙ sym (leftover_is m ws p))
    ∙ ap (λ n. map (largest_share m ws) (range_with_len 0 n)) (length-map ws (λ w. m * w / sum_n ws))
