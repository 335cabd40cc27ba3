-- The largest remainder rule, by the parties before each, is the same as halers handed out one by one; so it keeps the laws. Assumes nothing.
use Rattle.std.specs.Prelude.{◌≡◌, ℕ, zero, suc, ◌+◌, ◌-◌, ◌*◌, ◌%◌, ◌<◌, ◌≤◌, true, false, cond, List, [], ◌∷◌, ◌++◌, length, take, ◌==◌, nat_lt, slice_index}
use Rattle.std.proofs.Common.{arith, not-suc-le-zero, ⊎_elim, sym, ap, subst, ◌∙◌}
use Rattle.std.specs.List.{range_with_len, sum_by}
use Rattle.std.proofs.lemmas.List.FromFn.{length-map-range_with_len, get_or-map-range_with_len}
use Rattle.std.proofs.lemmas.List.{ext_get_or, take_all, length-map}
use Rattle.std.proofs.lemmas.List.Sums.{sum_by_push}
use Rattle.std.proofs.lemmas.Bool.{both_ways, cond_both, cond-true, cond-false, lt-ltb, le-ltb, eq-eqb, ne_eqb, or_left, or_right, or_from, and_from, and_left, and_right, cases_lt}
use Rattle.units.specs.Sums.{sum_n}
use Rattle.units.proofs.Summing.{sum_n_more}
use Rattle.sharing.specs.Laws.{Lawful}
use Rattle.sharing.specs.Rules.{floors, rests, leftover, before, rank, largest_share, largest_shares, largest_remainder}
use Rattle.sharing.specs.Signs.{Splits, splits_same, lawful}
use Rattle.sharing.specs.Leftovers.{Ahead, give, handed, Enough, enough, give_length, give_sum, give_at, give_order, no_weight, handed_splits}

-- Sums over the first n parties

abbrev tally : (ℕ → ℕ) → ℕ → ℕ
tally f n = sum_by f (range_with_len 0 n)

range_more : (a n : ℕ) → range_with_len a (suc n) ≡ range_with_len a n ++ (a + n) ∷ []
range_more a zero = ap (λ (k : ℕ). k ∷ []) (omega arith)
range_more a (suc n) = ap (λ (ks : List ℕ). a ∷ ks) (range_more (a + 1) n ∙ ap (λ (k : ℕ). range_with_len (a + 1) n ++ k ∷ []) (omega arith))

tally_suc : (f : ℕ → ℕ) (n : ℕ) → tally f (suc n) ≡ tally f n + f n
tally_suc f n = ap (sum_by f) (range_more 0 n ∙ ap (λ (k : ℕ). range_with_len 0 n ++ k ∷ []) (omega arith)) ∙ sum_by_push f (range_with_len 0 n) n

pub tally_more : (f : ℕ → ℕ) (n : ℕ) → tally f (n + 1) ≡ tally f n + f n
tally_more f n = let e : n + 1 ≡ suc n = omega arith in ap (tally f) e ∙ tally_suc f n

tally_mono : (f g : ℕ → ℕ) (n : ℕ) → ((j : ℕ) → j < n → f j ≤ g j) → tally f n ≤ tally g n
tally_mono f g zero h = omega arith
tally_mono f g (suc n) h = omega (arith, tally_suc f n, tally_suc g n, tally_mono f g n (λ j l. h j (omega arith)), h n (omega arith))

tally_less : (f g : ℕ → ℕ) (n i : ℕ) → i < n → f i < g i → ((j : ℕ) → j < n → f j ≤ g j) → tally f n < tally g n
tally_less f g zero i l s h = absurd (not-suc-le-zero l)
tally_less f g (suc n) i l s h =
    ⊎_elim
    (λ lt. omega (arith, tally_suc f n, tally_suc g n, tally_less f g n i lt s (λ j b. h j (omega arith)), h n (omega arith)))
    (λ ge.
    let e : i ≡ n = omega arith in
    let t : f n < g n = subst (λ (j : ℕ). f j < g j) e s in
    omega (arith, tally_suc f n, tally_suc g n, tally_mono f g n (λ j b. h j (omega arith))))
    (cases_lt i n)

-- what a list has beyond another, place by place, is the difference of the sums
tally_extra : (xs ys : List ℕ) (n : ℕ) → n ≤ length xs → n ≤ length ys → ((j : ℕ) → j < n → slice_index xs j ≤ slice_index ys j) → tally (λ j. slice_index ys j - slice_index xs j) n + sum_n (take n xs) ≡ sum_n (take n ys)
tally_extra xs ys zero hx hy h = omega arith
tally_extra xs ys (suc n) hx hy h =
    let e : suc n ≡ n + 1 = omega arith in
    let x = ap (λ k. sum_n (take k xs)) e ∙ sum_n_more xs n (omega arith) in
    let y = ap (λ k. sum_n (take k ys)) e ∙ sum_n_more ys n (omega arith) in
    omega (arith, tally_suc (λ j. slice_index ys j - slice_index xs j) n, tally_extra xs ys n (omega arith) (omega arith) (λ j l. h j (omega arith)), h n (omega arith))

-- The order of the parties

pub before_from : (rs : List ℕ) (j k : ℕ) → Ahead rs j k → before rs j k ≡ true
before_from rs j k a =
    ⊎_elim
    (λ l. or_left (nat_lt (slice_index rs k) (slice_index rs j)) _ (lt-ltb (slice_index rs k) (slice_index rs j) l))
    (λ e. or_right (nat_lt (slice_index rs k) (slice_index rs j)) _ (and_from (slice_index rs j == slice_index rs k) (nat_lt j k) (eq-eqb (slice_index rs j) (slice_index rs k) (sym e.0)) (lt-ltb j k e.1)))
    a

not_before : (rs : List ℕ) (j k : ℕ) → Ahead rs k j → before rs j k ≡ false
not_before rs j k a =
    ⊎_elim
    (λ l. or_from _ _ (le-ltb (slice_index rs k) (slice_index rs j) (omega arith)) (and_left _ (nat_lt j k) (ne_eqb (slice_index rs j) (slice_index rs k) (λ e. omega arith))))
    (λ e. or_from _ _ (le-ltb (slice_index rs k) (slice_index rs j) (omega (arith, e.0))) (and_right (slice_index rs j == slice_index rs k) _ (le-ltb j k (omega (arith, e.1)))))
    a

not_before_self : (rs : List ℕ) (k : ℕ) → before rs k k ≡ false
not_before_self rs k = or_from _ _ (le-ltb (slice_index rs k) (slice_index rs k) (omega arith)) (and_right (slice_index rs k == slice_index rs k) _ (le-ltb k k (omega arith)))

-- Handed out one by one, a haler goes to those with fewer than l before them

abbrev extra : ℕ → List ℕ → List ℕ → ℕ → ℕ
extra l rs qs j = slice_index (give l rs qs) j - slice_index qs j

abbrev pub ahead_of : List ℕ → ℕ → ℕ → ℕ
ahead_of rs k j = cond (before rs j k) 1 0

extra_total : (l W : ℕ) (rs qs : List ℕ) → Enough l W rs qs → tally (extra l rs qs) (length rs) ≡ l
extra_total l W rs qs e =
    let n = length rs in
    let g = give l rs qs in
    let lg : length g ≡ n = give_length l rs qs ∙ sym e.even in
    let t = tally_extra qs g n (omega (arith, e.even)) (omega arith) (λ j h. ⊎_elim (λ a. omega arith) (λ a. omega (arith, a.0)) (give_at l W rs qs e j)) in
    let tq = ap sum_n (take_all n qs (omega (arith, e.even))) in
    let tg = ap sum_n (take_all n g (omega arith)) in
    omega (arith, give_sum l W rs qs e)

-- who is served has fewer than l before it, since all those are served too
served_rank : (l W : ℕ) (rs qs : List ℕ) → Enough l W rs qs → (k : ℕ) → k < length rs → slice_index (give l rs qs) k ≡ slice_index qs k + 1 → rank rs k < l
served_rank l W rs qs e k h p =
    let own : ahead_of rs k k ≡ 0 = cond-false (before rs k k) 1 0 (not_before_self rs k) in
    let less = tally_less (ahead_of rs k) (extra l rs qs) (length rs) k h (omega arith)
    (λ j b. cond_both (before rs j k) 1 0 (λ x. x ≤ extra l rs qs j)
    (λ t. ⊎_elim
    (λ u. absurd (both_ways (before rs j k) (not_before rs j k (give_order l W rs qs e k j p u)) t))
    (λ s. omega (arith, s.0))
    (give_at l W rs qs e j))
    (λ f. omega arith)) in
    omega (arith, extra_total l W rs qs e)

-- who is not served has at least l before it, namely all who are
unserved_rank : (l W : ℕ) (rs qs : List ℕ) → Enough l W rs qs → (k : ℕ) → slice_index (give l rs qs) k ≡ slice_index qs k → l ≤ rank rs k
unserved_rank l W rs qs e k u =
    let more = tally_mono (extra l rs qs) (ahead_of rs k) (length rs)
    (λ j b. ⊎_elim
    (λ s. omega arith)
    (λ s. let one : ahead_of rs k j ≡ 1 = cond-true (before rs j k) 1 0 (before_from rs j k (give_order l W rs qs e j k s.0 u)) in omega (arith, s.0))
    (give_at l W rs qs e j)) in
    omega (arith, extra_total l W rs qs e)

give_rank : (l W : ℕ) (rs qs : List ℕ) → Enough l W rs qs → (k : ℕ) → k < length rs → slice_index (give l rs qs) k ≡ slice_index qs k + cond (nat_lt (rank rs k) l) 1 0
give_rank l W rs qs e k h =
    ⊎_elim
    (λ u. let z : ◌≡◌ {A = ℕ} (cond (nat_lt (rank rs k) l) 1 0) 0 = cond-false (nat_lt (rank rs k) l) 1 0 (le-ltb (rank rs k) l (unserved_rank l W rs qs e k u)) in omega arith)
    (λ s. let o : ◌≡◌ {A = ℕ} (cond (nat_lt (rank rs k) l) 1 0) 1 = cond-true (nat_lt (rank rs k) l) 1 0 (lt-ltb (rank rs k) l (served_rank l W rs qs e k h s.0)) in omega (arith, s.0))
    (give_at l W rs qs e k)

-- The rule

pub largest_at : (m : ℕ) (ws : List ℕ) (k : ℕ) → k < length ws → slice_index (largest_shares m ws) k ≡ largest_share m ws k
largest_at m ws k h = get_or-map-range_with_len (largest_share m ws) 0 (length ws) k k 0 h (omega arith)

-- each share, handed out or by the parties before it
handed_at : (m : ℕ) (ws : List ℕ) (k : ℕ) → k < length ws → slice_index (handed m ws) k ≡ largest_share m ws k
handed_at m ws k h =
    ⊎_elim
    (λ p. give_rank (leftover m ws) (sum_n ws) (rests m ws) (floors m ws) (enough m ws p) k (omega (arith, length-map ws (λ w. m * w % sum_n ws))))
    (λ z.
    let w : sum_n ws ≡ 0 = omega arith in
    let l : leftover m ws ≡ 0 = ap (λ W. cond (nat_lt 0 W) (m - sum_n (floors m ws)) 0) w in
    let o : ◌≡◌ {A = ℕ} (cond (nat_lt (rank (rests m ws) k) (leftover m ws)) 1 0) 0 = cond-false (nat_lt (rank (rests m ws) k) (leftover m ws)) 1 0 (le-ltb (rank (rests m ws) k) (leftover m ws) (omega arith)) in
    omega (arith, ap (λ (xs : List ℕ). slice_index xs k) (no_weight m ws w)))
    (cases_lt 0 (sum_n ws))

pub same_shares : (m : ℕ) (ws : List ℕ) → largest_shares m ws ≡ handed m ws
same_shares m ws =
    let l = length-map-range_with_len (largest_share m ws) 0 (length ws) in
    ext_get_or 0 (largest_shares m ws) (handed m ws) (l ∙ sym (handed_splits.len m ws)) (λ k h. largest_at m ws k (omega arith) ∙ sym (handed_at m ws k (omega arith)))

pub largest_splits : Splits largest_shares
largest_splits = splits_same largest_shares handed same_shares handed_splits

pub largest_lawful : Lawful largest_remainder
largest_lawful = lawful largest_shares largest_splits
