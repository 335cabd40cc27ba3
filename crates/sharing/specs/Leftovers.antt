-- Halers handed out one by one to the largest remainders: a way of counting, by which the largest remainder rule is shown to keep the laws. Assumes nothing.
use Rattle.std.specs.Prelude.{◌≡◌, ℕ, zero, suc, ◌+◌, ◌-◌, ◌*◌, ◌/◌, ◌%◌, ◌<◌, ◌≤◌, cond, ◌⊎◌, List, [], ◌∷◌, map, length, ◌≢◌, nat_lt, slice_index, slice_index_or, slice_set, refl}
use Rattle.std.proofs.Common.{arith, not-suc-le-zero, div-add-mod', mul-zero, le_of_mul-le-mul_right, length-set, inl, inr, ⊎_elim, sym, ap, subst, ◌∙◌}
use Rattle.std.proofs.Math.Nat.{div-zero, zero-div, zero-mod}
use Rattle.std.proofs.lemmas.Nat.{mod_below}
use Rattle.std.proofs.lemmas.List.{get_or-set_same, get_or-set_other, get_or-map, length-map}
use Rattle.std.proofs.lemmas.Bool.{cond_both, cond-true, lt-ltb, ltb-true, ltb-false, cases_eq, cases_lt}
use Rattle.units.specs.Sums.{sum_n}
use Rattle.sharing.specs.Rules.{floors, rests, leftover}
use Rattle.sharing.specs.Signs.{Splits}

-- Handing out

-- the place of the largest number above v, the first among equals, or b if there is none; i is the place of the list's first number
abbrev pick : ℕ → ℕ → ℕ → List ℕ → ℕ
pick i b v [] = b
pick i b v (x ∷ xs) = cond (nat_lt v x) (pick (i + 1) i x xs) (pick (i + 1) b v xs)

-- the place of the largest number, the first among equals
abbrev largest : List ℕ → ℕ
largest xs = pick 0 0 0 xs

-- l halers go one each to the largest remainders rs, on top of the shares qs; who is served has no remainder left
abbrev pub give : ℕ → List ℕ → List ℕ → List ℕ
give zero rs qs = qs
give (suc l) rs qs = give l (slice_set rs (largest rs) 0) (slice_set qs (largest rs) (slice_index qs (largest rs) + 1))

abbrev pub handed : ℕ → List ℕ → List ℕ
handed m ws = give (leftover m ws) (rests m ws) (floors m ws)

-- party j comes before party k, as one of two facts
abbrev pub Ahead : List ℕ → ℕ → ℕ → Type 0
Ahead rs j k = (slice_index rs k < slice_index rs j) ⊎ ((slice_index rs k ≡ slice_index rs j) × (j < k))

-- The largest number of a list

-- r, counted from i, is the place of the largest number above v, the first among equals
record Found (i v : ℕ) (xs : List ℕ) (r : ℕ) : Type 0 where
  from : i ≤ r
  to : r < i + length xs
  above : v < slice_index xs (r - i)
  most : (k : ℕ) → slice_index xs k ≤ slice_index xs (r - i)
  first : (k : ℕ) → i + k < r → slice_index xs k < slice_index xs (r - i)

-- what `pick` finds: such a place, or b where no number is above v
abbrev Picked : ℕ → ℕ → ℕ → List ℕ → ℕ → Type 0
Picked i b v xs r = Found i v xs r ⊎ ((r ≡ b) × ((k : ℕ) → slice_index xs k ≤ v))

at_head_or_later : (P : ℕ → Type 0) → P 0 → ((k : ℕ) → P (suc k)) → (k : ℕ) → P k
at_head_or_later P h t zero = h
at_head_or_later P h t (suc k) = t k

found_later : (i v u x : ℕ) (xs : List ℕ) (r : ℕ) → v ≤ u → x ≤ u → Found (i + 1) u xs r → Found i v (x ∷ xs) r
found_later i v u x xs r le lx f =
    let e : r - i ≡ suc (r - (i + 1)) = omega (arith, f.from) in
    let y = slice_index_or xs (r - (i + 1)) 0 in
    let s : slice_index_or (x ∷ xs) (r - i) 0 ≡ y = ap (λ k. slice_index (x ∷ xs) k) e in
    record {
      from = omega (arith, f.from);
      to = omega (arith, f.to);
      above = omega (arith, f.above);
      most = at_head_or_later (λ k. slice_index (x ∷ xs) k ≤ slice_index (x ∷ xs) (r - i)) (omega (arith, f.above)) (λ k. omega (arith, f.most k));
      first = at_head_or_later (λ k. i + k < r → slice_index (x ∷ xs) k < slice_index (x ∷ xs) (r - i)) (λ h. omega (arith, f.above)) (λ k h. omega (arith, f.first k (omega arith)));
    }

found_here : (i v x : ℕ) (xs : List ℕ) (r : ℕ) → v < x → r ≡ i → ((k : ℕ) → slice_index xs k ≤ x) → Found i v (x ∷ xs) r
found_here i v x xs r lt e h =
    let z : r - i ≡ 0 = omega arith in
    let s : slice_index_or (x ∷ xs) (r - i) 0 ≡ x = ap (λ k. slice_index (x ∷ xs) k) z in
    record {
      from = omega arith;
      to = omega arith;
      above = omega arith;
      most = at_head_or_later (λ k. slice_index (x ∷ xs) k ≤ slice_index (x ∷ xs) (r - i)) (omega arith) (λ k. omega (arith, h k));
      first = λ k l. absurd (not-suc-le-zero {n = 0} (omega arith));
    }

picks : (i b v : ℕ) (xs : List ℕ) → Picked i b v xs (pick i b v xs)
picks i b v [] = inr (refl, λ k. omega arith)
picks i b v (x ∷ xs) =
    cond_both (nat_lt v x) _ _ (Picked i b v (x ∷ xs))
    (λ t. let lt : v < x = ltb-true v x t in
    ⊎_elim
    (λ f. inl (found_later i v x x xs _ (omega arith) (omega arith) f))
    (λ n. inl (found_here i v x xs _ lt n.0 n.1))
    (picks (i + 1) i x xs))
    (λ t. let le : x ≤ v = ltb-false v x t in
    ⊎_elim
    (λ f. inl (found_later i v v x xs _ (omega arith) (omega arith) f))
    (λ n. inr (n.0, at_head_or_later (λ k. slice_index (x ∷ xs) k ≤ v) le n.1))
    (picks (i + 1) b v xs))

no_sum : (xs : List ℕ) → ((k : ℕ) → slice_index xs k ≤ 0) → sum_n xs ≡ 0
no_sum [] h = refl
no_sum (x ∷ xs) h = omega (arith, h 0, no_sum xs (λ k. h (suc k)))

-- where something is left, the largest is a place of the list, has something, and comes before every other
record Largest (xs : List ℕ) (r : ℕ) : Type 0 where
  inside : r < length xs
  some : 0 < slice_index xs r
  ahead : (k : ℕ) → (k ≢ r) → Ahead xs r k

largest_is : (xs : List ℕ) → 0 < sum_n xs → Largest xs (largest xs)
largest_is xs h =
    let r = largest xs in
    let z : r - 0 ≡ r = omega arith in
    let s : slice_index_or xs (r - 0) 0 ≡ slice_index_or xs r 0 = ap (λ k. slice_index xs k) z in
    ⊎_elim
    (λ f. record {
      inside = omega (arith, f.to);
      some = omega (arith, f.above);
      ahead = λ k d. ⊎_elim
          (λ lt. inl (omega (arith, f.first k (omega arith))))
          (λ ge. ⊎_elim (λ l. inl l) (λ g. inr (omega (arith, f.most k), omega arith)) (cases_lt (slice_index xs k) (slice_index xs r)))
          (cases_lt k r);
    })
    (λ n. absurd (not-suc-le-zero {n = 0} (omega (arith, no_sum xs n.1))))
    (picks 0 0 0 xs)

-- Halers given one by one

sum_n_set : (xs : List ℕ) (i y : ℕ) → i < length xs → sum_n (slice_set xs i y) + slice_index xs i ≡ sum_n xs + y
sum_n_set [] i y h = absurd (not-suc-le-zero h)
sum_n_set (x ∷ xs) zero y h = omega arith
sum_n_set (x ∷ xs) (suc i) y h = omega (arith, sum_n_set xs i y (omega arith))

-- enough is left for l halers, each remainder being below W
pub record Enough (l W : ℕ) (rs qs : List ℕ) : Type 0 where
  pub even : length rs ≡ length qs
  pub sum : l * W ≤ sum_n rs
  pub each : (k : ℕ) → slice_index rs k < W

enough_next : (l W : ℕ) (rs qs : List ℕ) (i y : ℕ) → i < length rs → Enough (suc l) W rs qs → Enough l W (slice_set rs i 0) (slice_set qs i y)
enough_next l W rs qs i y h e = record {
  even = length-set rs i 0 ∙ e.even ∙ sym (length-set qs i y);
  sum = omega (arith, sum_n_set rs i 0 h, e.each i, e.sum);
  each = λ k. ⊎_elim
      (λ s. subst (λ (j : ℕ). slice_index (slice_set rs i 0) j < W) (sym s) (omega (arith, get_or-set_same rs i 0 0 h, e.each i)))
      (λ d. subst (λ (x : ℕ). x < W) (sym (get_or-set_other rs i k 0 0 d)) (e.each k))
      (cases_eq k i);
}

some_left : (l W : ℕ) (rs qs : List ℕ) → Enough (suc l) W rs qs → 0 < sum_n rs
some_left l W rs qs e = omega (arith, e.sum, e.each 0)

pub give_length : (l : ℕ) (rs qs : List ℕ) → length (give l rs qs) ≡ length qs
give_length zero rs qs = refl
give_length (suc l) rs qs = give_length l _ _ ∙ length-set qs (largest rs) _

pub give_sum : (l W : ℕ) (rs qs : List ℕ) → Enough l W rs qs → sum_n (give l rs qs) ≡ sum_n qs + l
give_sum zero W rs qs e = omega arith
give_sum (suc l) W rs qs e =
    let b = largest_is rs (some_left l W rs qs e) in
    let i = largest rs in
    let y = slice_index qs i + 1 in
    let ih = give_sum l W (slice_set rs i 0) (slice_set qs i y) (enough_next l W rs qs i y b.inside e) in
    let s = sum_n_set qs i y (omega (arith, b.inside, e.even)) in
    omega arith

-- each place has what it had, or one more if it had a remainder
abbrev pub Served : ℕ → ℕ → ℕ → Type 0
Served q r x = (x ≡ q) ⊎ ((x ≡ q + 1) × (0 < r))

pub give_at : (l W : ℕ) (rs qs : List ℕ) → Enough l W rs qs → (k : ℕ) → Served (slice_index qs k) (slice_index rs k) (slice_index (give l rs qs) k)
give_at zero W rs qs e k = inl refl
give_at (suc l) W rs qs e k =
    let b = largest_is rs (some_left l W rs qs e) in
    let i = largest rs in
    let y = slice_index qs i + 1 in
    let hq : i < length qs = omega (arith, b.inside, e.even) in
    let ih = give_at l W (slice_set rs i 0) (slice_set qs i y) (enough_next l W rs qs i y b.inside e) k in
    ⊎_elim
    (λ s. ⊎_elim
    (λ a. inr (let z = get_or-set_same qs i y 0 hq in let w : slice_index_or (slice_set qs i y) k 0 ≡ slice_index_or (slice_set qs i y) i 0 = ap (λ j. slice_index (slice_set qs i y) j) s in let v : slice_index_or qs k 0 ≡ slice_index_or qs i 0 = ap (λ j. slice_index qs j) s in omega arith, subst (λ (j : ℕ). 0 < slice_index rs j) (sym s) b.some))
    (λ a. absurd (not-suc-le-zero {n = 0} (let z = get_or-set_same rs i 0 0 b.inside in let w : slice_index_or (slice_set rs i 0) k 0 ≡ slice_index_or (slice_set rs i 0) i 0 = ap (λ j. slice_index (slice_set rs i 0) j) s in omega (arith, a.1))))
    ih)
    (λ d. let q = get_or-set_other qs i k y 0 d in let r = get_or-set_other rs i k 0 0 d in
    ⊎_elim (λ a. inl (a ∙ q)) (λ a. inr (omega (arith, a.0), omega (arith, a.1))) ih)
    (cases_eq k i)

-- the largest gets its haler at once, and keeps it
give_largest : (l W : ℕ) (rs qs : List ℕ) → Enough (suc l) W rs qs → slice_index qs (largest rs) < slice_index (give (suc l) rs qs) (largest rs)
give_largest l W rs qs e =
    let b = largest_is rs (some_left l W rs qs e) in
    let i = largest rs in
    let y = slice_index qs i + 1 in
    let z = get_or-set_same qs i y 0 (omega (arith, b.inside, e.even)) in
    ⊎_elim (λ a. omega arith) (λ a. omega (arith, a.0)) (give_at l W (slice_set rs i 0) (slice_set qs i y) (enough_next l W rs qs i y b.inside e) i)

-- who got one more comes before who did not
pub give_order : (l W : ℕ) (rs qs : List ℕ) → Enough l W rs qs → (j k : ℕ) → slice_index (give l rs qs) j ≡ slice_index qs j + 1 → slice_index (give l rs qs) k ≡ slice_index qs k → Ahead rs j k
give_order zero W rs qs e j k p u = absurd (not-suc-le-zero {n = 0} (omega arith))
give_order (suc l) W rs qs e j k p u =
    let b = largest_is rs (some_left l W rs qs e) in
    let i = largest rs in
    let y = slice_index qs i + 1 in
    let g = give_largest l W rs qs e in
    let away : k ≡ i → ⊥ = λ s.
    let v : slice_index_or (give (suc l) rs qs) k 0 ≡ slice_index_or (give (suc l) rs qs) i 0 = ap (λ n. slice_index (give (suc l) rs qs) n) s in
    let w : slice_index_or qs k 0 ≡ slice_index_or qs i 0 = ap (λ n. slice_index qs n) s in
    not-suc-le-zero {n = 0} (omega arith) in
    ⊎_elim
    (λ s. subst (λ (n : ℕ). Ahead rs n k) (sym s) (b.ahead k away))
    (λ d.
    let rj = get_or-set_other rs i j 0 0 d in
    let rk = get_or-set_other rs i k 0 0 away in
    let qj = get_or-set_other qs i j y 0 d in
    let qk = get_or-set_other qs i k y 0 away in
    ⊎_elim
    (λ a. inl (omega arith))
    (λ a. inr (omega (arith, a.0), a.1))
    (give_order l W (slice_set rs i 0) (slice_set qs i y) (enough_next l W rs qs i y b.inside e) j k (omega arith) (omega arith)))
    (cases_eq j i)

-- Floors and remainders

-- the floors by W and the remainders make up the whole
divided : (m W : ℕ) (ws : List ℕ) → sum_n (map (λ w. m * w / W) ws) * W + sum_n (map (λ w. m * w % W) ws) ≡ m * sum_n ws
divided m W [] = omega (arith, mul-zero m)
divided m W (w ∷ ws) = omega (arith, divided m W ws, div-add-mod' (m * w) W)

rests_below : (m W : ℕ) (ws : List ℕ) (k : ℕ) → 0 < W → slice_index (map (λ w. m * w % W) ws) k < W
rests_below m W [] k p = p
rests_below m W (w ∷ ws) zero p = mod_below (m * w) W p
rests_below m W (w ∷ ws) (suc k) p = rests_below m W ws k p

-- the floors add up to no more than is shared
pub floors_sum : (m : ℕ) (ws : List ℕ) → 0 < sum_n ws → sum_n (floors m ws) ≤ m
floors_sum m ws p = let e = divided m (sum_n ws) ws in le_of_mul-le-mul_right {k = sum_n ws} (omega arith) p

pub leftover_is : (m : ℕ) (ws : List ℕ) → 0 < sum_n ws → leftover m ws ≡ m - sum_n (floors m ws)
leftover_is m ws p = cond-true (nat_lt 0 (sum_n ws)) _ _ (lt-ltb 0 (sum_n ws) p)

pub enough : (m : ℕ) (ws : List ℕ) → 0 < sum_n ws → Enough (leftover m ws) (sum_n ws) (rests m ws) (floors m ws)
enough m ws p =
    let W = sum_n ws in
    let Q = sum_n (floors m ws) in
    let e = divided m W ws in
    let le = floors_sum m ws p in
    let d : leftover m ws + Q ≡ m = omega (arith, leftover_is m ws p) in
    let t : (leftover m ws + Q) * W ≡ m * W = ap (λ n. n * W) d in
    record {
      even = length-map ws (λ w. m * w % W) ∙ sym (length-map ws (λ w. m * w / W));
      sum = omega arith;
      each = λ k. rests_below m W ws k p;
    }

floors_at : (m : ℕ) (ws : List ℕ) (k : ℕ) → k < length ws → slice_index (floors m ws) k ≡ m * slice_index ws k / sum_n ws
floors_at m ws k h = get_or-map (λ w. m * w / sum_n ws) ws k 0 0 h

rests_at : (m : ℕ) (ws : List ℕ) (k : ℕ) → k < length ws → slice_index (rests m ws) k ≡ m * slice_index ws k % sum_n ws
rests_at m ws k h = get_or-map (λ w. m * w % sum_n ws) ws k 0 0 h

pub no_weight : (m : ℕ) (ws : List ℕ) → sum_n ws ≡ 0 → handed m ws ≡ floors m ws
no_weight m ws e = ap (λ l. give l (rests m ws) (floors m ws)) (ap (λ W. cond (nat_lt 0 W) (m - sum_n (floors m ws)) 0) e)

floors_none : (m : ℕ) (us : List ℕ) (k : ℕ) → slice_index (map (λ w. m * w / 0) us) k ≡ 0
floors_none m [] k = refl
floors_none m (w ∷ us) zero = div-zero (m * w)
floors_none m (w ∷ us) (suc k) = floors_none m us k

-- The laws

served_at : (m : ℕ) (ws : List ℕ) (k : ℕ) → 0 < sum_n ws → k < length ws → Served (m * slice_index ws k / sum_n ws) (m * slice_index ws k % sum_n ws) (slice_index (handed m ws) k)
served_at m ws k p h =
    let x = slice_index_or (handed m ws) k 0 in
    subst (λ (q : ℕ). Served q (m * slice_index ws k % sum_n ws) x) (floors_at m ws k h)
    (subst (λ (r : ℕ). Served (slice_index (floors m ws) k) r x) (rests_at m ws k h) (give_at _ (sum_n ws) _ _ (enough m ws p) k))

near_served : (m W w x : ℕ) → 0 < W → Served (m * w / W) (m * w % W) x → (x * W < m * w + W) × (m * w < x * W + W)
near_served m W w x p s =
    let d = div-add-mod' (m * w) W in
    let r = mod_below (m * w) W p in
    ⊎_elim
    (λ e. let t : x * W ≡ m * w / W * W = ap (λ n. n * W) e in (omega arith, omega arith))
    (λ e. let t : x * W ≡ (m * w / W + 1) * W = ap (λ n. n * W) e.0 in (omega (arith, e.1), omega (arith, e.1)))
    s

shares_none : (m : ℕ) (ws : List ℕ) (k : ℕ) → sum_n ws ≡ 0 → slice_index (handed m ws) k ≡ 0
shares_none m ws k e = ap (λ (xs : List ℕ). slice_index xs k) (no_weight m ws e) ∙ ap (λ W. slice_index (map (λ w. m * w / W) ws) k) e ∙ floors_none m ws k

shares_nothing : (m : ℕ) (ws : List ℕ) (k : ℕ) → k < length ws → slice_index ws k ≡ 0 → slice_index (handed m ws) k ≡ 0
shares_nothing m ws k h e =
    let W = sum_n ws in
    let z : m * slice_index ws k / W ≡ 0 = ap (λ w. m * w / W) e ∙ ap (λ n. n / W) (mul-zero m) ∙ zero-div W in
    let r : m * slice_index ws k % W ≡ 0 = ap (λ w. m * w % W) e ∙ ap (λ n. n % W) (mul-zero m) ∙ zero-mod W in
    ⊎_elim
    (λ p. ⊎_elim (λ s. s ∙ z) (λ s. absurd (not-suc-le-zero {n = 0} (omega (arith, s.1)))) (served_at m ws k p h))
    (λ n. shares_none m ws k (omega arith))
    (cases_lt 0 W)

pub handed_splits : Splits handed
handed_splits = record {
  len = λ m ws. give_length (leftover m ws) (rests m ws) (floors m ws) ∙ length-map ws (λ w. m * w / sum_n ws);
  whole = λ m ws p. omega (arith, give_sum _ _ _ _ (enough m ws p), leftover_is m ws p, floors_sum m ws p);
  nothing = shares_nothing;
  fair = λ m ws k p h. near_served m (sum_n ws) (slice_index ws k) _ p (served_at m ws k p h);
  none = shares_none;
}
