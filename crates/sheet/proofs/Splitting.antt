-- A remainder split by a lawful map: weights as signed numbers, parts on a page, and what they add up to. Assumes nothing.
use Rattle.std.proofs.Common.{◌≡◌, ℕ, zero, suc, ◌+◌, ◌-◌, ◌<◌, ◌≤◌, Bool, true, false, cond, ltb, List, [], ◌∷◌, ◌++◌, map, length, get_or, take, replicate, ℤ, pos, ◌+ℤ◌, nat_abs, None, sym, refl, ap, ◌∙◌, subst, le_trans, not-suc-le-zero, arith}
use lib.ListN.{length-map, length-replicate}
use Rattle.std.proofs.lemmas.List.{get_or-map, take_at, replicate-append-replicate}
use Rattle.std.proofs.lemmas.Int.{ints}
use Rattle.std.proofs.lemmas.Bool.{cond_both, ltb-true}
use Rattle.units.specs.Sums.{page, sum_n, sum_z}
use Rattle.units.proofs.Summing.{page-inside, sum_z-page, zeros_at}
use Rattle.sharing.specs.Laws.{Lawful}
use Rattle.sharing.specs.Limits.{refusal, Light}
use Rattle.sharing.proofs.Parts.{page-within}
use Rattle.sharing.proofs.Ranges.{accepted}
use Rattle.sheet.specs.declared.row.Row.{Row}
use Rattle.sheet.specs.Bounds.{Within}
use Rattle.sheet.specs.Evaluation.{ShareMap, added, operator_by, parts_by, weight, weights}

-- Weights

pub signed-weights : (rows : List Row) → map (λ (r : Row). pos (weight r)) rows ≡ map pos (weights rows)
signed-weights [] = refl
signed-weights (r ∷ rows) = ap (λ (xs : List ℤ). pos (weight r) ∷ xs) (signed-weights rows)

pub sum_z_pos : (ws : List ℕ) → sum_z (map pos ws) ≡ pos (sum_n ws)
sum_z_pos [] = refl
sum_z_pos (w ∷ ws) = ap (λ (z : ℤ). pos w +ℤ z) (sum_z_pos ws)

-- the weights of a page, read back
pub weights_taken : (ws : List ℕ) (n : ℕ) → length ws ≡ n → take n (page (map pos ws)) ≡ map pos ws
weights_taken ws n e = take_at (map pos ws) _ n (length-map ws pos ∙ e)

light : (ws : List ℕ) → length ws ≤ 20 → Within 499999 (page (map pos ws)) → Light ws
light ws few h = record {
  few = few;
  each = λ k lt.
      let e : get_or (page (map pos ws)) k (pos 0) ≡ pos (get_or ws k 0) = page-inside (map pos ws) k (omega (arith, length-map ws pos)) ∙ get_or-map pos ws k 0 (pos 0) lt in
      omega (arith, ints, h k);
}

-- no rule refuses the remainder and the weights of an hour
pub admitted : (n : ℤ) (ws : List ℕ) → nat_abs n ≤ 600000000000 → length ws ≤ 20 → Within 499999 (page (map pos ws)) → refusal n (map pos ws) ≡ None
admitted n ws hn few h = accepted n ws hn (light ws few h)

-- Lists added place by place

pub length-added : (xs ys : List ℤ) → length (added xs ys) ≡ length xs
length-added [] ys = refl
length-added (x ∷ xs) [] = refl
length-added (x ∷ xs) (y ∷ ys) = ap suc (length-added xs ys)

pub get_or-added : (xs ys : List ℤ) (k : ℕ) → k < length xs → length xs ≡ length ys → get_or (added xs ys) k (pos 0) ≡ get_or xs k (pos 0) +ℤ get_or ys k (pos 0)
get_or-added [] ys k h e = absurd (not-suc-le-zero h)
get_or-added (x ∷ xs) [] k h e = absurd (not-suc-le-zero {n = length xs} (omega arith))
get_or-added (x ∷ xs) (y ∷ ys) zero h e = refl
get_or-added (x ∷ xs) (y ∷ ys) (suc k) h e = get_or-added xs ys k (omega arith) (omega arith)

pub sum_z-added : (xs ys : List ℤ) → length xs ≡ length ys → sum_z (added xs ys) ≡ sum_z xs +ℤ sum_z ys
sum_z-added [] [] e = refl
sum_z-added [] (y ∷ ys) e = absurd (not-suc-le-zero {n = length ys} (omega arith))
sum_z-added (x ∷ xs) [] e = absurd (not-suc-le-zero {n = length xs} (omega arith))
sum_z-added (x ∷ xs) (y ∷ ys) e = let ih = sum_z-added xs ys (omega arith) in omega (arith, ints)

-- Parts

sum_z_zeros : (n : ℕ) → sum_z (replicate n (pos 0)) ≡ pos 0
sum_z_zeros zero = refl
sum_z_zeros (suc n) = let ih = sum_z_zeros n in omega (arith, ints)

-- parts of zeros, on a page
pub zero_page : (n : ℕ) → n ≤ 20 → page (replicate n (pos 0)) ≡ replicate 20 (pos 0)
zero_page n h =
    let l = length-replicate n (pos 0) in
    let e : n + (20 - n) ≡ 20 = omega arith in
    ap (λ (m : ℕ). replicate n (pos 0) ++ replicate m (pos 0)) (ap (λ (m : ℕ). 20 - m) l)
    ∙ replicate-append-replicate n (20 - n) (pos 0)
    ∙ ap (λ (m : ℕ). replicate m (pos 0)) e

-- a choice of both by one test
pick-both : (b : Bool) (xs ys : List ℤ) (y n : ℤ) → (b ≡ true → sum_z xs +ℤ pos 0 ≡ n) → (b ≡ false → sum_z ys +ℤ y ≡ n) → sum_z (cond b xs ys) +ℤ cond b (pos 0) y ≡ n
pick-both true xs ys y n t f = t refl
pick-both false xs ys y n t f = f refl

-- parts and operator's part make up the remainder
pub parts_make_up : (g : ShareMap) → Lawful g → (n : ℤ) (ws : List ℕ) → sum_z (parts_by g n ws) +ℤ operator_by n ws ≡ n
parts_make_up g laws n ws =
    pick-both (ltb 0 (sum_n ws)) (g n ws) (replicate (length ws) (pos 0)) n n
    (λ t. let w = laws.whole n ws (ltb-true 0 (sum_n ws) t) in omega (arith, ints))
    (λ t. let z = sum_z_zeros (length ws) in omega (arith, ints))

-- so they do on a page
pub parts_whole : (g : ShareMap) → Lawful g → (n : ℤ) (ws : List ℕ) → sum_z (page (parts_by g n ws)) +ℤ operator_by n ws ≡ n
parts_whole g laws n ws = ap (λ (y : ℤ). y +ℤ operator_by n ws) (sum_z-page (parts_by g n ws)) ∙ parts_make_up g laws n ws

-- every weight has a part
pub length-parts : (g : ShareMap) → Lawful g → (n : ℤ) (ws : List ℕ) → length (parts_by g n ws) ≡ length ws
length-parts g laws n ws =
    cond_both (ltb 0 (sum_n ws)) (g n ws) (replicate (length ws) (pos 0)) (λ (xs : List ℤ). length xs ≡ length ws)
    (λ _. laws.len n ws)
    (λ _. length-replicate (length ws) (pos 0))

-- no part is larger than the remainder
pub parts_small : (g : ShareMap) → Lawful g → (n : ℤ) (ws : List ℕ) (m : ℕ) → nat_abs n ≤ m → length ws ≤ 20 → Within m (page (parts_by g n ws))
parts_small g laws n ws m h few k =
    cond_both (ltb 0 (sum_n ws)) (g n ws) (replicate (length ws) (pos 0)) (λ (xs : List ℤ). nat_abs (get_or (page xs) k (pos 0)) ≤ m)
    (λ _. le_trans (page-within g laws n ws k) h)
    (λ _. subst (λ (xs : List ℤ). nat_abs (get_or xs k (pos 0)) ≤ m) (sym (zero_page (length ws) few)) (subst (λ (z : ℤ). nat_abs z ≤ m) (sym (zeros_at 20 k)) (omega arith)))

-- what is known of a page of parts: with the operator's part they make up the remainder, and none is larger than it may be
pub record Divides (n : ℤ) (ws : List ℕ) (m : ℕ) (ps : List ℤ) : Type 0 where
  pub whole : sum_z ps +ℤ operator_by n ws ≡ n
  pub within : Within m ps

pub divides : (g : ShareMap) → Lawful g → (n : ℤ) (ws : List ℕ) (m : ℕ) (ps : List ℤ) → nat_abs n ≤ m → length ws ≤ 20 → ps ≡ page (parts_by g n ws) → Divides n ws m ps
divides g laws n ws m ps h few e = record {
  whole = ap (λ (xs : List ℤ). sum_z xs +ℤ operator_by n ws) e ∙ parts_whole g laws n ws;
  within = subst (Within m) (sym e) (parts_small g laws n ws m h few);
}
