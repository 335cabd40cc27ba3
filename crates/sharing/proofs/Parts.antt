-- By the laws of sharing no part is larger in magnitude than the remainder. Assumes nothing.
use Rattle.std.proofs.Common.{ℕ, ◌+◌, ◌*◌, ◌<◌, ◌≤◌, List, length, get_or, ℤ, pos, ◌*ℤ◌, nat_abs, sym, subst, ⊎_elim, lt_of_mul-lt-mul_right, mul-le-mul_left, arith}
use Rattle.std.proofs.lemmas.Int.{ints, unsigned_abs-mul}
use Rattle.std.proofs.lemmas.Bool.{cases_lt}
use Rattle.units.specs.Sums.{sum_n, page}
use Rattle.units.proofs.Summing.{page-inside, page_past}
use Rattle.sharing.specs.Laws.{Lawful}
use Rattle.sharing.proofs.Signs.{at_most_sum}

some_part_within : (f : ℤ → List ℕ → List ℤ) → Lawful f → (n : ℤ) (ws : List ℕ) (k : ℕ) → 0 < sum_n ws → k < length ws → nat_abs (get_or (f n ws) k (pos 0)) ≤ nat_abs n
some_part_within f laws n ws k p h =
    let W = sum_n ws in
    let w = get_or ws k 0 in
    let x = get_or (f n ws) k (pos 0) in
    let fair = laws.fair n ws k p h in
    let a = unsigned_abs-mul x (pos W) in
    let b = unsigned_abs-mul n (pos w) in
    let m : nat_abs n * w ≤ nat_abs n * W = mul-le-mul_left (nat_abs n) (at_most_sum ws k) in
    let c : nat_abs (x *ℤ pos W) < W + nat_abs (n *ℤ pos w) = omega (arith, ints) in
    let d : nat_abs x * W < (1 + nat_abs n) * W = omega arith in
    omega (arith, lt_of_mul-lt-mul_right W d)

-- no part is larger than the whole, whether there is a weight or not
pub part_within : (f : ℤ → List ℕ → List ℤ) → Lawful f → (n : ℤ) (ws : List ℕ) (k : ℕ) → k < length ws → nat_abs (get_or (f n ws) k (pos 0)) ≤ nat_abs n
part_within f laws n ws k h =
    ⊎_elim
    (λ p. some_part_within f laws n ws k p h)
    (λ z. subst (λ (x : ℤ). nat_abs x ≤ nat_abs n) (sym (laws.none n ws k (omega arith))) (omega arith))
    (cases_lt 0 (sum_n ws))

-- nor is one on the page
pub page-within : (f : ℤ → List ℕ → List ℤ) → Lawful f → (n : ℤ) (ws : List ℕ) (k : ℕ) → nat_abs (get_or (page (f n ws)) k (pos 0)) ≤ nat_abs n
page-within f laws n ws k =
    let l = laws.len n ws in
    ⊎_elim
    (λ lt. subst (λ (z : ℤ). nat_abs z ≤ nat_abs n) (sym (page-inside (f n ws) k lt)) (part_within f laws n ws k (omega arith)))
    (λ ge. subst (λ (z : ℤ). nat_abs z ≤ nat_abs n) (sym (page_past (f n ws) k ge)) (omega arith))
    (cases_lt k (length (f n ws)))
