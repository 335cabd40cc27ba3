-- Totals as sums over lists, totals of the same terms, and a trade of nothing. Assumes nothing.
use Rattle.std.proofs.Common.{◌≡◌, ℕ, zero, suc, ◌+◌, ◌*◌, ◌<◌, ◌≤◌, ◌-◌, Bool, true, false, cond, ◌&&◌, ltb, leb, List, [], ◌∷◌, length, get_or, drop, ℤ, pos, ◌+ℤ◌, sym, refl, ap, ◌∙◌, ap₂, arith}
use Rattle.std.specs.List.{enumerate_from, filter, slice_range, sum_by}
use Rattle.std.proofs.lemmas.Int.{ints}
use Rattle.std.proofs.lemmas.List.{get_or-take, get_or-drop}
use Rattle.std.proofs.lemmas.List.Sums.{sum_by-cons}
use Rattle.hourly.specs.declared.plain.PlainCell.{PlainCell}
use Rattle.hourly.specs.Cells.{blank, read}
use Rattle.cover.specs.declared.hour.HourPrices.{HourPrices}
use Rattle.cover.specs.Prices.{exposure}
use Rattle.cover.specs.Need.{added, day_counted, day_in, day_tenths, position_in, position_with, price_at, tenths, tenths_of, tenths_with, total}

-- one term more
pub total_more : (f : ℕ → ℕ) (n : ℕ) → total f (n + 1) ≡ total f n + f n
total_more f n = let e : n + 1 ≡ suc n = omega arith in ap (total f) e

-- totals of terms that are the same below n
pub total_below : (f g : ℕ → ℕ) (n : ℕ) → ((k : ℕ) → k < n → f k ≡ g k) → total f n ≡ total g n
total_below f g zero h = refl
total_below f g (suc n) h = ap₂ ◌+◌ (total_below f g n (λ k l. h k (omega arith))) (h n (omega arith))

-- a total begins with its first term
total_first : (f : ℕ → ℕ) (n : ℕ) → total f (suc n) ≡ f 0 + total (λ k. f (suc k)) n
total_first f zero = omega arith
total_first f (suc n) = omega (arith, total_first f n)

-- a sum over the elements of a list with their places
sum_over : {X : Type 0} (g : ℕ → X → ℕ) (d : X) (n : ℕ) (xs : List X) → sum_by (λ (p : ℕ × X). g p.0 p.1) (enumerate_from n xs) ≡ total (λ k. g (n + k) (get_or xs k d)) (length xs)
sum_over g d n [] = refl
sum_over {X} g d n (x ∷ xs) =
    sum_by-cons (λ (p : ℕ × X). g p.0 p.1) (n, x) (enumerate_from (n + 1) xs)
    ∙ ap₂ ◌+◌ (ap (λ (k : ℕ). g k x) (omega arith))
    (sum_over g d (n + 1) xs ∙ total_below (λ k. g (n + 1 + k) (get_or xs k d)) (λ k. g (n + suc k) (get_or xs k d)) (length xs) (λ k _. ap (λ (i : ℕ). g i (get_or xs k d)) (omega arith)))
    ∙ sym (total_first (λ k. g (n + k) (get_or (x ∷ xs) k d)) (length xs))

-- a sum over the elements that pass a test counts the others as 0
sum_passed : {X : Type 0} (p : X → Bool) (f : X → ℕ) (xs : List X) → sum_by f (filter p xs) ≡ sum_by (λ x. cond (p x) (f x) 0) xs
sum_passed p f [] = refl
sum_passed {X} p f (x ∷ xs) = go (p x) ∙ ap (λ t. cond (p x) (f x) 0 + t) (sum_passed p f xs) ∙ sym (sum_by-cons (λ x. cond (p x) (f x) 0) x xs)
  where
    go : (b : Bool) → sum_by f (cond b (x ∷ filter p xs) (filter p xs)) ≡ cond b (f x) 0 + sum_by f (filter p xs)
    go true = sum_by-cons f x (filter p xs)
    go false = omega arith

-- the tenths of a day, summed over its cells
pub day_sum : (ps : List HourPrices) (row : List PlainCell) (start end : ℕ) (kwh : ℤ) (first n : ℕ) → length row ≡ n → sum_by (λ (p : ℕ × PlainCell). exposure (price_at ps p.0) ((read p.1).position +ℤ added start end kwh (first + p.0))) (enumerate_from 0 row) ≡ day_tenths ps n (λ h. (read (get_or row h blank)).position +ℤ added start end kwh (first + h))
day_sum ps row start end kwh first n long =
    let f : ℕ → PlainCell → ℕ = λ h x. exposure (price_at ps h) ((read x).position +ℤ added start end kwh (first + h)) in
    sum_over f blank 0 row
    ∙ ap (total (λ k. f (0 + k) (get_or row k blank))) long
    ∙ total_below (λ k. f (0 + k) (get_or row k blank)) (λ h. f h (get_or row h blank)) n (λ h _. ap (λ (k : ℕ). f k (get_or row h blank)) (omega arith))

-- the cells of a day are the party's from the day's first place on
pub day_placed : (ps : List HourPrices) (cells : List PlainCell) (start end : ℕ) (kwh : ℤ) (d n : ℕ) → n ≤ 24 → day_tenths ps n (λ h. (read (get_or (slice_range cells (d * 24) (d * 24 + 24)) h blank)).position +ℤ added start end kwh (d * 24 + h)) ≡ day_tenths ps n (position_with cells start end kwh d)
day_placed ps cells start end kwh d n few =
    let at : (h : ℕ) → h < 24 → get_or (slice_range cells (d * 24) (d * 24 + 24)) h blank ≡ get_or cells (d * 24 + h) blank =
    λ h l. get_or-take (d * 24 + 24 - d * 24) (drop (d * 24) cells) h blank (omega (arith, l)) ∙ get_or-drop (d * 24) cells h blank in
    total_below (λ h. exposure (price_at ps h) ((read (get_or (slice_range cells (d * 24) (d * 24 + 24)) h blank)).position +ℤ added start end kwh (d * 24 + h))) (λ h. exposure (price_at ps h) (position_with cells start end kwh d h)) n
    (λ h l. ap (λ (x : PlainCell). exposure (price_at ps h) ((read x).position +ℤ added start end kwh (d * 24 + h))) (at h (omega (arith, l, few))))

-- and those of the days that count, summed over the days
pub days_sum : {D : Type 0} (counts : D → Bool) (past : D) (days : List D) (f : ℕ → ℕ) → sum_by (λ (p : ℕ × D). f p.0) (filter (λ (p : ℕ × D). counts p.1) (enumerate_from 0 days)) ≡ total (λ d. cond (day_in counts past days d) (f d) 0) (length days)
days_sum {D} counts past days f =
    let g : ℕ → D → ℕ = λ d x. cond (counts x) (f d) 0 in
    sum_passed (λ (p : ℕ × D). counts p.1) (λ (p : ℕ × D). f p.0) (enumerate_from 0 days)
    ∙ sum_over g past 0 days
    ∙ total_below (λ k. g (0 + k) (get_or days k past)) (λ d. cond (day_in counts past days d) (f d) 0) (length days) (λ k _. ap (λ (d : ℕ). g d (get_or days k past)) (omega arith))

-- the tenths of the same positions
pub tenths_same : (ps : List HourPrices) (hours : ℕ → ℕ) (counts : ℕ → Bool) (kwh kwh' : ℕ → ℕ → ℤ) → ((d h : ℕ) → kwh d h ≡ kwh' d h) → (days : ℕ) → tenths ps hours counts kwh days ≡ tenths ps hours counts kwh' days
tenths_same ps hours counts kwh kwh' same days =
    total_below (day_counted ps hours counts kwh) (day_counted ps hours counts kwh') days
    (λ d _. ap (λ (t : ℕ). cond (counts d) t 0)
    (total_below (λ h. exposure (price_at ps h) (kwh d h)) (λ h. exposure (price_at ps h) (kwh' d h)) (hours d) (λ h _. ap (exposure (price_at ps h)) (same d h))))

-- nothing, by either way of a test, added to a number
plus_none : (b : Bool) (z : ℤ) → z +ℤ cond b (pos 0) (pos 0) ≡ z
plus_none true z = omega (arith, ints)
plus_none false z = omega (arith, ints)

-- a trade of 0 kWh leaves every position
pub untraded : (cells : List PlainCell) (start end d h : ℕ) → position_with cells start end (pos 0) d h ≡ position_in cells d h
untraded cells start end d h = plus_none (leb start (d * 24 + h) && ltb (d * 24 + h) end) (position_in cells d h)

-- nor does it change the tenths
pub untraded_tenths : {D : Type 0} (counts : D → Bool) (past : D) (ps : List HourPrices) (days : List D) (cells : List PlainCell) (start end : ℕ) (kwh : ℤ) → kwh ≡ pos 0 → tenths_with counts past ps days cells start end kwh ≡ tenths_of counts past ps days cells
untraded_tenths counts past ps days cells start end kwh none =
    ap (tenths_with counts past ps days cells start end) none
    ∙ tenths_same ps (λ d. 24) (day_in counts past days) (position_with cells start end (pos 0)) (position_in cells) (untraded cells start end) (length days)
