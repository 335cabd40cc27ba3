-- A party's need, from its own cells with a trade added and from the figures of the book after the entry. Assumes nothing.
use Rattle.std.proofs.Common.{◌≡◌, ℕ, zero, suc, ◌+◌, ◌*◌, ◌<◌, ◌≤◌, Bool, true, false, cond, ◌&&◌, eqb, ltb, leb, List, length, get_or, drop, ℤ, pos, ◌+ℤ◌, sym, refl, ap, ◌∙◌, ap₂, arith}
use Rattle.std.proofs.lemmas.Bool.{and_parts, and_from, leb-true, ltb-true, eqb-true, le-leb, lt-ltb, eq-eqb}
use Rattle.std.proofs.lemmas.List.{get_or-take, get_or-drop}
use Rattle.hourly.specs.declared.plain.PlainCell.{PlainCell}
use Rattle.hourly.specs.Cells.{blank, read}
use Rattle.cover.specs.declared.hour.HourPrices.{HourPrices}
use Rattle.cover.specs.Prices.{exposure}
use Rattle.cover.specs.Need.{position_in, price_at, rounded_up, total}
use Rattle.needs.specs.Need.{added, counted, day_counted, day_in, need, need_of, need_with, position_with}
use Rattle.entries.specs.declared.entry.DayState.TheVariants.{Open}
use Rattle.entries.specs.declared.entry.Entry.{Entry}
use Rattle.entries.specs.declared.entry.Entry.TheVariants.{Deposit, Withdraw, Register, Market, Close, Regulate, Meter, Evaluate}
use Rattle.entries.specs.declared.entry.Sizes.{Sizes}
use Rattle.entries.specs.Sane.{Ranged, Sane}
use Rattle.book.specs.Standing.{Terms, hours, index}
use Rattle.book.specs.Effects.{sold, traded}
use Rattle.book.specs.Checks.{need_after, need_at, position_after}
use Rattle.book.specs.Held.{Held, standing_on}
use Rattle.book.specs.Sales.{cells_of, states_of, trade_of}

-- totals of terms that are the same below n
total_below : (f g : ℕ → ℕ) (n : ℕ) → ((k : ℕ) → k < n → f k ≡ g k) → total f n ≡ total g n
total_below f g zero h = refl
total_below f g (suc n) h = ap₂ ◌+◌ (total_below f g n (λ k l. h k (omega arith))) (h n (omega arith))

-- the need of the same positions on the same days, of the same hours
pub need-same : (ps : List HourPrices) (hs hs' : ℕ → ℕ) (counts counts' : ℕ → Bool) (kwh kwh' : ℕ → ℕ → ℤ) (days : ℕ) → ((d : ℕ) → d < days → hs d ≡ hs' d) → ((d : ℕ) → d < days → counts d ≡ counts' d) → ((d t : ℕ) → d < days → t < hs d → kwh d t ≡ kwh' d t) → need ps hs counts kwh days ≡ need ps hs' counts' kwh' days
need-same ps hs hs' counts counts' kwh kwh' days sh sc sk =
    ap rounded_up
    (total_below (day_counted ps hs counts kwh) (day_counted ps hs' counts' kwh') days
    (λ d l. ap₂ (λ (b : Bool) (t : ℕ). cond b t 0) (sc d l)
    (total_below (λ t. exposure (price_at ps t) (kwh d t)) (λ t. exposure (price_at ps t) (kwh' d t)) (hs d) (λ t m. ap (exposure (price_at ps t)) (sk d t l m))
    ∙ ap (total (λ t. exposure (price_at ps t) (kwh' d t))) (sh d l))))

-- tests that hold together are the same
same_truth : (a b : Bool) → (a ≡ true → b ≡ true) → (b ≡ true → a ≡ true) → a ≡ b
same_truth true b f g = sym (f refl)
same_truth false true f g = g refl
same_truth false false f g = refl

-- a run of hours lies on its day
run_on_day : (D F H d t : ℕ) → t < 24 → F + H ≤ 24 → (leb (D * 24 + F) (d * 24 + t) && ltb (d * 24 + t) (D * 24 + F + H)) ≡ (eqb d D && (leb F t && ltb t (F + H)))
run_on_day D F H d t lt few =
    same_truth _ _
    (λ e. let p = and_parts (leb (D * 24 + F) (d * 24 + t)) (ltb (d * 24 + t) (D * 24 + F + H)) e in
    let a = leb-true _ _ p.0 in
    let b = ltb-true _ _ p.1 in
    and_from (eqb d D) (leb F t && ltb t (F + H)) (eq-eqb d D (omega arith)) (and_from (leb F t) (ltb t (F + H)) (le-leb F t (omega arith)) (lt-ltb t (F + H) (omega arith))))
    (λ e. let p = and_parts (eqb d D) (leb F t && ltb t (F + H)) e in
    let q = and_parts (leb F t) (ltb t (F + H)) p.1 in
    let a = eqb-true _ _ p.0 in
    let b = leb-true _ _ q.0 in
    let g = ltb-true _ _ q.1 in
    and_from (leb (D * 24 + F) (d * 24 + t)) (ltb (d * 24 + t) (D * 24 + F + H)) (le-leb _ _ (omega arith)) (lt-ltb _ _ (omega arith)))

-- a range of hours ends with the day
pub range_ends : (from to : ℤ) → Ranged from to → index from + hours from to ≤ 24
range_ends from to r = omega (arith, r.0.1, r.0.2, r.1.1, r.1.2, r.2)

nothing-traded : (k : ℕ) → added 0 0 (pos 0) k ≡ pos 0
nothing-traded k = cond_same (leb 0 k && ltb k 0) (pos 0)
  where
    cond_same : (b : Bool) (z : ℤ) → cond b z z ≡ z
    cond_same true z = refl
    cond_same false z = refl

-- what an entry adds to a party's position is its trade in the party's own cells
pub trade_adds : (sizes : Sizes) (e : Entry) → Sane sizes e → (p d t : ℕ) → t < 24 → added (trade_of e p).start (trade_of e p).end (trade_of e p).kwh (d * 24 + t) ≡ traded e p d t
trade_adds sizes (Deposit party haler) s p d t l = nothing-traded (d * 24 + t)
trade_adds sizes (Withdraw party haler) s p d t l = nothing-traded (d * 24 + t)
trade_adds sizes (Register day from to seller buyer kwh) s p d t l =
    ap (λ (b : Bool). cond b (sold seller buyer kwh p) (pos 0)) (run_on_day (index day) (index from) (hours from to) d t l (range_ends from to s.2))
trade_adds sizes (Market day from to seller buyer kwh price) s p d t l =
    ap (λ (b : Bool). cond b (sold seller buyer kwh p) (pos 0)) (run_on_day (index day) (index from) (hours from to) d t l (range_ends from to s.2))
trade_adds sizes (Close day) s p d t l = nothing-traded (d * 24 + t)
trade_adds sizes (Regulate day hour party kwh price) s p d t l = nothing-traded (d * 24 + t)
trade_adds sizes (Meter day from to party kwh) s p d t l = nothing-traded (d * 24 + t)
trade_adds sizes (Evaluate day stage) s p d t l = nothing-traded (d * 24 + t)

-- the position in a party's own cells is the one that the book says
own_position : (h : Held) (p d t : ℕ) → d < h.sizes.days → t < 24 → position_in (cells_of h p) d t ≡ ((standing_on h).cell p d t).position
own_position h p d t ld lt =
    let days = h.sizes.days in
    let a = get_or-take (days * 24) (drop (p * (days * 24)) h.cells) (d * 24 + t) blank (omega arith) in
    let b = get_or-drop (p * (days * 24)) h.cells (d * 24 + t) blank in
    let e : p * (days * 24) + (d * 24 + t) ≡ (p * days + d) * 24 + t = omega arith in
    ap (λ (c : PlainCell). (read c).position) (a ∙ b ∙ ap (λ k. get_or h.cells k blank) e)

own_state : (h : Held) (d : ℕ) → d < h.sizes.days → day_in (states_of h) d ≡ counted ((standing_on h).state d)
own_state h d l = ap counted (get_or-take h.sizes.days h.states d Open l)

-- the need of a party after an entry
pub need-after : (m : Terms) (h : Held) (e : Entry) (p : ℕ) → m.sizes ≡ h.sizes → Sane h.sizes e → length (states_of h) ≡ h.sizes.days → need_with m.table (states_of h) (cells_of h p) (trade_of e p).start (trade_of e p).end (trade_of e p).kwh ≡ need_after m (standing_on h) e p
need-after m h e p sm s ls =
    let t = trade_of e p in
    ap (need m.table (λ d. 24) (day_in (states_of h)) (position_with (cells_of h p) t.start t.end t.kwh)) ls
    ∙ need-same m.table (λ d. 24) (λ d. 24) (day_in (states_of h)) (λ d. counted ((standing_on h).state d)) (position_with (cells_of h p) t.start t.end t.kwh) (position_after (standing_on h) e p) h.sizes.days
    (λ d l. refl)
    (λ d l. own_state h d l)
    (λ d k l lk. ap₂ ◌+ℤ◌ (own_position h p d k l lk) (trade_adds h.sizes e s p d k lk))
    ∙ ap (λ (x : Sizes). need m.table (λ d. 24) (λ d. counted ((standing_on h).state d)) (position_after (standing_on h) e p) x.days) (sym sm)

-- and as it stands
pub need_now : (m : Terms) (h : Held) (p : ℕ) → m.sizes ≡ h.sizes → length (states_of h) ≡ h.sizes.days → need_of m.table (states_of h) (cells_of h p) ≡ need_at m (standing_on h) p
need_now m h p sm ls =
    ap (need m.table (λ d. 24) (day_in (states_of h)) (position_in (cells_of h p))) ls
    ∙ need-same m.table (λ d. 24) (λ d. 24) (day_in (states_of h)) (λ d. counted ((standing_on h).state d)) (position_in (cells_of h p)) (λ d t. ((standing_on h).cell p d t).position) h.sizes.days
    (λ d l. refl)
    (λ d l. own_state h d l)
    (λ d k l lk. own_position h p d k l lk)
    ∙ ap (λ (x : Sizes). need m.table (λ d. 24) (λ d. counted ((standing_on h).state d)) (λ d t. ((standing_on h).cell p d t).position) x.days) (sym sm)
