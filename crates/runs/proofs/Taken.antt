-- What is known of an entry that a book accepts: its fields are in range, and no figure leaves its bounds. Assumes nothing.
--
--   Taken h e   that
--   taken       an accepted entry is such
use Rattle.std.proofs.Common.{◌≡◌, ℕ, zero, suc, ◌+◌, ◌<◌, ◌≤◌, Bool, true, false, cond, not, ◌&&◌, eqb, ltb, leb, List, [], ◌∷◌, ◌++◌, ℤ, pos, ◌+ℤ◌, neg_ℤ, nat_abs, is_some, Some, None, Option, sym, refl, ap, ◌∙◌, subst, ap₂, subst₂, ⊎_elim, arith}
use lib.IntN.{+ℤ_idl, +ℤ_idr}
use lib.Signed.{lt_z}
use Rattle.std.proofs.lemmas.Bool.{and_parts, cases_Bool, cases_eq, cond_both, cond-false, cond-true, eqb-true, leb-true, ltb-true, not-false, true≢false}
use Rattle.hourly.specs.Bounds.{within}
use Rattle.hourly.specs.Records.{HourFigures, deliverable, delivered, takes, with_delivery}
use Rattle.hourly.proofs.Delivering.{delivered_ok}
use Rattle.entries.specs.Fields.{Check, field_checks, first_of}
use Rattle.entries.specs.Sane.{Sane, Traders}
use Rattle.entries.specs.declared.entry.Entry.{Entry}
use Rattle.entries.specs.declared.entry.Entry.TheVariants.{Deposit, Withdraw, Register, Market, Close, Regulate, Meter, Evaluate}
use Rattle.entries.specs.declared.entry.Sizes.{Sizes}
use Rattle.entries.proofs.Passed.{passed, sane}
use Rattle.book.specs.Standing.{Standing, Terms, hours, index}
use Rattle.book.specs.Effects.{in_hours, market_cash, paid, side, sold, traded}
use Rattle.book.specs.Checks.{beyond, book_checks, cash_check, cash_checks, cover_checks, first, first_beyond, kwh_checks, refusal_at, state_checks}
use Rattle.book.specs.Held.{Held, fits, standing_on}
use Rattle.book.specs.Posting.{refusal_on}
use Rattle.runs.specs.After.{deliveries_after}
use Rattle.runs.proofs.Figures.{HourOk, account_on, account_read_ok, cell_on, read_ok, record_on, record_read_ok}

pub record Taken (h : Held) (e : Entry) : Type 0 where
  pub fields : Sane h.sizes e
  pub positions : (p d t : ℕ) → nat_abs (((standing_on h).cell p d t).position +ℤ traded e p d t) ≤ 499999
  pub cash : (p : ℕ) → nat_abs (((standing_on h).account p).cash +ℤ paid e p) ≤ 100000000000000000
  pub room : (d t : ℕ) → HourOk (deliveries_after e d t ((standing_on h).deliveries d t))

-- Checks that passed

-- no check of either list holds
pub both_pass : (cs ds : List Check) → first_of (cs ++ ds) ≡ None → (first_of cs ≡ None) × (first_of ds ≡ None)
both_pass [] ds h = (refl, h)
both_pass (c ∷ cs) ds h =
    let a = passed c.fails c.refusal (first_of (cs ++ ds)) h in
    let b = both_pass cs ds a.1 in
    (cond-false c.fails _ _ a.0 ∙ b.0, b.1)

nowhere : (b : Bool) (k : ℕ) (rest : Option ℕ) → is_some (cond b (Some k) rest) ≡ false → (b ≡ false) × (is_some rest ≡ false)
nowhere true k rest h = absurd (true≢false h)
nowhere false k rest h = (refl, h)

-- where there is no first place, the test holds nowhere
pub first_nowhere : (f : ℕ → Bool) (a n : ℕ) → is_some (first f a n) ≡ false → (k : ℕ) → a ≤ k → k < a + n → f k ≡ false
first_nowhere f a zero h k l m = absurd (omega arith)
first_nowhere f a (suc n) h k l m =
    let p = nowhere (f a) a (first f (a + 1) n) h in
    ⊎_elim
    (λ e. ap f e ∙ p.0)
    (λ ne. first_nowhere f (a + 1) n p.1 k (omega arith) (omega arith))
    (cases_eq k a)

-- the day and the hour of a range
pub record InHours (day from to : ℤ) (d t : ℕ) : Type 0 where
  pub on : d ≡ index day
  pub start : index from ≤ t
  pub end : t < index from + hours from to

pub hour_in : (day from to : ℤ) (d t : ℕ) → in_hours day from to d t ≡ true → InHours day from to d t
hour_in day from to d t h =
    let a = and_parts (eqb d (index day)) (leb (index from) t && ltb t (index from + hours from to)) h in
    let b = and_parts (leb (index from) t) (ltb t (index from + hours from to)) a.1 in
    record { on = eqb-true _ _ a.0; start = leb-true _ _ b.0; end = ltb-true _ _ b.1 }

-- Positions

-- a number that a sale moves one way or the other, or not at all
moved-within : (i s b : Bool) (n : ℕ) (z k : ℤ) → (s ≡ true → b ≡ true → ⊥) → nat_abs z ≤ n → (i ≡ true → s ≡ true → nat_abs (z +ℤ k) ≤ n) → (i ≡ true → b ≡ true → nat_abs (z +ℤ neg_ℤ k) ≤ n) → nat_abs (z +ℤ cond i (cond s k (pos 0) +ℤ cond b (neg_ℤ k) (pos 0)) (pos 0)) ≤ n
moved-within true true true n z k apart kept sells buys = absurd (apart refl refl)
moved-within true true false n z k apart kept sells buys = subst (λ (x : ℤ). nat_abs (z +ℤ x) ≤ n) (sym (+ℤ_idr k)) (sells refl refl)
moved-within true false true n z k apart kept sells buys = subst (λ (x : ℤ). nat_abs (z +ℤ x) ≤ n) (sym (+ℤ_idl (neg_ℤ k))) (buys refl refl)
moved-within true false false n z k apart kept sells buys = subst (λ (x : ℤ). nat_abs x ≤ n) (sym (+ℤ_idr z)) kept
moved-within false s b n z k apart kept sells buys = subst (λ (x : ℤ). nat_abs x ≤ n) (sym (+ℤ_idr z)) kept

-- seller and buyer are counted at two places
pub two_parties : (sizes : Sizes) (seller buyer : ℤ) → Traders sizes seller buyer → (p : ℕ) → eqb p (index seller) ≡ true → eqb p (index buyer) ≡ true → ⊥
two_parties sizes seller buyer w p s b =
    let x : p ≡ index seller = eqb-true _ _ s in
    let y : p ≡ index buyer = eqb-true _ _ b in
    let ls : 1 ≤ nat_abs seller = w.0.1 in
    let lb : 1 ≤ nat_abs buyer = w.1.1 in
    w.2 (omega arith)

-- in an hour of the range neither position passes
parties_within : (v : Standing) (day from to seller buyer kwh : ℤ) (d t : ℕ) → is_some (first_beyond v day from to seller buyer kwh) ≡ false → in_hours day from to d t ≡ true → (nat_abs ((v.cell (index seller) d t).position +ℤ kwh) ≤ 499999) × (nat_abs ((v.cell (index buyer) d t).position +ℤ neg_ℤ kwh) ≤ 499999)
parties_within v day from to seller buyer kwh d t h i =
    let at = hour_in day from to d t i in
    let f : beyond v day seller buyer kwh t ≡ false = first_nowhere (beyond v day seller buyer kwh) (index from) (hours from to) h t at.start at.end in
    let a = and_parts _ _ (not-false _ f) in (
      subst (λ x. nat_abs ((v.cell (index seller) x t).position +ℤ kwh) ≤ 499999) (sym at.on) (leb-true _ _ a.0),
      subst (λ x. nat_abs ((v.cell (index buyer) x t).position +ℤ neg_ℤ kwh) ≤ 499999) (sym at.on) (leb-true _ _ a.1),
    )

pub sale-within : (sizes : Sizes) (v : Standing) (day from to seller buyer kwh : ℤ) → Traders sizes seller buyer → ((p d t : ℕ) → nat_abs (v.cell p d t).position ≤ 499999) → is_some (first_beyond v day from to seller buyer kwh) ≡ false → (p d t : ℕ) → nat_abs ((v.cell p d t).position +ℤ cond (in_hours day from to d t) (sold seller buyer kwh p) (pos 0)) ≤ 499999
sale-within sizes v day from to seller buyer kwh w kept h p d t =
    moved-within (in_hours day from to d t) (eqb p (index seller)) (eqb p (index buyer)) 499999 (v.cell p d t).position kwh
    (two_parties sizes seller buyer w p)
    (kept p d t)
    (λ i s. subst (λ x. nat_abs ((v.cell x d t).position +ℤ kwh) ≤ 499999) (sym (eqb-true p (index seller) s)) (parties_within v day from to seller buyer kwh d t h i).0)
    (λ i b. subst (λ x. nat_abs ((v.cell x d t).position +ℤ neg_ℤ kwh) ≤ 499999) (sym (eqb-true p (index buyer) b)) (parties_within v day from to seller buyer kwh d t h i).1)

-- Cash

-- a party whose cash was checked
payer : (v : Standing) (e : Entry) (q : ℤ) → not (within 100000000000000000 ((v.account (index q)).cash +ℤ paid e (index q))) ≡ false → (p : ℕ) → eqb p (index q) ≡ true → nat_abs ((v.account p).cash +ℤ paid e p) ≤ 100000000000000000
payer v e q h p s = subst (λ x. nat_abs ((v.account x).cash +ℤ paid e x) ≤ 100000000000000000) (sym (eqb-true p (index q) s)) (leb-true _ _ (not-false _ h))

-- and one whose cash does not move
unpaid : (z x : ℤ) → nat_abs z ≤ 100000000000000000 → x ≡ pos 0 → nat_abs (z +ℤ x) ≤ 100000000000000000
unpaid z x h e = subst (λ (y : ℤ). nat_abs (z +ℤ y) ≤ 100000000000000000) (sym e) (subst (λ (y : ℤ). nat_abs y ≤ 100000000000000000) (sym (+ℤ_idr z)) h)

-- Deliveries

takes-parts : (k n : ℕ) (p : ℤ) → (leb 1 n && leb (k + n) 499999 && within 99999 p) ≡ true → (1 ≤ n) × (k + n ≤ 499999) × (nat_abs p ≤ 99999)
takes-parts k n p h =
    let a = and_parts _ _ h in
    let b = and_parts _ _ a.0 in
    (leb-true _ _ b.0, leb-true _ _ b.1, leb-true _ _ a.1)

delivered_either : (f : HourFigures) (n : ℕ) (price : ℤ) (b : Bool) → HourOk f → cond b (takes f.downward n price) (takes f.upward n price) ≡ true → HourOk (cond b (record { upward = f.upward; downward = with_delivery false f.downward n price }) (record { upward = with_delivery true f.upward n price; downward = f.downward }))
delivered_either f n price true k h =
    let a = takes-parts f.downward.kwh n price h in
    record { up = k.up; down = delivered_ok false f.downward.kwh f.downward.total f.downward.extreme n price k.down a.2 a.0 a.1 }
delivered_either f n price false k h =
    let a = takes-parts f.upward.kwh n price h in
    record { up = delivered_ok true f.upward.kwh f.upward.total f.upward.extreme n price k.up a.2 a.0 a.1; down = k.down }

-- an hour that has room for a delivery stays in bounds
pub delivered-within : (f : HourFigures) (kwh price : ℤ) → HourOk f → deliverable f kwh price ≡ true → HourOk (delivered f kwh price)
delivered-within f kwh price k h = delivered_either f (nat_abs kwh) price (lt_z kwh (pos 0)) k h

one_hour : (hour : ℤ) (t : ℕ) → index hour ≤ t → t < index hour + hours hour hour → t ≡ index hour
one_hour hour t l m = omega arith

room_of : (f : ℕ → ℕ → HourFigures) (day hour kwh price : ℤ) → ((d t : ℕ) → HourOk (f d t)) → deliverable (f (index day) (index hour)) kwh price ≡ true → (d t : ℕ) → HourOk (cond (in_hours day hour hour d t) (delivered (f d t) kwh price) (f d t))
room_of f day hour kwh price k h d t =
    cond_both (in_hours day hour hour d t) (delivered (f d t) kwh price) (f d t) HourOk
    (λ i. let at = hour_in day hour hour d t i in
    delivered-within (f d t) kwh price (k d t) (subst₂ (λ x y. deliverable (f x y) kwh price ≡ true) (sym at.on) (sym (one_hour hour t at.start at.end)) h))
    (λ _. k d t)

-- Each kind of entry, from what its checks say

-- an entry that does not touch a figure leaves it in its bounds
still : (n : ℕ) (z : ℤ) → nat_abs z ≤ n → nat_abs (z +ℤ pos 0) ≤ n
still n z h = subst (λ (y : ℤ). nat_abs y ≤ n) (sym (+ℤ_idr z)) h

module _ (h : Held) where
  positions_kept : (p d t : ℕ) → nat_abs ((standing_on h).cell p d t).position ≤ 499999
  positions_kept p d t = (read_ok (cell_on h p d t)).position

  positions_still : (p d t : ℕ) → nat_abs (((standing_on h).cell p d t).position +ℤ pos 0) ≤ 499999
  positions_still p d t = still 499999 ((standing_on h).cell p d t).position (positions_kept p d t)

  cash-kept : (p : ℕ) → nat_abs ((standing_on h).account p).cash ≤ 100000000000000000
  cash-kept p = (account_read_ok (account_on h p)).cash

  cash_still : (p : ℕ) → nat_abs (((standing_on h).account p).cash +ℤ pos 0) ≤ 100000000000000000
  cash_still p = still 100000000000000000 ((standing_on h).account p).cash (cash-kept p)

  room_kept : (d t : ℕ) → HourOk ((standing_on h).deliveries d t)
  room_kept d t = record_read_ok (record_on h d t)

  -- one party's cash moves
  one_pays : (e : Entry) (q x : ℤ) → ((p : ℕ) → paid e p ≡ side q x p) → first_of (cash_check (standing_on h) e q ∷ []) ≡ None → (p : ℕ) → nat_abs (((standing_on h).account p).cash +ℤ paid e p) ≤ 100000000000000000
  one_pays e q x is c p =
      ⊎_elim
      (λ s. payer (standing_on h) e q (passed _ _ _ c).0 p s)
      (λ s. unpaid ((standing_on h).account p).cash (paid e p) (cash-kept p) (is p ∙ cond-false (eqb p (index q)) x (pos 0) s))
      (cases_Bool (eqb p (index q)))

  -- two parties' cash does
  two_pay : (e : Entry) (q r x y : ℤ) → ((p : ℕ) → paid e p ≡ side q x p +ℤ side r y p) → first_of (cash_check (standing_on h) e q ∷ cash_check (standing_on h) e r ∷ []) ≡ None → (p : ℕ) → nat_abs (((standing_on h).account p).cash +ℤ paid e p) ≤ 100000000000000000
  two_pay e q r x y is c p =
      let a = passed (cash_check (standing_on h) e q).fails (cash_check (standing_on h) e q).refusal (first_of (cash_check (standing_on h) e r ∷ [])) c in
      ⊎_elim
      (λ s. payer (standing_on h) e q a.0 p s)
      (λ s. ⊎_elim
      (λ b. payer (standing_on h) e r (passed _ _ _ a.1).0 p b)
      (λ b. unpaid ((standing_on h).account p).cash (paid e p) (cash-kept p) (is p ∙ ap₂ ◌+ℤ◌ (cond-false (eqb p (index q)) x (pos 0) s) (cond-false (eqb p (index r)) y (pos 0) b)))
      (cases_Bool (eqb p (index r))))
      (cases_Bool (eqb p (index q)))

  taken_from : (e : Entry) → Sane h.sizes e → first_of (kwh_checks (standing_on h) e) ≡ None → first_of (cash_checks (standing_on h) e) ≡ None → Taken h e
  taken_from (Deposit party haler) s k c = record { fields = s; positions = positions_still; cash = one_pays (Deposit party haler) party haler (λ _. refl) c; room = room_kept }
  taken_from (Withdraw party haler) s k c = record { fields = s; positions = positions_still; cash = one_pays (Withdraw party haler) party (neg_ℤ haler) (λ _. refl) c; room = room_kept }
  taken_from (Register day from to seller buyer kwh) s k c = record { fields = s; positions = sale-within h.sizes (standing_on h) day from to seller buyer kwh s.0 positions_kept (passed _ _ _ k).0; cash = cash_still; room = room_kept }
  taken_from (Market day from to seller buyer kwh price) s k c = record { fields = s; positions = sale-within h.sizes (standing_on h) day from to seller buyer kwh s.0 positions_kept (passed _ _ _ k).0; cash = two_pay (Market day from to seller buyer kwh price) seller buyer (market_cash from to kwh price) (neg_ℤ (market_cash from to kwh price)) (λ _. refl) c; room = room_kept }
  taken_from (Close day) s k c = record { fields = s; positions = positions_still; cash = cash_still; room = room_kept }
  taken_from (Regulate day hour party kwh price) s k c = record { fields = s; positions = positions_still; cash = cash_still; room = room_of (standing_on h).deliveries day hour kwh price room_kept (not-false _ (passed _ _ _ k).0) }
  taken_from (Meter day from to party kwh) s k c = record { fields = s; positions = positions_still; cash = cash_still; room = room_kept }
  taken_from (Evaluate day stage) s k c = record { fields = s; positions = positions_still; cash = cash_still; room = room_kept }

-- an accepted entry
pub taken : (m : Terms) (h : Held) (e : Entry) → m.sizes ≡ h.sizes → fits h ≡ true → refusal_on m h e ≡ None → Taken h e
unfolding refusal_on
taken m h e same fit accepted =
    let v = standing_on h in
    let all : refusal_at m v e ≡ None = sym (cond-true (fits h) (refusal_at m v e) _ fit) ∙ accepted in
    let a = both_pass (field_checks m.sizes e) (book_checks m v e) all in
    let b = both_pass (state_checks v e) _ a.1 in
    let c = both_pass (kwh_checks v e) _ b.1 in
    let d = both_pass (cash_checks v e) (cover_checks m v e) c.1 in
    taken_from h e (subst (λ s. Sane s e) same (sane m.sizes e a.0)) c.0 d.0
