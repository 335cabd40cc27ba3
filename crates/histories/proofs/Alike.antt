-- Figures that agree within a book's sizes give every entry the same refusal: a number out of range is refused before anything is looked up for it. Assumes nothing.
use Rattle.std.proofs.Common.{◌≡◌, ℕ, zero, suc, ◌+◌, ◌<◌, ◌≤◌, Bool, cond, not, ◌&&◌, List, [], ◌∷◌, ℤ, pos, ◌+ℤ◌, neg_ℤ, is_some, Some, None, Option, sym, refl, ap, ◌∙◌, ap₂, arith}
use lib.Signed.{le_z}
use Rattle.hourly.specs.Bounds.{within}
use Rattle.hourly.specs.Cells.{CellFigures}
use Rattle.hourly.specs.Records.{HourFigures, deliverable}
use Rattle.needs.specs.Need.{counted}
use Rattle.entries.specs.declared.entry.DayState.{DayState}
use Rattle.entries.specs.declared.entry.Entry.{Entry}
use Rattle.entries.specs.declared.entry.Entry.TheVariants.{Deposit, Withdraw, Register, Market, Close, Regulate, Meter, Evaluate}
use Rattle.entries.specs.declared.refusal.Refusal.{Refusal}
use Rattle.entries.specs.declared.refusal.Refusal.TheVariants.{NotAdmitted, KwhBeyond, CashBeyond, NotCovered}
use Rattle.entries.specs.Fields.{Check, field_checks, first_of}
use Rattle.entries.specs.Sane.{Numbered, Ranged, Sane}
use Rattle.entries.specs.States.{after}
use Rattle.entries.proofs.Passed.{earlier, later, sane}
use Rattle.book.specs.declared.account.Account.{Account}
use Rattle.book.specs.Standing.{Standing, Terms, hours, index}
use Rattle.book.specs.Effects.{paid, traded}
use Rattle.book.specs.Checks.{admits, admitted_check, beyond, book_checks, cash_check, cover_check, delivery_check, first, first_beyond, passes_cover, position_after, position_check, refusal_at, state_check}
use Rattle.book.proofs.Covering.{need-same, range_ends}
use Rattle.histories.specs.Agreement.{Agrees}

-- tests that are the same in a range hold first at the same place
first-same : (f g : ℕ → Bool) (a n : ℕ) → ((k : ℕ) → a ≤ k → k < a + n → f k ≡ g k) → first f a n ≡ first g a n
first-same f g a zero e = refl
first-same f g a (suc n) e = ap₂ (λ (b : Bool) (r : Option ℕ). cond b (Some a) r) (e a (omega arith) (omega arith)) (first-same f g (a + 1) n (λ k l m. e k (omega arith) (omega arith)))

below : (n : ℕ) (z : ℤ) → Numbered n z → index z < n
below n z k = omega (arith, k.1, k.2)

module _ (m : Terms) (v w : Standing) (a : Agrees m.sizes v w) (days : (d : ℕ) → v.hours d ≤ 24) where
  covers_same : (e : Entry) (p : ℕ) → p < m.sizes.parties → passes_cover m v e p ≡ passes_cover m w e p
  unfolding passes_cover
  covers_same e p l =
      ap₂ le_z
      (ap pos
      (need-same m.table v.hours w.hours (λ d. counted (v.state d)) (λ d. counted (w.state d)) (position_after v e p) (position_after w e p) m.sizes.days
      a.hours
      (λ d i. ap counted (a.state d i))
      (λ d t i j. let few = days d in ap (λ (c : CellFigures). c.position +ℤ traded e p d t) (a.cell p d t l i (omega arith)))))
      (ap (λ (x : Account). x.cash +ℤ paid e p +ℤ x.settled) (a.account p l))

  state-same : (e : Entry) (day : ℤ) → Numbered m.sizes.days day → state_check v e day ≡ state_check w e day
  state-same e day k = ap (λ (s : DayState). record { fails = not (is_some (after s e)); refusal = NotAdmitted s }) (a.state (index day) (below _ day k))

  admitted-same : (e : Entry) (day : ℤ) → Numbered m.sizes.days day → admitted_check v e day ≡ admitted_check w e day
  admitted-same e day k = ap (λ (s : DayState). record { fails = not (admits s e); refusal = NotAdmitted s }) (a.state (index day) (below _ day k))

  beyond-same : (day from to seller buyer kwh : ℤ) → Numbered m.sizes.days day → Ranged from to → Numbered m.sizes.parties seller → Numbered m.sizes.parties buyer → first_beyond v day from to seller buyer kwh ≡ first_beyond w day from to seller buyer kwh
  beyond-same day from to seller buyer kwh kd kr ks kb =
      first-same (beyond v day seller buyer kwh) (beyond w day seller buyer kwh) (index from) (hours from to)
      (λ t i j. let end = range_ends from to kr in
      ap₂ (λ (x y : CellFigures). not (within 499999 (x.position +ℤ kwh) && within 499999 (y.position +ℤ neg_ℤ kwh)))
      (a.cell (index seller) (index day) t (below _ seller ks) (below _ day kd) (omega arith))
      (a.cell (index buyer) (index day) t (below _ buyer kb) (below _ day kd) (omega arith)))

  delivery_same : (day hour kwh price : ℤ) → Numbered m.sizes.days day → Numbered 24 hour → delivery_check v day hour kwh price ≡ delivery_check w day hour kwh price
  delivery_same day hour kwh price kd kh = ap (λ (f : HourFigures). record { fails = not (deliverable f kwh price); refusal = KwhBeyond hour }) (a.deliveries (index day) (index hour) (below _ day kd) (below 24 hour kh))

  cash-same : (e : Entry) (party : ℤ) → Numbered m.sizes.parties party → cash_check v e party ≡ cash_check w e party
  cash-same e party k = ap (λ (x : Account). record { fails = not (within 100000000000000000 (x.cash +ℤ paid e (index party))); refusal = CashBeyond party }) (a.account (index party) (below _ party k))

  cover_same : (e : Entry) (party : ℤ) → Numbered m.sizes.parties party → cover_check m v e party ≡ cover_check m w e party
  cover_same e party k = ap (λ (b : Bool). record { fails = not b; refusal = NotCovered party }) (covers_same e (index party) (below _ party k))

  -- the same checks, once the fields are in range
  book_same : (e : Entry) → Sane m.sizes e → book_checks m v e ≡ book_checks m w e
  book_same (Deposit party haler) k = ap (λ (c : Check). c ∷ []) (cash-same (Deposit party haler) party k.0)
  book_same (Withdraw party haler) k =
      let e = Withdraw party haler in
      ap₂ (λ (c d : Check). c ∷ d ∷ []) (cash-same e party k.0) (cover_same e party k.0)
  book_same (Register day from to seller buyer kwh) k =
      let e = Register day from to seller buyer kwh in
      let s = k.0.0 in
      let b = k.0.1 in
      ap₂ ◌∷◌ (state-same e day k.1)
      (ap₂ (λ (o : Option ℕ) (cs : List Check). position_check o ∷ cs) (beyond-same day from to seller buyer kwh k.1 k.2 s b)
      (ap₂ (λ (c d : Check). c ∷ d ∷ []) (cover_same e seller s) (cover_same e buyer b)))
  book_same (Market day from to seller buyer kwh price) k =
      let e = Market day from to seller buyer kwh price in
      let s = k.0.0 in
      let b = k.0.1 in
      ap₂ ◌∷◌ (state-same e day k.1)
      (ap₂ (λ (o : Option ℕ) (cs : List Check). position_check o ∷ cs) (beyond-same day from to seller buyer kwh k.1 k.2 s b)
      (ap₂ ◌∷◌ (cash-same e seller s)
      (ap₂ ◌∷◌ (cash-same e buyer b)
      (ap₂ (λ (c d : Check). c ∷ d ∷ []) (cover_same e seller s) (cover_same e buyer b)))))
  book_same (Close day) k = ap (λ (c : Check). c ∷ []) (state-same (Close day) day k)
  book_same (Regulate day hour party kwh price) k =
      ap₂ (λ (c d : Check). c ∷ d ∷ []) (state-same (Regulate day hour party kwh price) day k.1) (delivery_same day hour kwh price k.1 k.2)
  book_same (Meter day from to party kwh) k = ap (λ (c : Check). c ∷ []) (state-same (Meter day from to party kwh) day k.1)
  book_same (Evaluate day stage) k = ap (λ (c : Check). c ∷ []) (admitted-same (Evaluate day stage) day k.0)

  pub refusal-same : (e : Entry) → refusal_at m v e ≡ refusal_at m w e
  refusal-same e = go (first_of (field_checks m.sizes e)) refl
    where
      go : (r : Option Refusal) → first_of (field_checks m.sizes e) ≡ r → refusal_at m v e ≡ refusal_at m w e
      go (Some r) is = earlier (field_checks m.sizes e) (book_checks m v e) r is ∙ sym (earlier (field_checks m.sizes e) (book_checks m w e) r is)
      go None is = later (field_checks m.sizes e) (book_checks m v e) is ∙ ap first_of (book_same e (sane m.sizes e is)) ∙ sym (later (field_checks m.sizes e) (book_checks m w e) is)
