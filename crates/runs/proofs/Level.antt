-- Positions and cash of all parties together, entry by entry, and the laws over any list of entries. Assumes nothing.
use Rattle.std.proofs.Common.{◌≡◌, ℕ, ◌<◌, ◌≤◌, Bool, true, false, cond, List, [], ◌∷◌, ℤ, pos, ◌+ℤ◌, neg_ℤ, nat_abs, Some, None, Option, sym, refl, ap, ◌∙◌, subst, ap₂, arith}
use lib.IntN.{+ℤ_assoc, +ℤ_idl, +ℤ_idr, +ℤ_invr}
use Rattle.hourly.specs.Cells.{CellFigures}
use Rattle.entries.specs.Sane.{Numbered, Sane, Traders}
use Rattle.entries.specs.declared.entry.Entry.{Entry}
use Rattle.entries.specs.declared.entry.Entry.TheVariants.{Deposit, Withdraw, Register, Market, Close, Regulate, Meter, Evaluate}
use Rattle.entries.specs.declared.entry.Sizes.{Sizes}
use Rattle.entries.specs.declared.refusal.Refusal.{Refusal}
use Rattle.book.specs.declared.account.Account.{Account}
use Rattle.book.specs.Standing.{Terms, index}
use Rattle.book.specs.Effects.{in_hours, market_cash, paid, side, sold, traded}
use Rattle.book.specs.Held.{Held, standing_on}
use Rattle.book.specs.Posting.{after_refusal, afterwards, opened, posted, refusal_on}
use Rattle.runs.specs.Sums.{sum_to}
use Rattle.runs.specs.Kept.{Kept}
use Rattle.runs.specs.Runs.{AfterHolds, CashIs, LawsHold, LevelPositions, brings, paid_in, ran, unless_refused}
use Rattle.runs.proofs.After.{account-figures, after-posted, cell-figures, posted_keeps}
use Rattle.runs.proofs.Opening.{opened-cash, opened_keeps, opened-level}
use Rattle.runs.proofs.Pages.{sizes-kept}
use Rattle.runs.proofs.SumLaws.{sum_add, sum_ext, sum_one, sum_zero}
use Rattle.runs.proofs.Taken.{taken}

-- What an entry adds to all parties together

-- one party's share is the whole
side-sum : (n : ℕ) (party x : ℤ) → Numbered n party → sum_to n (λ p. side party x p) ≡ x
side-sum n party x w =
    let l : 1 ≤ nat_abs party = w.1 in
    let m : nat_abs party ≤ n = w.2 in
    sum_one n (index party) x (omega arith)

-- what one gains the other loses
sides_sum : (s : Sizes) (seller buyer x : ℤ) → Traders s seller buyer → sum_to s.parties (λ p. side seller x p +ℤ side buyer (neg_ℤ x) p) ≡ pos 0
sides_sum s seller buyer x w =
    sum_add s.parties (side seller x) (side buyer (neg_ℤ x))
    ∙ ap₂ ◌+ℤ◌ (side-sum s.parties seller x w.0) (side-sum s.parties buyer (neg_ℤ x) w.1)
    ∙ +ℤ_invr x

sold-sum : (s : Sizes) (seller buyer kwh : ℤ) (i : Bool) → Traders s seller buyer → sum_to s.parties (λ p. cond i (sold seller buyer kwh p) (pos 0)) ≡ pos 0
sold-sum s seller buyer kwh true w = sides_sum s seller buyer kwh w
sold-sum s seller buyer kwh false w = sum_zero s.parties

pub traded-sum : (s : Sizes) (e : Entry) → Sane s e → (d t : ℕ) → sum_to s.parties (λ p. traded e p d t) ≡ pos 0
traded-sum s (Deposit party haler) w d t = sum_zero s.parties
traded-sum s (Withdraw party haler) w d t = sum_zero s.parties
traded-sum s (Register day from to seller buyer kwh) w d t = sold-sum s seller buyer kwh (in_hours day from to d t) w.0
traded-sum s (Market day from to seller buyer kwh price) w d t = sold-sum s seller buyer kwh (in_hours day from to d t) w.0
traded-sum s (Close day) w d t = sum_zero s.parties
traded-sum s (Regulate day hour party kwh price) w d t = sum_zero s.parties
traded-sum s (Meter day from to party kwh) w d t = sum_zero s.parties
traded-sum s (Evaluate day stage) w d t = sum_zero s.parties

pub paid-sum : (s : Sizes) (e : Entry) → Sane s e → sum_to s.parties (λ p. paid e p) ≡ brings e
paid-sum s (Deposit party haler) w = side-sum s.parties party haler w.0
paid-sum s (Withdraw party haler) w = side-sum s.parties party (neg_ℤ haler) w.0
paid-sum s (Register day from to seller buyer kwh) w = sum_zero s.parties
paid-sum s (Market day from to seller buyer kwh price) w = sides_sum s seller buyer (market_cash from to kwh price) w.0
paid-sum s (Close day) w = sum_zero s.parties
paid-sum s (Regulate day hour party kwh price) w = sum_zero s.parties
paid-sum s (Meter day from to party kwh) w = sum_zero s.parties
paid-sum s (Evaluate day stage) w = sum_zero s.parties

-- Entry by entry

-- a book that keeps all of it, with z halers paid in
pub record Whole (m : Terms) (h : Held) (z : ℤ) : Type 0 where
  pub sizes : m.sizes ≡ h.sizes
  pub kept : Kept h
  pub level : LevelPositions h
  pub cash : CashIs h z

accepted : (m : Terms) (h : Held) (z : ℤ) (e : Entry) → Whole m h z → refusal_on m h e ≡ None → Whole m (posted h e) (z +ℤ brings e)
accepted m h z e w none =
    let t = taken m h e w.sizes w.kept.fitting none in
    let n = h.sizes.parties in
    record {
      sizes = w.sizes ∙ sym (sizes-kept h e);
      kept = posted_keeps h e w.kept t;
      level = λ d u hd hu.
          let hd' : d < h.sizes.days = subst (λ (s : Sizes). d < s.days) (sizes-kept h e) hd in
          ap (λ (s : Sizes). sum_to s.parties (λ p. ((standing_on (posted h e)).cell p d u).position)) (sizes-kept h e)
          ∙ sum_ext n (λ p. ((standing_on (posted h e)).cell p d u).position) (λ p. ((standing_on h).cell p d u).position +ℤ traded e p d u) (λ p hp. ap (λ (c : CellFigures). c.position) (cell-figures h e w.kept t p d u hp hd' hu))
          ∙ sum_add n (λ p. ((standing_on h).cell p d u).position) (λ p. traded e p d u)
          ∙ ap₂ ◌+ℤ◌ (w.level d u hd' hu) (traded-sum h.sizes e t.fields d u);
      cash =
          ap (λ (s : Sizes). sum_to s.parties (λ p. ((standing_on (posted h e)).account p).cash)) (sizes-kept h e)
          ∙ sum_ext n (λ p. ((standing_on (posted h e)).account p).cash) (λ p. ((standing_on h).account p).cash +ℤ paid e p) (λ p hp. ap (λ (a : Account). a.cash) (account-figures h e w.kept t p))
          ∙ sum_add n (λ p. ((standing_on h).account p).cash) (λ p. paid e p)
          ∙ ap₂ ◌+ℤ◌ w.cash (paid-sum h.sizes e t.fields);
    }

either : (m : Terms) (h : Held) (z : ℤ) (e : Entry) → Whole m h z → (r : Option Refusal) → refusal_on m h e ≡ r → Whole m (after_refusal r h (posted h e)) (z +ℤ unless_refused r (brings e))
either m h z e w (Some r) is = record { sizes = w.sizes; kept = w.kept; level = w.level; cash = w.cash ∙ sym (+ℤ_idr z) }
either m h z e w None is = accepted m h z e w is

pub ran-whole : (m : Terms) (h : Held) (z : ℤ) (es : List Entry) → Whole m h z → Whole m (ran m h es) (z +ℤ paid_in m h es)
unfolding afterwards
ran-whole m h z [] w = record { sizes = w.sizes; kept = w.kept; level = w.level; cash = w.cash ∙ sym (+ℤ_idr z) }
ran-whole m h z (e ∷ es) w =
    let u : ℤ = unless_refused (refusal_on m h e) (brings e) in
    let rest = paid_in m (afterwards m h e) es in
    subst (Whole m (ran m (afterwards m h e) es)) (+ℤ_assoc z u rest) (ran-whole m (afterwards m h e) (z +ℤ u) es (either m h z e w (refusal_on m h e) refl))

pub laws_hold : LawsHold
laws_hold m ok es =
    let h = opened m.sizes in
    let w = ran-whole m h (pos 0) es (record { sizes = refl; kept = opened_keeps m.sizes ok; level = opened-level m.sizes; cash = opened-cash m.sizes }) in
    record { sizes = sym w.sizes; level = w.level; cash = w.cash ∙ +ℤ_idl (paid_in m h es); pages = w.kept.sound_pages; kept = w.kept }

pub after_holds : AfterHolds
after_holds m h e same k none = let t = taken m h e same k.fitting none in (posted_keeps h e k t, after-posted h e k t)
