-- A newly opened book reflects the empty history, and a book that reflects a history goes on doing so, entry by entry. Assumes nothing.
use Rattle.std.proofs.Common.{◌≡◌, ℕ, zero, suc, ◌+◌, ◌*◌, Bool, true, false, cond, not, eqb, ◌∷◌, ℤ, pos, ◌+ℤ◌, is_some, Some, None, Ok, Err, Option, unwrap_or, sym, refl, ap, ◌∙◌, subst, add-zero, arith}
use lib.IntN.{+ℤ_idr}
use Rattle.std.proofs.lemmas.Bool.{cond-true, eqb-true, true≢false}
use Rattle.hourly.specs.Cells.{CellFigures}
use Rattle.hourly.specs.Records.{no_deliveries, record_plain, record_read}
use Rattle.entries.specs.declared.entry.DayState.{DayState}
use Rattle.entries.specs.declared.entry.DayState.TheVariants.{Open}
use Rattle.entries.specs.declared.entry.Entry.{Entry}
use Rattle.entries.specs.declared.entry.Entry.TheVariants.{Deposit, Withdraw, Register, Market, Close, Regulate, Meter, Evaluate}
use Rattle.entries.specs.declared.entry.Sizes.{Sizes}
use Rattle.entries.specs.declared.refusal.Refusal.{Refusal}
use Rattle.entries.specs.declared.refusal.Refusal.TheVariants.{NotAdmitted, WrongSize}
use Rattle.entries.specs.declared.reply.Receipt.TheVariants.{Accepted}
use Rattle.entries.specs.Fields.{field_checks}
use Rattle.entries.specs.States.{after}
use Rattle.entries.proofs.Passed.{passed}
use Rattle.book.specs.declared.account.Account.{Account}
use Rattle.book.specs.Standing.{Standing, Terms, index}
use Rattle.book.specs.Effects.{traded}
use Rattle.book.specs.Checks.{book_checks, refusal_at, state_check}
use Rattle.book.specs.Held.{Held, fits, record_at, standing_on}
use Rattle.book.specs.Posting.{after_refusal, afterwards, posted, refusal_on, replied_by}
use Rattle.runs.specs.After.{After, account_after, cell_after, deliveries_after, reading_by, regulating_by, state_after, tenths_by}
use Rattle.runs.proofs.Level.{after_holds}
use Rattle.runs.proofs.Opening.{account-opened, cell-opened, opened_keeps, replicate_at}
use Rattle.runs.proofs.Pages.{sizes-kept}
use Rattle.runs.proofs.Taken.{both_pass}
use Rattle.histories.specs.Histories.{History, count, moved_by, moves, or_else, standing, step}
use Rattle.histories.specs.Agreement.{Agrees, OpenedReflects, PostedFollows, Reflects}
use Rattle.histories.proofs.Alike.{refusal-same}

pub opened-reflects : OpenedReflects
opened-reflects m ok = record {
  kept = opened_keeps m.sizes ok;
  sizes = refl;
  figures = record {
    cell = λ p d t _ _ _. cell-opened m.sizes p d t;
    deliveries = λ d t _ _. ap record_read (replicate_at (m.sizes.days * 24) (record_at d t) (record_plain no_deliveries));
    hours = λ d _. refl;
    state = λ d _. replicate_at 62 d Open;
    account = λ p _. account-opened m.sizes p;
    operator = refl;
  };
}

-- What a refused entry adds: nothing

same-cell : (c : CellFigures) → record { position = c.position +ℤ pos 0; regulating = c.regulating +ℤ pos 0; tenths = c.tenths +ℤ pos 0; reading = c.reading; last = c.last } ≡ c
same-cell c =
    ap (λ (z : ℤ). record { position = z; regulating = c.regulating +ℤ pos 0; tenths = c.tenths +ℤ pos 0; reading = c.reading; last = c.last }) (+ℤ_idr c.position)
    ∙ ap (λ (z : ℤ). record { position = c.position; regulating = z; tenths = c.tenths +ℤ pos 0; reading = c.reading; last = c.last }) (+ℤ_idr c.regulating)
    ∙ ap (λ (z : ℤ). record { position = c.position; regulating = c.regulating; tenths = z; reading = c.reading; last = c.last }) (+ℤ_idr c.tenths)

same-cash : (a : Account) → record { cash = a.cash +ℤ pos 0; settled = a.settled } ≡ a
same-cash a = ap (λ (z : ℤ). record { cash = z; settled = a.settled }) (+ℤ_idr a.cash)

pub refused_stays : (m : Terms) (h : History) (e : Entry) (r : Refusal) → Agrees m.sizes (standing m h) (standing m (step e (Err r) ∷ h))
refused_stays m h e r = record {
  cell = λ p d t _ _ _. sym (same-cell ((standing m h).cell p d t));
  deliveries = λ d t _ _. refl;
  hours = λ d _. refl;
  state = λ d _. ap moved_by (sym (add-zero (count (λ g e. moves e d) h)));
  account = λ p _. sym (same-cash ((standing m h).account p));
  operator = refl;
}

-- What an accepted entry adds

-- a reading, or else the one before
reading-next : (e : Entry) (p d t : ℕ) (r : Option ℤ) → reading_by e p d t r ≡ or_else (reading_by e p d t None) r
reading-next (Deposit party haler) p d t r = refl
reading-next (Withdraw party haler) p d t r = refl
reading-next (Register day from to seller buyer kwh) p d t r = refl
reading-next (Market day from to seller buyer kwh price) p d t r = refl
reading-next (Close day) p d t r = refl
reading-next (Regulate day hour party kwh price) p d t r = refl
reading-next (Meter day from to party kwh) p d t r = chosen _ kwh r
  where
    chosen : (b : Bool) (kwh : ℤ) (r : Option ℤ) → cond b (Some kwh) r ≡ or_else (cond b (Some kwh) None) r
    chosen true kwh r = refl
    chosen false kwh r = refl
reading-next (Evaluate day stage) p d t r = refl

-- a day that can be closed has not been moved
closes : (day : ℤ) (n : ℕ) → not (is_some (after (moved_by n) (Close day))) ≡ false → unwrap_or (after (moved_by n) (Close day)) (moved_by n) ≡ moved_by (n + 1)
closes day zero ok = refl
closes day (suc zero) ok = absurd (true≢false ok)
closes day (suc (suc zero)) ok = absurd (true≢false ok)
closes day (suc (suc (suc zero))) ok = absurd (true≢false ok)
closes day (suc (suc (suc (suc n)))) ok = absurd (true≢false ok)

-- the state of a day after an accepted entry
state-next : (m : Terms) (v : Standing) (e : Entry) (d n : ℕ) → v.state d ≡ moved_by n → refusal_at m v e ≡ None → state_after e d (moved_by n) ≡ moved_by (n + cond (moves e d) 1 0)
state-next m v (Deposit party haler) d n s ok = ap moved_by (sym (add-zero n))
state-next m v (Withdraw party haler) d n s ok = ap moved_by (sym (add-zero n))
state-next m v (Register day from to seller buyer kwh) d n s ok = ap moved_by (sym (add-zero n))
state-next m v (Market day from to seller buyer kwh price) d n s ok = ap moved_by (sym (add-zero n))
state-next m v (Close day) d n s ok = go (eqb d (index day)) refl
  where
    go : (b : Bool) → eqb d (index day) ≡ b → cond b (unwrap_or (after (moved_by n) (Close day)) (moved_by n)) (moved_by n) ≡ moved_by (n + cond b 1 0)
    go true is =
        let e = Close day in
        let a = both_pass (field_checks m.sizes e) (book_checks m v e) ok in
        let b = passed (state_check v e day).fails (state_check v e day).refusal None a.1 in
        let here : v.state (index day) ≡ moved_by n = ap v.state (sym (eqb-true d (index day) is)) ∙ s in
        closes day n (ap (λ (x : DayState). not (is_some (after x (Close day)))) (sym here) ∙ b.0)
    go false is = ap moved_by (sym (add-zero n))
state-next m v (Regulate day hour party kwh price) d n s ok = ap moved_by (sym (add-zero n))
state-next m v (Meter day from to party kwh) d n s ok = ap moved_by (sym (add-zero n))
state-next m v (Evaluate day stage) d n s ok =
    let e = Evaluate day stage in
    let a = both_pass (field_checks m.sizes e) (book_checks m v e) ok in
    absurd (true≢false (passed true (NotAdmitted (v.state (index day))) None a.1).0)

-- every figure of a history after an accepted entry is as the entry makes it
pub accepted_makes : (m : Terms) (h : History) (e : Entry) → refusal_at m (standing m h) e ≡ None → After m.sizes (standing m h) e (standing m (step e (Ok Accepted) ∷ h))
accepted_makes m h e ok = record {
  cell = λ p d t _ _ _.
      let c = (standing m h).cell p d t in
      ap (λ (r : Option ℤ). record { position = c.position +ℤ traded e p d t; regulating = c.regulating +ℤ regulating_by e p d t; tenths = c.tenths +ℤ tenths_by e p d t; reading = r; last = c.last }) (sym (reading-next e p d t c.reading));
  deliveries = λ d t _ _. refl;
  hours = λ d. refl;
  state = λ d _. sym (state-next m (standing m h) e d (count (λ g e. moves e d) h) refl ok);
  account = λ p _. refl;
  operator = refl;
}

-- Both

module _ (m : Terms) (h : History) (b : Held) (r : Reflects m h b) where
  -- the book refuses what the history refuses
  pub refusal_of : (e : Entry) → refusal_on m b e ≡ refusal_at m (standing m h) e
  unfolding refusal_on
  refusal_of e = cond-true (fits b) (refusal_at m (standing_on b) e) (Some WrongSize) r.kept.fitting ∙ refusal-same m (standing_on b) (standing m h) r.figures (λ d. omega arith) e

  refused : (e : Entry) (x : Refusal) → Reflects m (step e (Err x) ∷ h) b
  refused e x =
      let f = r.figures in
      let s = refused_stays m h e x in
      record {
        kept = r.kept;
        sizes = r.sizes;
        figures = record {
          cell = λ p d t i j k. f.cell p d t i j k ∙ s.cell p d t i j k;
          deliveries = λ d t j k. f.deliveries d t j k ∙ s.deliveries d t j k;
          hours = λ d j. f.hours d j ∙ s.hours d j;
          state = λ d j. f.state d j ∙ s.state d j;
          account = λ p i. f.account p i ∙ s.account p i;
          operator = f.operator ∙ s.operator;
        };
      }

  taken : (e : Entry) → refusal_on m b e ≡ None → Reflects m (step e (Ok Accepted) ∷ h) (posted b e)
  taken e none =
      let f = r.figures in
      let both = after_holds m b e r.sizes r.kept none in
      let w : After m.sizes (standing_on b) e (standing_on (posted b e)) = subst (λ (s : Sizes). After s (standing_on b) e (standing_on (posted b e))) (sym r.sizes) both.1 in
      let s = accepted_makes m h e (sym (refusal_of e) ∙ none) in
      record {
        kept = both.0;
        sizes = r.sizes ∙ sym (sizes-kept b e);
        figures = record {
          cell = λ p d t i j k. w.cell p d t i j k ∙ ap (cell_after e p d t) (f.cell p d t i j k) ∙ sym (s.cell p d t i j k);
          deliveries = λ d t j k. w.deliveries d t j k ∙ ap (deliveries_after e d t) (f.deliveries d t j k) ∙ sym (s.deliveries d t j k);
          hours = λ d j. w.hours d ∙ f.hours d j ∙ sym (s.hours d);
          state = λ d j. w.state d j ∙ ap (state_after e d) (f.state d j) ∙ sym (s.state d j);
          account = λ p i. w.account p i ∙ ap (account_after e p) (f.account p i) ∙ sym (s.account p i);
          operator = w.operator ∙ f.operator ∙ sym s.operator;
        };
      }

  either : (e : Entry) (o : Option Refusal) → refusal_on m b e ≡ o → Reflects m (step e (replied_by o) ∷ h) (after_refusal o b (posted b e))
  either e (Some x) is = refused e x
  either e None is = taken e is

pub posted_follows : PostedFollows
unfolding afterwards
posted_follows m b e h r = (ap replied_by (refusal_of m h b r e), either m h b r e (refusal_on m b e) refl)
