-- What is known of an entry that is not refused, so that it may be written. Assumes nothing.
use Rattle.std.proofs.Common.{◌≡◌, ℕ, Bool, true, false, cond, not, List, [], ◌∷◌, ◌++◌, Some, None, Ok, Err, Option, sym, refl, ap, ◌∙◌, arith}
use Rattle.std.proofs.lemmas.Bool.{cond-true, cond-false}
use Rattle.entries.specs.declared.entry.Entry.{Entry}
use Rattle.entries.specs.declared.entry.Entry.TheVariants.{Deposit, Withdraw, Register, Market, Close, Regulate, Meter, Evaluate}
use Rattle.entries.specs.declared.refusal.Refusal.{Refusal}
use Rattle.entries.specs.declared.refusal.Refusal.TheVariants.{WrongSize}
use Rattle.entries.specs.declared.entry.Sizes.{Sizes}
use Rattle.entries.specs.Fields.{Check, checked, field_checks, first_of, verdict}
use Rattle.entries.specs.Sane.{Sane}
use Rattle.entries.proofs.Passed.{goes_on, later, passed, sane}
use Rattle.book.specs.Standing.{Terms}
use Rattle.book.specs.Checks.{book_checks, cash_checks, checks, cover_checks, kwh_checks, refusal_at, state_checks}
use Rattle.book.specs.Held.{Fits, Held, fits, standing_on}
use Rattle.book.specs.Posting.{Room, after_refusal, afterwards, posted, refusal_on}
use Rattle.book.proofs.Places.{fitted, fitting}

-- where none of two lists of checks fails, none of the first fails
passed_first : (cs ds : List Check) → first_of (cs ++ ds) ≡ None → first_of cs ≡ None
passed_first [] ds h = refl
passed_first (c ∷ cs) ds h = let p = passed c.fails c.refusal (first_of (cs ++ ds)) h in cond-false c.fails (Some c.refusal) (first_of cs) p.0 ∙ passed_first cs ds p.1

-- a choice that is none where the other way is a refusal
chosen : (b : Bool) (o : Option Refusal) (r : Refusal) → cond b o (Some r) ≡ None → (b ≡ true) × (o ≡ None)
chosen true o r h = (refl, h)
chosen false o r h = absurd (let z : ◌≡◌ {A = ℕ} 0 1 = cc in omega arith)

held_not : (b : Bool) → not b ≡ false → b ≡ true
held_not true h = refl
held_not false h = absurd (let z : ◌≡◌ {A = ℕ} 0 1 = cc in omega arith)

-- no refusal is none
unmet_by : (o : Option Refusal) → verdict o ≡ Ok tt → o ≡ None
unmet_by None h = refl
unmet_by (Some r) h = absurd (let z : ◌≡◌ {A = ℕ} 0 1 = cc in omega arith)

unmet : (cs : List Check) → checked cs ≡ Ok tt → first_of cs ≡ None
unmet cs h = unmet_by (first_of cs) h

met : (o : Option Refusal) (r : Refusal) → verdict o ≡ Err r → o ≡ Some r
met None r h = absurd (let z : ◌≡◌ {A = ℕ} 0 1 = cc in omega arith)
met (Some s) r h = let e : s ≡ r = cc in ap Some e

-- fields that pass are in range
pub sane_by : (sizes : Sizes) (e : Entry) → checked (field_checks sizes e) ≡ Ok tt → Sane sizes e
sane_by sizes e h = sane sizes e (unmet (field_checks sizes e) h)

-- a book that fits refuses by its checks alone
pub by_checks : (m : Terms) (h : Held) (e : Entry) → Fits h → verdict (refusal_on m h e) ≡ checked (checks m (standing_on h) e)
unfolding refusal_on
by_checks m h e f = ap verdict (cond-true (fits h) _ _ (fitted h f))

-- row by row, those of the rows before having passed
pub by_book : (m : Terms) (h : Held) (e : Entry) → Fits h → checked (field_checks m.sizes e) ≡ Ok tt → verdict (refusal_on m h e) ≡ checked (book_checks m (standing_on h) e)
by_book m h e f p = by_checks m h e f ∙ goes_on (field_checks m.sizes e) (book_checks m (standing_on h) e) p

pub by_kwh : (m : Terms) (h : Held) (e : Entry) → Fits h → checked (field_checks m.sizes e) ≡ Ok tt → checked (state_checks (standing_on h) e) ≡ Ok tt → verdict (refusal_on m h e) ≡ checked (kwh_checks (standing_on h) e ++ (cash_checks (standing_on h) e ++ cover_checks m (standing_on h) e))
by_kwh m h e f p q =
    let v = standing_on h in
    by_book m h e f p ∙ goes_on (state_checks v e) (kwh_checks v e ++ (cash_checks v e ++ cover_checks m v e)) q

pub by_cash : (m : Terms) (h : Held) (e : Entry) → Fits h → checked (field_checks m.sizes e) ≡ Ok tt → checked (state_checks (standing_on h) e) ≡ Ok tt → checked (kwh_checks (standing_on h) e) ≡ Ok tt → verdict (refusal_on m h e) ≡ checked (cash_checks (standing_on h) e ++ cover_checks m (standing_on h) e)
by_cash m h e f p q r =
    let v = standing_on h in
    by_kwh m h e f p q ∙ goes_on (kwh_checks v e) (cash_checks v e ++ cover_checks m v e) r

pub by_cover : (m : Terms) (h : Held) (e : Entry) → Fits h → checked (field_checks m.sizes e) ≡ Ok tt → checked (state_checks (standing_on h) e) ≡ Ok tt → checked (kwh_checks (standing_on h) e) ≡ Ok tt → checked (cash_checks (standing_on h) e) ≡ Ok tt → verdict (refusal_on m h e) ≡ checked (cover_checks m (standing_on h) e)
by_cover m h e f p q r s = by_cash m h e f p q r ∙ goes_on (cash_checks (standing_on h) e) (cover_checks m (standing_on h) e) s

-- a delivery whose checks have passed has room
pub room : (m : Terms) (h : Held) (e : Entry) → first_of (book_checks m (standing_on h) e) ≡ None → Room h e
room m h (Deposit party haler) n = tt
room m h (Withdraw party haler) n = tt
room m h (Register day from to seller buyer kwh) n = tt
room m h (Market day from to seller buyer kwh price) n = tt
room m h (Close day) n = tt
room m h (Regulate day hour party kwh price) n =
    let a = passed _ _ _ n in
    let b = passed _ _ _ a.1 in
    held_not _ b.0
room m h (Meter day from to party kwh) n = tt
room m h (Evaluate day stage) n = tt

-- an entry that is not refused
pub record Writable (m : Terms) (h : Held) (e : Entry) : Type 0 where
  pub fits : Fits h
  pub sane : Sane m.sizes e
  pub room : Room h e

pub writable : (m : Terms) (h : Held) (e : Entry) → verdict (refusal_on m h e) ≡ Ok tt → Writable m h e
unfolding refusal_on
writable m h e n =
    let v = standing_on h in
    let a = chosen (fits h) (refusal_at m v e) WrongSize (unmet_by (refusal_on m h e) n) in
    let fields = passed_first (field_checks m.sizes e) (book_checks m v e) a.1 in
    record {
      fits = fitting h a.0;
      sane = sane m.sizes e fields;
      room = room m h e (sym (later (field_checks m.sizes e) (book_checks m v e) fields) ∙ a.1);
    }

-- a refused entry changes nothing, and an accepted one is written
pub unchanged : (m : Terms) (h : Held) (e : Entry) (r : Refusal) → verdict (refusal_on m h e) ≡ Err r → h ≡ afterwards m h e
unfolding afterwards
unchanged m h e r n = ap (λ (o : Option Refusal). after_refusal o h (posted h e)) (sym (met (refusal_on m h e) r n))

pub changed : (m : Terms) (h : Held) (e : Entry) → verdict (refusal_on m h e) ≡ Ok tt → posted h e ≡ afterwards m h e
unfolding afterwards
changed m h e n = ap (λ (o : Option Refusal). after_refusal o h (posted h e)) (sym (unmet_by (refusal_on m h e) n))
