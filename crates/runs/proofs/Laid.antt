-- What lies on the pages after an entry whose fields are in range, kind by kind. Assumes nothing.
use Rattle.std.proofs.Common.{◌≡◌, ℕ, ◌+◌, ◌*◌, ◌<◌, ◌≤◌, Bool, true, false, cond, ◌&&◌, eqb, ltb, leb, List, length, get_or, ℤ, pos, ◌+ℤ◌, ◌*ℤ◌, neg_ℤ, nat_abs, Some, unwrap_or, sym, refl, ap, ◌∙◌, arith}
use lib.IntN.{+ℤ_idl, +ℤ_idr}
use Rattle.std.proofs.lemmas.Nat.{mul-add-lt}
use Rattle.std.proofs.lemmas.Bool.{eqb-true}
use Rattle.std.proofs.lemmas.Bool.Decides.{nat_tests}
use Rattle.hourly.specs.declared.plain.PlainCell.{PlainCell}
use Rattle.hourly.specs.declared.plain.PlainRecord.{PlainRecord}
use Rattle.hourly.specs.Cells.{CellFigures, blank, plain, read, sound}
use Rattle.hourly.specs.Records.{HourFigures, delivered, no_deliveries, record_plain, record_read, record_sound}
use Rattle.rows.specs.Changes.{metered, regulated, relaid, shifted}
use Rattle.entries.specs.Sane.{Numbered, Ranged}
use Rattle.entries.specs.States.{after}
use Rattle.entries.specs.declared.entry.DayState.TheVariants.{Open}
use Rattle.entries.specs.declared.entry.Entry.{Entry}
use Rattle.entries.specs.declared.entry.Sizes.{Sizes}
use Rattle.book.specs.declared.account.Account.{Account}
use Rattle.book.specs.Standing.{hours, index}
use Rattle.book.specs.Effects.{in_hours}
use Rattle.book.specs.Held.{Held, account_read, account_sound, cell_at, no_money, record_at}
use Rattle.book.specs.Posting.{credited, in_row, moved_on, recorded, sale, with_cash}
use Rattle.runs.proofs.Changing.{get_or-changed, get_d_set, length-changed}
use Rattle.runs.proofs.Figures.{cell_on, plain-read, plain_record, read-account, record_on}
use Rattle.runs.proofs.Places.{in_range, same_place}

-- Rows

-- a range of hours of a party on a day
pub record Row (s : Sizes) (party day from to : ℤ) : Type 0 where
  pub party_in : index party < s.parties
  pub day_in : index day < s.days
  pub hours_in : index from + hours from to ≤ 24

pub row_of : (s : Sizes) (party day from to : ℤ) → Numbered s.parties party → Numbered s.days day → Ranged from to → Row s party day from to
row_of s party day from to p d r =
    let p1 : 1 ≤ nat_abs party = p.1 in
    let p2 : nat_abs party ≤ s.parties = p.2 in
    let d1 : 1 ≤ nat_abs day = d.1 in
    let d2 : nat_abs day ≤ s.days = d.2 in
    let f1 : 1 ≤ nat_abs from = r.0.1 in
    let t2 : nat_abs to ≤ 24 = r.1.2 in
    let ft : nat_abs from ≤ nat_abs to = r.2 in
    record { party_in = omega arith; day_in = omega arith; hours_in = omega arith }

-- it lies on the page
row_fits : (s : Sizes) (party day from to : ℤ) → Row s party day from to → cell_at s (index party) (index day) (index from) + hours from to ≤ s.parties * s.days * 24
row_fits s party day from to r =
    let m = mul-add-lt (index party) s.days (index day) s.parties r.party_in r.day_in in
    let o = r.hours_in in
    omega arith

pub length-row : (h : Held) (party day from to : ℤ) (f : CellFigures → CellFigures) (xs : List PlainCell) → Row h.sizes party day from to → length xs ≡ h.sizes.parties * h.sizes.days * 24 → length (in_row h party day from to f xs) ≡ length xs
length-row h party day from to f xs r l = length-changed (relaid f) (cell_at h.sizes (index party) (index day) (index from)) (hours from to) xs (omega (arith, row_fits h.sizes party day from to r))

-- after a change of the row each cell of it is changed, and no other
pub row_laid : (h : Held) (party day from to : ℤ) (f : CellFigures → CellFigures) (xs : List PlainCell) (p d t : ℕ) → Row h.sizes party day from to → length xs ≡ h.sizes.parties * h.sizes.days * 24 → d < h.sizes.days → t < 24 → get_or (in_row h party day from to f xs) (cell_at h.sizes p d t) blank ≡ cond (eqb p (index party) && in_hours day from to d t) (relaid f (get_or xs (cell_at h.sizes p d t) blank)) (get_or xs (cell_at h.sizes p d t) blank)
row_laid h party day from to f xs p d t r l hd ht =
    let x = get_or xs (cell_at h.sizes p d t) blank in
    get_or-changed (relaid f) (cell_at h.sizes (index party) (index day) (index from)) (hours from to) xs (omega (arith, row_fits h.sizes party day from to r)) (cell_at h.sizes p d t) blank
    ∙ ap (λ b. cond b (relaid f x) x) (in_range h.sizes.days p d t (index party) (index day) (index from) (hours from to) hd r.day_in ht r.hours_in)

-- Cells

-- a cell with nothing added
same-cell : (c : CellFigures) → record { position = c.position +ℤ pos 0; regulating = c.regulating +ℤ pos 0; tenths = c.tenths +ℤ pos 0; reading = c.reading; last = c.last } ≡ c
same-cell c = λ i. record { position = +ℤ_idr c.position i; regulating = +ℤ_idr c.regulating i; tenths = +ℤ_idr c.tenths i; reading = c.reading; last = c.last }

pub untouched : (x : PlainCell) → sound x ≡ true → x ≡ plain (record { position = (read x).position +ℤ pos 0; regulating = (read x).regulating +ℤ pos 0; tenths = (read x).tenths +ℤ pos 0; reading = (read x).reading; last = (read x).last })
untouched x s = sym (plain-read x s) ∙ ap plain (sym (same-cell (read x)))

-- a metered cell
pub metered-cell : (b : Bool) (kwh : ℤ) (x : PlainCell) → sound x ≡ true → cond b (relaid (metered kwh) x) x ≡ plain (record { position = (read x).position +ℤ pos 0; regulating = (read x).regulating +ℤ pos 0; tenths = (read x).tenths +ℤ pos 0; reading = cond b (Some kwh) (read x).reading; last = (read x).last })
metered-cell true kwh x s = ap plain (sym (same-cell (metered kwh (read x))))
metered-cell false kwh x s = untouched x s

-- a cell that a delivery is added to, if the hour is its hour and the party its party
pub regulated-cell : (i s : Bool) (kwh price : ℤ) (x : PlainCell) → sound x ≡ true → cond (s && i) (relaid (regulated kwh price) x) x ≡ plain (record { position = (read x).position +ℤ pos 0; regulating = (read x).regulating +ℤ cond i (cond s kwh (pos 0)) (pos 0); tenths = (read x).tenths +ℤ cond i (cond s (kwh *ℤ price) (pos 0)) (pos 0); reading = (read x).reading; last = (read x).last })
regulated-cell true true kwh price x o = ap (λ (z : ℤ). plain (record { position = z; regulating = (read x).regulating +ℤ kwh; tenths = (read x).tenths +ℤ kwh *ℤ price; reading = (read x).reading; last = (read x).last })) (sym (+ℤ_idr (read x).position))
regulated-cell true false kwh price x o = untouched x o
regulated-cell false true kwh price x o = untouched x o
regulated-cell false false kwh price x o = untouched x o

-- a cell whose position moves
moved-cell : (c : CellFigures) (k : ℤ) → shifted k c ≡ record { position = c.position +ℤ k; regulating = c.regulating +ℤ pos 0; tenths = c.tenths +ℤ pos 0; reading = c.reading; last = c.last }
moved-cell c k = λ i. record { position = c.position +ℤ k; regulating = sym (+ℤ_idr c.regulating) i; tenths = sym (+ℤ_idr c.tenths) i; reading = c.reading; last = c.last }

-- the seller's and the buyer's row changed one after the other
pub sold-cell : (i s b : Bool) (kwh : ℤ) (x : PlainCell) → (s ≡ true → b ≡ true → ⊥) → sound x ≡ true → cond (b && i) (relaid (shifted (neg_ℤ kwh)) (cond (s && i) (relaid (shifted kwh) x) x)) (cond (s && i) (relaid (shifted kwh) x) x) ≡ plain (record { position = (read x).position +ℤ cond i (cond s kwh (pos 0) +ℤ cond b (neg_ℤ kwh) (pos 0)) (pos 0); regulating = (read x).regulating +ℤ pos 0; tenths = (read x).tenths +ℤ pos 0; reading = (read x).reading; last = (read x).last })
sold-cell true true true kwh x apart o = absurd (apart refl refl)
sold-cell true true false kwh x apart o = ap plain (moved-cell (read x) kwh ∙ ap (λ (z : ℤ). record { position = (read x).position +ℤ z; regulating = (read x).regulating +ℤ pos 0; tenths = (read x).tenths +ℤ pos 0; reading = (read x).reading; last = (read x).last }) (sym (+ℤ_idr kwh)))
sold-cell true false true kwh x apart o = ap plain (moved-cell (read x) (neg_ℤ kwh) ∙ ap (λ (z : ℤ). record { position = (read x).position +ℤ z; regulating = (read x).regulating +ℤ pos 0; tenths = (read x).tenths +ℤ pos 0; reading = (read x).reading; last = (read x).last }) (sym (+ℤ_idl (neg_ℤ kwh))))
sold-cell true false false kwh x apart o = untouched x o
sold-cell false true true kwh x apart o = untouched x o
sold-cell false true false kwh x apart o = untouched x o
sold-cell false false true kwh x apart o = untouched x o
sold-cell false false false kwh x apart o = untouched x o

-- a sale on the page
pub sale-laid : (h : Held) (day from to seller buyer kwh : ℤ) (p d t : ℕ) → Row h.sizes seller day from to → Row h.sizes buyer day from to → (eqb p (index seller) ≡ true → eqb p (index buyer) ≡ true → ⊥) → length h.cells ≡ h.sizes.parties * h.sizes.days * 24 → d < h.sizes.days → t < 24 → sound (cell_on h p d t) ≡ true → get_or (sale h day from to seller buyer kwh) (cell_at h.sizes p d t) blank ≡ plain (record { position = (read (cell_on h p d t)).position +ℤ cond (in_hours day from to d t) (cond (eqb p (index seller)) kwh (pos 0) +ℤ cond (eqb p (index buyer)) (neg_ℤ kwh) (pos 0)) (pos 0); regulating = (read (cell_on h p d t)).regulating +ℤ pos 0; tenths = (read (cell_on h p d t)).tenths +ℤ pos 0; reading = (read (cell_on h p d t)).reading; last = (read (cell_on h p d t)).last })
sale-laid h day from to seller buyer kwh p d t rs rb apart l hd ht o =
    let first = in_row h seller day from to (shifted kwh) h.cells in
    row_laid h buyer day from to (shifted (neg_ℤ kwh)) first p d t rb (length-row h seller day from to (shifted kwh) h.cells rs l ∙ l) hd ht
    ∙ ap (λ (x : PlainCell). cond (eqb p (index buyer) && in_hours day from to d t) (relaid (shifted (neg_ℤ kwh)) x) x) (row_laid h seller day from to (shifted kwh) h.cells p d t rs l hd ht)
    ∙ sold-cell (in_hours day from to d t) (eqb p (index seller)) (eqb p (index buyer)) kwh (cell_on h p d t) apart o

pub length-sale : (h : Held) (day from to seller buyer kwh : ℤ) → Row h.sizes seller day from to → Row h.sizes buyer day from to → length h.cells ≡ h.sizes.parties * h.sizes.days * 24 → length (sale h day from to seller buyer kwh) ≡ length h.cells
length-sale h day from to seller buyer kwh rs rb l =
    let first = length-row h seller day from to (shifted kwh) h.cells rs l in
    length-row h buyer day from to (shifted (neg_ℤ kwh)) (in_row h seller day from to (shifted kwh) h.cells) rb (first ∙ l) ∙ first

-- Records

-- a range of one hour is that hour
one_hour : (day hour : ℤ) (d t : ℕ) → (eqb d (index day) && eqb t (index hour)) ≡ in_hours day hour hour d t
one_hour day hour d t = ap (λ b. eqb d (index day) && b) (single (index hour) (hours hour hour) t (omega arith))
  where
    single : (f n t : ℕ) → n ≡ 1 → eqb t f ≡ (leb f t && ltb t (f + n))
    single f n t e = grind (arith, nat_tests)

-- a record that is laid down again is what it was
relaid_record : (x : PlainRecord) (b : Bool) (g : HourFigures → HourFigures) → record_sound x ≡ true → cond b (record_plain (g (record_read x))) x ≡ record_plain (cond b (g (record_read x)) (record_read x))
relaid_record x true g s = refl
relaid_record x false g s = sym (plain_record x s)

-- a value that stands at one place stands at every place that is the same
at_same : {A : Type 0} (f : ℕ → A) (b : Bool) (x : A) (i k : ℕ) → (b ≡ true → i ≡ k) → cond b (f i) x ≡ cond b (f k) x
at_same f true x i k e = ap f (e refl)
at_same f false x i k e = refl

pub recorded-laid : (h : Held) (day hour kwh price : ℤ) (d t : ℕ) → index day < h.sizes.days → index hour < 24 → length h.records ≡ h.sizes.days * 24 → t < 24 → record_sound (record_on h d t) ≡ true → get_or (recorded h day hour kwh price) (record_at d t) (record_plain no_deliveries) ≡ record_plain (cond (in_hours day hour hour d t) (delivered (record_read (record_on h d t)) kwh price) (record_read (record_on h d t)))
recorded-laid h day hour kwh price d t hD hH l ht s =
    let i = record_at (index day) (index hour) in
    let k = record_at d t in
    let at = λ (n : ℕ). record_plain (delivered (record_read (get_or h.records n (record_plain no_deliveries))) kwh price) in
    get_d_set h.records i k (at i) (record_plain no_deliveries) (omega arith)
    ∙ at_same at (eqb k i) (record_on h d t) i k (λ e. sym (eqb-true k i e))
    ∙ ap (λ b. cond b (at k) (record_on h d t)) (same_place 24 d t (index day) (index hour) ht hH ∙ one_hour day hour d t)
    ∙ relaid_record (record_on h d t) (in_hours day hour hour d t) (λ f. delivered f kwh price) s

-- Accounts

-- halers more for one party
pub credited-laid : (party haler : ℤ) (xs : List Account) (p : ℕ) → index party < length xs → get_or (credited party haler xs) p no_money ≡ cond (eqb p (index party)) (with_cash haler (account_read (get_or xs p no_money))) (get_or xs p no_money)
credited-laid party haler xs p l =
    let at = λ (n : ℕ). with_cash haler (account_read (get_or xs n no_money)) in
    get_d_set xs (index party) p (at (index party)) no_money l
    ∙ at_same at (eqb p (index party)) (get_or xs p no_money) (index party) p (λ e. sym (eqb-true p (index party) e))

-- an account with nothing added
pub same-account : (a : Account) → record { cash = a.cash +ℤ pos 0; settled = a.settled } ≡ a
same-account a = ap (λ (z : ℤ). record { cash = z; settled = a.settled }) (+ℤ_idr a.cash)

pub unpaid_account : (a : Account) → account_sound a ≡ true → a ≡ record { cash = (account_read a).cash +ℤ pos 0; settled = (account_read a).settled }
unpaid_account a o = sym (read-account a o) ∙ sym (same-account (account_read a))

pub paid-account : (b : Bool) (haler : ℤ) (a : Account) → account_sound a ≡ true → cond b (with_cash haler (account_read a)) a ≡ record { cash = (account_read a).cash +ℤ cond b haler (pos 0); settled = (account_read a).settled }
paid-account true haler a o = refl
paid-account false haler a o = unpaid_account a o

-- two parties paid one after the other
pub traded-account : (s b : Bool) (x y : ℤ) (a : Account) → (s ≡ true → b ≡ true → ⊥) → account_sound a ≡ true → cond b (with_cash y (account_read (cond s (with_cash x (account_read a)) a))) (cond s (with_cash x (account_read a)) a) ≡ record { cash = (account_read a).cash +ℤ (cond s x (pos 0) +ℤ cond b y (pos 0)); settled = (account_read a).settled }
traded-account true true x y a apart o = absurd (apart refl refl)
traded-account true false x y a apart o = ap (λ (z : ℤ). record { cash = (account_read a).cash +ℤ z; settled = (account_read a).settled }) (sym (+ℤ_idr x))
traded-account false true x y a apart o = ap (λ (z : ℤ). record { cash = (account_read a).cash +ℤ z; settled = (account_read a).settled }) (sym (+ℤ_idl y))
traded-account false false x y a apart o = unpaid_account a o

-- States

pub moved-laid : (h : Held) (e : Entry) (day : ℤ) (d : ℕ) → index day < length h.states → get_or (moved_on h e day) d Open ≡ cond (eqb d (index day)) (unwrap_or (after (get_or h.states d Open) e) (get_or h.states d Open)) (get_or h.states d Open)
moved-laid h e day d l =
    let at = λ (n : ℕ). unwrap_or (after (get_or h.states n Open) e) (get_or h.states n Open) in
    get_d_set h.states (index day) d (at (index day)) Open l
    ∙ at_same at (eqb d (index day)) (get_or h.states d Open) (index day) d (λ i. sym (eqb-true d (index day) i))
