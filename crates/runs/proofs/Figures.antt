-- Cells, records and accounts: what is read is in bounds, and what is in bounds is read as it was laid down. Assumes nothing.
use Rattle.std.proofs.Common.{◌≡◌, ℕ, ◌≤◌, Bool, true, false, cond, eqb, get_or, ℤ, pos, nat_abs, is_some, Some, None, Option, unwrap_or, refl, ap, ◌∙◌, ap₂, arith}
use Rattle.std.proofs.lemmas.Int.{ints}
use Rattle.std.proofs.lemmas.Bool.{and_from, and_parts, cond_both, cond-true, eqb-true, le-leb, leb-true}
use Rattle.hourly.specs.declared.plain.PlainCell.{PlainCell}
use Rattle.hourly.specs.declared.plain.PlainRecord.{PlainRecord}
use Rattle.hourly.specs.declared.plain.PlainDeliveries.{PlainDeliveries}
use Rattle.hourly.specs.Bounds.{deliveries_ok, within, within_opt}
use Rattle.hourly.specs.Cells.{CellFigures, blank, cleared, given, plain, read, sound}
use Rattle.hourly.specs.Records.{DirectionFigures, HourFigures, deliveries_given, deliveries_plain, deliveries_sound, no_deliveries, record_plain, record_read, record_sound}
use Rattle.book.specs.declared.account.Account.{Account}
use Rattle.book.specs.Held.{Held, account_read, account_sound, cell_at, no_money, record_at}
use Rattle.runs.specs.Kept.{hour_kwh}

-- what lies on the pages of a book for a party, a day and an hour
abbrev pub cell_on : Held → ℕ → ℕ → ℕ → PlainCell
cell_on h p d t = get_or h.cells (cell_at h.sizes p d t) blank

abbrev pub record_on : Held → ℕ → ℕ → PlainRecord
record_on h d t = get_or h.records (record_at d t) (record_plain no_deliveries)

abbrev pub account_on : Held → ℕ → Account
account_on h p = get_or h.accounts p no_money

-- Cells

-- figures of a cell within the bounds
pub record CellOk (c : CellFigures) : Type 0 where
  pub position : nat_abs c.position ≤ 499999
  pub regulating : nat_abs c.regulating ≤ 999998
  pub tenths : nat_abs c.tenths ≤ 99998800002
  pub reading : within_opt 499999 c.reading ≡ true
  pub last : nat_abs c.last ≤ 630000000000

reading_ok : (m : Bool) (r : ℤ) → within (cond m 499999 0) r ≡ true → within_opt 499999 (cond m (Some r) None) ≡ true
reading_ok true r h = h
reading_ok false r h = refl

given_ok : (x : PlainCell) → sound x ≡ true → CellOk (given x)
given_ok x h =
    let a = and_parts _ _ h in
    let b = and_parts _ _ a.0 in
    let c = and_parts _ _ b.0 in
    let d = and_parts _ _ c.0 in
    record { position = leb-true _ _ d.0; regulating = leb-true _ _ d.1; tenths = leb-true _ _ c.1; reading = reading_ok x.metered x.reading b.1; last = leb-true _ _ a.1 }

cleared_ok : CellOk cleared
cleared_ok = record { position = omega arith; regulating = omega arith; tenths = omega arith; reading = refl; last = omega arith }

-- whatever lies on the page
pub read_ok : (x : PlainCell) → CellOk (read x)
read_ok x = cond_both (sound x) (given x) cleared CellOk (given_ok x) (λ _. cleared_ok)

laid-reading : (o : Option ℤ) → within_opt 499999 o ≡ true → within (cond (is_some o) 499999 0) (unwrap_or o (pos 0)) ≡ true
laid-reading (Some r) h = h
laid-reading None h = refl

pub sound-plain : (c : CellFigures) → CellOk c → sound (plain c) ≡ true
sound-plain c h = and_from _ _ (and_from _ _ (and_from _ _ (and_from _ _ (le-leb _ _ h.position) (le-leb _ _ h.regulating)) (le-leb _ _ h.tenths)) (laid-reading c.reading h.reading)) (le-leb _ _ h.last)

read_back : (o : Option ℤ) → cond (is_some o) (Some (unwrap_or o (pos 0))) None ≡ o
read_back (Some r) = refl
read_back None = refl

pub read_plain : (c : CellFigures) → CellOk c → read (plain c) ≡ c
read_plain c h =
    cond-true (sound (plain c)) (given (plain c)) cleared (sound-plain c h)
    ∙ ap (λ (o : Option ℤ). record { position = c.position; regulating = c.regulating; tenths = c.tenths; reading = o; last = c.last }) (read_back c.reading)

laid_back : (a b c r l : ℤ) (m : Bool) → within (cond m 499999 0) r ≡ true → plain (given (record { position = a; regulating = b; tenths = c; metered = m; reading = r; last = l })) ≡ record { position = a; regulating = b; tenths = c; metered = m; reading = r; last = l }
laid_back a b c r l true h = refl
laid_back a b c r l false h =
    let small : nat_abs r ≤ 0 = leb-true _ _ h in
    let none : pos 0 ≡ r = omega (arith, ints) in
    ap (λ (z : ℤ). record { position = a; regulating = b; tenths = c; metered = false; reading = z; last = l }) none

-- a sound cell lies as its figures are laid down
pub plain-read : (x : PlainCell) → sound x ≡ true → plain (read x) ≡ x
plain-read x h =
    ap plain (cond-true (sound x) (given x) cleared h)
    ∙ laid_back x.position x.regulating x.tenths x.reading x.last x.metered (and_parts _ _ (and_parts _ _ h).0).1

-- Records

-- deliveries of both directions within the bounds
pub record HourOk (f : HourFigures) : Type 0 where
  pub up : deliveries_ok true f.upward.kwh f.upward.total f.upward.extreme ≡ true
  pub down : deliveries_ok false f.downward.kwh f.downward.total f.downward.extreme ≡ true

-- whatever lies on the page
pub record_read_ok : (x : PlainRecord) → HourOk (record_read x)
record_read_ok x =
    cond_both (record_sound x) (record { upward = deliveries_given x.upward; downward = deliveries_given x.downward }) no_deliveries HourOk
    (λ h. let a = and_parts _ _ h in record { up = (and_parts _ _ a.0).0; down = (and_parts _ _ a.1).0 })
    (λ _. record { up = refl; down = refl })

laid-deliveries : (up : Bool) (k : ℕ) (t : ℤ) (o : Option ℤ) → deliveries_ok up k t o ≡ true → deliveries_sound up (deliveries_plain (record { kwh = k; total = t; extreme = o })) ≡ true
laid-deliveries up k t (Some e) h = and_from _ true h refl
laid-deliveries up k t None h = and_from _ true h refl

pub sound_record : (f : HourFigures) → HourOk f → record_sound (record_plain f) ≡ true
sound_record f h = and_from _ _ (laid-deliveries true f.upward.kwh f.upward.total f.upward.extreme h.up) (laid-deliveries false f.downward.kwh f.downward.total f.downward.extreme h.down)

given_back : (d : DirectionFigures) → deliveries_given (deliveries_plain d) ≡ d
given_back d = ap (λ (o : Option ℤ). record { kwh = d.kwh; total = d.total; extreme = o }) (read_back d.extreme)

pub read_record : (f : HourFigures) → HourOk f → record_read (record_plain f) ≡ f
read_record f h =
    cond-true (record_sound (record_plain f)) _ no_deliveries (sound_record f h)
    ∙ ap₂ (λ (u d : DirectionFigures). record { upward = u; downward = d }) (given_back f.upward) (given_back f.downward)

plain-given : (up : Bool) (k : ℕ) (t e : ℤ) (b : Bool) → deliveries_sound up (record { kwh = k; total = t; delivered = b; extreme = e }) ≡ true → deliveries_plain (deliveries_given (record { kwh = k; total = t; delivered = b; extreme = e })) ≡ record { kwh = k; total = t; delivered = b; extreme = e }
plain-given up k t e true h = refl
plain-given up k t e false h =
    let zero : nat_abs e ≡ 0 = eqb-true (nat_abs e) 0 (and_parts (deliveries_ok up k t None) (eqb (nat_abs e) 0) h).1 in
    let none : pos 0 ≡ e = omega (arith, ints) in
    ap (λ (z : ℤ). record { kwh = k; total = t; delivered = false; extreme = z }) none

-- a sound record lies as its figures are laid down
pub plain_record : (x : PlainRecord) → record_sound x ≡ true → record_plain (record_read x) ≡ x
plain_record x h =
    let a = and_parts _ _ h in
    ap record_plain (cond-true (record_sound x) _ no_deliveries h)
    ∙ ap₂ (λ (u d : PlainDeliveries). record { upward = u; downward = d })
    (plain-given true x.upward.kwh x.upward.total x.upward.extreme x.upward.delivered a.0)
    (plain-given false x.downward.kwh x.downward.total x.downward.extreme x.downward.delivered a.1)

kwh_few : (up : Bool) (k : ℕ) (t : ℤ) (o : Option ℤ) → deliveries_ok up k t o ≡ true → k ≤ 499999
kwh_few up k t None h = let z : k ≡ 0 = eqb-true _ _ (and_parts _ _ h).0 in omega arith
kwh_few up k t (Some e) h = leb-true _ _ (and_parts _ _ (and_parts _ _ (and_parts _ _ (and_parts _ _ h).0).0).0).1

-- an hour has 999,998 kWh of deliveries at most
pub hour-few : (f : HourFigures) → HourOk f → hour_kwh f ≤ 999998
hour-few f h =
    let u = kwh_few true f.upward.kwh f.upward.total f.upward.extreme h.up in
    let d = kwh_few false f.downward.kwh f.downward.total f.downward.extreme h.down in
    omega arith

-- Accounts

pub record AccountOk (a : Account) : Type 0 where
  pub cash : nat_abs a.cash ≤ 100000000000000000
  pub settled : nat_abs a.settled ≤ 937440000000000

pub account_ok : (a : Account) → account_sound a ≡ true → AccountOk a
account_ok a h = let p = and_parts _ _ h in record { cash = leb-true _ _ p.0; settled = leb-true _ _ p.1 }

pub sound-account : (a : Account) → AccountOk a → account_sound a ≡ true
sound-account a h = and_from _ _ (le-leb _ _ h.cash) (le-leb _ _ h.settled)

pub read-account : (a : Account) → account_sound a ≡ true → account_read a ≡ a
read-account a h = cond-true (account_sound a) a no_money h

pub account_read_ok : (a : Account) → AccountOk (account_read a)
account_read_ok a = cond_both (account_sound a) a no_money AccountOk (account_ok a) (λ _. record { cash = omega arith; settled = omega arith })
