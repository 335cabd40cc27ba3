-- What a book answers an entry: the checks of the table of refusals, in its order, over the figures that stand. Assumes nothing.
--
--   first f a n            the first of the n places from a on at which f holds
--   checks m v e           the checks of the entry e
--   refusal_at m v e       the first that fails, if any
use Rattle.std.specs.Prelude.{ℕ, zero, suc, ◌+◌, Bool, true, false, cond, not, ◌&&◌, List, [], ◌∷◌, ◌++◌, map, ℤ, pos, ◌+ℤ◌, neg_ℤ, is_some, Some, None, Option, int_le}
use Rattle.std.specs.Option.{unwrap_or}
use Rattle.hourly.specs.Bounds.{within}
use Rattle.hourly.specs.Records.{deliverable}
use Rattle.needs.specs.Need.{counted, need}
use Rattle.entries.specs.Fields.{Check, day_of, field_checks, first_of}
use Rattle.entries.specs.States.{after}
use Rattle.entries.specs.declared.entry.DayState.{DayState}
use Rattle.entries.specs.declared.entry.Entry.{Entry}
use Rattle.entries.specs.declared.entry.Entry.TheVariants.{Deposit, Withdraw, Register, Market, Close, Regulate, Meter, Evaluate}
use Rattle.entries.specs.declared.refusal.Refusal.{Refusal}
use Rattle.entries.specs.declared.refusal.Refusal.TheVariants.{NotAdmitted, KwhBeyond, CashBeyond, NotCovered}
use Rattle.book.specs.Standing.{Standing, Terms, hours, index}
use Rattle.book.specs.Effects.{paid, traded}

-- the first of the n places from a on at which f holds
abbrev pub first : (ℕ → Bool) → ℕ → ℕ → Option ℕ
first f a zero = None
first f a (suc n) = cond (f a) (Some a) (first f (a + 1) n)

-- 6: the day's state admits the entry
abbrev pub state_check : Standing → Entry → ℤ → Check
state_check v e day = record { fails = not (is_some (after (v.state (index day)) e)); refusal = NotAdmitted (v.state (index day)) }

-- none admits an evaluation yet, whatever the table says
abbrev pub admits : DayState → Entry → Bool
admits s (Deposit party haler) = true
admits s (Withdraw party haler) = true
admits s (Register day from to seller buyer kwh) = is_some (after s (Register day from to seller buyer kwh))
admits s (Market day from to seller buyer kwh price) = is_some (after s (Market day from to seller buyer kwh price))
admits s (Close day) = is_some (after s (Close day))
admits s (Regulate day hour party kwh price) = is_some (after s (Regulate day hour party kwh price))
admits s (Meter day from to party kwh) = is_some (after s (Meter day from to party kwh))
admits s (Evaluate day stage) = false

abbrev pub admitted_check : Standing → Entry → ℤ → Check
admitted_check v e day = record { fails = not (admits (v.state (index day)) e); refusal = NotAdmitted (v.state (index day)) }

-- 7: no position of seller or buyer passes 499,999 in magnitude; the place is the first hour in which one would
abbrev pub beyond : Standing → ℤ → ℤ → ℤ → ℤ → ℕ → Bool
beyond v day seller buyer kwh t = not (within 499999 ((v.cell (index seller) (index day) t).position +ℤ kwh) && within 499999 ((v.cell (index buyer) (index day) t).position +ℤ neg_ℤ kwh))

abbrev pub first_beyond : Standing → ℤ → ℤ → ℤ → ℤ → ℤ → ℤ → Option ℕ
first_beyond v day from to seller buyer kwh = first (beyond v day seller buyer kwh) (index from) (hours from to)

-- of the entries that trade
abbrev pub beyond_of : Standing → Entry → Option ℕ
beyond_of v (Deposit party haler) = None
beyond_of v (Withdraw party haler) = None
beyond_of v (Register day from to seller buyer kwh) = first_beyond v day from to seller buyer kwh
beyond_of v (Market day from to seller buyer kwh price) = first_beyond v day from to seller buyer kwh
beyond_of v (Close day) = None
beyond_of v (Regulate day hour party kwh price) = None
beyond_of v (Meter day from to party kwh) = None
beyond_of v (Evaluate day stage) = None

abbrev pub position_check : Option ℕ → Check
position_check hour = record { fails = is_some hour; refusal = KwhBeyond (pos (unwrap_or hour 0 + 1)) }

-- 7: the hour's total in the delivery's direction does not pass 499,999 kWh
abbrev pub delivery_check : Standing → ℤ → ℤ → ℤ → ℤ → Check
delivery_check v day hour kwh price = record { fails = not (deliverable (v.deliveries (index day) (index hour)) kwh price); refusal = KwhBeyond hour }

-- 8: the party's cash afterwards does not pass 10^17 in magnitude
abbrev pub cash_after : Standing → Entry → ℕ → ℤ
cash_after v e p = (v.account p).cash +ℤ paid e p

abbrev pub cash_check : Standing → Entry → ℤ → Check
cash_check v e party = record { fails = not (within 100000000000000000 (cash_after v e (index party))); refusal = CashBeyond party }

-- 9: the party's balance afterwards is not less than its need afterwards, over the days that are not evaluated
abbrev pub position_after : Standing → Entry → ℕ → ℕ → ℕ → ℤ
position_after v e p d t = (v.cell p d t).position +ℤ traded e p d t

abbrev pub need_after : Terms → Standing → Entry → ℕ → ℕ
need_after m v e p = need m.table v.hours (λ d. counted (v.state d)) (position_after v e p) m.sizes.days

-- and as it stands
abbrev pub balance_at : Standing → ℕ → ℤ
balance_at v p = (v.account p).cash +ℤ (v.account p).settled

abbrev pub need_at : Terms → Standing → ℕ → ℕ
need_at m v p = need m.table v.hours (λ d. counted (v.state d)) (λ d t. (v.cell p d t).position) m.sizes.days

unfoldable pub passes_cover : Terms → Standing → Entry → ℕ → Bool
passes_cover m v e p = int_le (pos (need_after m v e p)) (cash_after v e p +ℤ (v.account p).settled)

abbrev pub cover_check : Terms → Standing → Entry → ℤ → Check
cover_check m v e party = record { fails = not (passes_cover m v e (index party)); refusal = NotCovered party }

-- Row by row of the table: 6, 7, 8 and 9

abbrev pub state_checks : Standing → Entry → List Check
state_checks v e = map (admitted_check v e) (day_of e)

abbrev pub kwh_checks : Standing → Entry → List Check
kwh_checks v (Deposit party haler) = []
kwh_checks v (Withdraw party haler) = []
kwh_checks v (Register day from to seller buyer kwh) = position_check (first_beyond v day from to seller buyer kwh) ∷ []
kwh_checks v (Market day from to seller buyer kwh price) = position_check (first_beyond v day from to seller buyer kwh) ∷ []
kwh_checks v (Close day) = []
kwh_checks v (Regulate day hour party kwh price) = delivery_check v day hour kwh price ∷ []
kwh_checks v (Meter day from to party kwh) = []
kwh_checks v (Evaluate day stage) = []

-- the parties whose cash the entry moves, a seller before a buyer
abbrev pub payers_of : Entry → List ℤ
payers_of (Deposit party haler) = party ∷ []
payers_of (Withdraw party haler) = party ∷ []
payers_of (Register day from to seller buyer kwh) = []
payers_of (Market day from to seller buyer kwh price) = seller ∷ buyer ∷ []
payers_of (Close day) = []
payers_of (Regulate day hour party kwh price) = []
payers_of (Meter day from to party kwh) = []
payers_of (Evaluate day stage) = []

-- the parties that the entry must leave covered, a seller before a buyer
abbrev pub covered_of : Entry → List ℤ
covered_of (Deposit party haler) = []
covered_of (Withdraw party haler) = party ∷ []
covered_of (Register day from to seller buyer kwh) = seller ∷ buyer ∷ []
covered_of (Market day from to seller buyer kwh price) = seller ∷ buyer ∷ []
covered_of (Close day) = []
covered_of (Regulate day hour party kwh price) = []
covered_of (Meter day from to party kwh) = []
covered_of (Evaluate day stage) = []

abbrev pub cash_checks : Standing → Entry → List Check
cash_checks v e = map (cash_check v e) (payers_of e)

abbrev pub cover_checks : Terms → Standing → Entry → List Check
cover_checks m v e = map (cover_check m v e) (covered_of e)

-- what is checked once the fields are in range
abbrev pub book_checks : Terms → Standing → Entry → List Check
book_checks m v e = state_checks v e ++ (kwh_checks v e ++ (cash_checks v e ++ cover_checks m v e))

-- all of it
abbrev pub checks : Terms → Standing → Entry → List Check
checks m v e = field_checks m.sizes e ++ book_checks m v e

abbrev pub refusal_at : Terms → Standing → Entry → Option Refusal
refusal_at m v e = first_of (checks m v e)
