-- The checks that an entry's fields meet, before its day and its book are looked at. Assumes nothing.
--
--   Check                  a condition, with the refusal that it gives
--   first_of cs            the refusal of the first check whose condition holds, if any holds
--   checked cs             the answer of the checks: that refusal, or that none was met
--   between a b z          z is a to b
--   within n z             z is -n to n
--   field_checks sizes e   the checks of the entry e, in the order of the table of refusals
use Rattle.std.specs.Prelude.{ℕ, ◌%◌, Bool, cond, not, ◌&&◌, List, [], ◌∷◌, ◌++◌, map, ℤ, pos, neg_ℤ, Some, None, Ok, Err, Option, Result, ◌==◌, int_le, unsigned_abs}
use Rattle.entries.specs.declared.entry.Entry.{Entry}
use Rattle.entries.specs.declared.entry.Entry.TheVariants.{Deposit, Withdraw, Register, Market, Close, Regulate, Meter, Evaluate}
use Rattle.entries.specs.declared.entry.Sizes.{Sizes}
use Rattle.entries.specs.declared.refusal.Refusal.{Refusal}
use Rattle.entries.specs.declared.refusal.Refusal.TheVariants.{UnknownParty, UnknownDay, HourOrRange, OutOfRange, SellerIsBuyer}
use Rattle.entries.specs.States.{same}

-- a condition, with the refusal that it gives where it holds
pub record Check : Type 0 where
  pub fails : Bool
  pub refusal : Refusal

-- the refusal of the first check whose condition holds
abbrev pub first_of : List Check → Option Refusal
first_of [] = None
first_of (c ∷ cs) = cond c.fails (Some c.refusal) (first_of cs)

-- a refusal, or that nothing refuses
abbrev pub verdict : Option Refusal → Result (Unit {0}) Refusal
verdict None = Ok tt
verdict (Some r) = Err r

abbrev pub checked : List Check → Result (Unit {0}) Refusal
checked cs = verdict (first_of cs)

-- from the least to the most, both included
abbrev pub between : ℕ → ℕ → ℤ → Bool
between least most z = int_le (pos least) z && int_le z (pos most)

-- a magnitude of at most this
abbrev pub within : ℕ → ℤ → Bool
within most z = int_le (neg_ℤ (pos most)) z && int_le z (pos most)

-- 1: a party is one of the book's
abbrev pub party_check : Sizes → ℤ → Check
party_check sizes party = record { fails = not (between 1 sizes.parties party); refusal = UnknownParty party }

-- 2: a day is one of the book's
abbrev pub day_check : Sizes → ℤ → Check
day_check sizes day = record { fails = not (between 1 sizes.days day); refusal = UnknownDay day }

-- 3: a single hour is 1 to 24
abbrev pub hour_check : ℤ → Check
hour_check hour = record { fails = not (between 1 24 hour); refusal = HourOrRange hour }

-- 3: a range starts at 1 or later, does not end before it starts, and ends at 24 or earlier
abbrev pub range_check : ℤ → ℤ → Check
range_check from to = record { fails = not (int_le (pos 1) from && int_le from to && int_le to (pos 24)); refusal = HourOrRange from }

-- 4: another field is in its range
abbrev pub value_check : (ℤ → Bool) → ℤ → Check
value_check in_range given = record { fails = not (in_range given); refusal = OutOfRange given }

-- 5: seller and buyer differ
abbrev pub traders_check : ℤ → ℤ → Check
traders_check seller buyer = record { fails = same seller buyer; refusal = SellerIsBuyer seller }

-- the ranges of the fields that 4 is about: halers of a deposit or a withdrawal, kWh and prices of each kind of entry, and the stage of an evaluation
abbrev pub halers : ℤ → Bool
halers z = between 1 1000000000000 z

abbrev pub registered_kwh : ℤ → Bool
registered_kwh z = between 1 499000 z

abbrev pub market_kwh : ℤ → Bool
market_kwh z = between 1000 499000 z && unsigned_abs z % 100 == 0

abbrev pub market_price : ℤ → Bool
market_price z = within 99999 z && not (same z (pos 0))

abbrev pub regulating_kwh : ℤ → Bool
regulating_kwh z = within 499000 z && not (same z (pos 0))

abbrev pub regulating_price : ℤ → Bool
regulating_price z = within 99999 z

abbrev pub reading_kwh : ℤ → Bool
reading_kwh z = within 499999 z

abbrev pub stages : ℤ → Bool
stages z = between 1 3 z

-- the parties that an entry names, a seller before a buyer
abbrev pub parties_of : Entry → List ℤ
parties_of (Deposit party haler) = party ∷ []
parties_of (Withdraw party haler) = party ∷ []
parties_of (Register day from to seller buyer kwh) = seller ∷ buyer ∷ []
parties_of (Market day from to seller buyer kwh price) = seller ∷ buyer ∷ []
parties_of (Close day) = []
parties_of (Regulate day hour party kwh price) = party ∷ []
parties_of (Meter day from to party kwh) = party ∷ []
parties_of (Evaluate day stage) = []

-- the day that it names, if any
abbrev pub day_of : Entry → List ℤ
day_of (Deposit party haler) = []
day_of (Withdraw party haler) = []
day_of (Register day from to seller buyer kwh) = day ∷ []
day_of (Market day from to seller buyer kwh price) = day ∷ []
day_of (Close day) = day ∷ []
day_of (Regulate day hour party kwh price) = day ∷ []
day_of (Meter day from to party kwh) = day ∷ []
day_of (Evaluate day stage) = day ∷ []

-- its hour or its range
abbrev pub hour_checks : Entry → List Check
hour_checks (Deposit party haler) = []
hour_checks (Withdraw party haler) = []
hour_checks (Register day from to seller buyer kwh) = range_check from to ∷ []
hour_checks (Market day from to seller buyer kwh price) = range_check from to ∷ []
hour_checks (Close day) = []
hour_checks (Regulate day hour party kwh price) = hour_check hour ∷ []
hour_checks (Meter day from to party kwh) = range_check from to ∷ []
hour_checks (Evaluate day stage) = []

-- its other fields, in their order
abbrev pub value_checks : Entry → List Check
value_checks (Deposit party haler) = value_check halers haler ∷ []
value_checks (Withdraw party haler) = value_check halers haler ∷ []
value_checks (Register day from to seller buyer kwh) = value_check registered_kwh kwh ∷ []
value_checks (Market day from to seller buyer kwh price) = value_check market_kwh kwh ∷ value_check market_price price ∷ []
value_checks (Close day) = []
value_checks (Regulate day hour party kwh price) = value_check regulating_kwh kwh ∷ value_check regulating_price price ∷ []
value_checks (Meter day from to party kwh) = value_check reading_kwh kwh ∷ []
value_checks (Evaluate day stage) = value_check stages stage ∷ []

-- its seller and buyer
abbrev pub trader_checks : Entry → List Check
trader_checks (Deposit party haler) = []
trader_checks (Withdraw party haler) = []
trader_checks (Register day from to seller buyer kwh) = traders_check seller buyer ∷ []
trader_checks (Market day from to seller buyer kwh price) = traders_check seller buyer ∷ []
trader_checks (Close day) = []
trader_checks (Regulate day hour party kwh price) = []
trader_checks (Meter day from to party kwh) = []
trader_checks (Evaluate day stage) = []

-- the checks of an entry's fields, row by row of the table of refusals: 1, 2, 3, 4 and 5
abbrev pub field_checks : Sizes → Entry → List Check
field_checks sizes e = map (party_check sizes) (parties_of e) ++ (map (day_check sizes) (day_of e) ++ (hour_checks e ++ (value_checks e ++ trader_checks e)))
