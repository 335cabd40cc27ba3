-- What a refusal of the book tells: its number and its place. Assumes nothing.
--
--   told r     number and place of the refusal r
use Rattle.std.specs.Prelude.{◌+◌, ◌*◌, pos}
use Rattle.refusals.specs.declared.Told.{Told}
use Rattle.entries.specs.declared.refusal.Refusal.{Refusal}
use Rattle.entries.specs.declared.refusal.Refusal.TheVariants.{UnknownParty, UnknownDay, HourOrRange, OutOfRange, SellerIsBuyer, NotAdmitted, KwhBeyond, CashBeyond, NotCovered, ReadingMissing, WrongSize}
use Rattle.entries.specs.States.{number_of}

-- the table of refusals: each case with its number and its place
abbrev pub told : Refusal → Told
told (UnknownParty party) = record { number = 1; place = party }
told (UnknownDay day) = record { number = 2; place = day }
told (HourOrRange from) = record { number = 3; place = from }
told (OutOfRange given) = record { number = 4; place = given }
told (SellerIsBuyer party) = record { number = 5; place = party }
told (NotAdmitted state) = record { number = 6; place = pos (number_of state) }
told (KwhBeyond hour) = record { number = 7; place = hour }
told (CashBeyond party) = record { number = 8; place = party }
told (NotCovered party) = record { number = 9; place = party }
told (ReadingMissing hour party) = record { number = 10; place = pos (hour * 100 + party) }
told WrongSize = record { number = 11; place = pos 0 }
