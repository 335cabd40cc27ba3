-- Which entry a day admits, by its state, and where it stands afterwards. Assumes nothing.
--
--   number_of s    a state's number
--   same a b       the two numbers are the same
--   after s e      the table: where a day in state s stands after the entry e, if s admits it
--   moved s e      the same, or the refusal
use Rattle.std.specs.Prelude.{ℕ, Bool, false, cond, ℤ, pos, negsuc, Some, None, Ok, Err, Option, Result, ◌==◌}
use Rattle.entries.specs.declared.entry.DayState.{DayState}
use Rattle.entries.specs.declared.entry.DayState.TheVariants.{Open, Closed, Daily, Monthly, Final}
use Rattle.entries.specs.declared.entry.Entry.{Entry}
use Rattle.entries.specs.declared.entry.Entry.TheVariants.{Deposit, Withdraw, Register, Market, Close, Regulate, Meter, Evaluate}
use Rattle.entries.specs.declared.refusal.Refusal.{Refusal}
use Rattle.entries.specs.declared.refusal.Refusal.TheVariants.{NotAdmitted}

-- a state's number
abbrev pub number_of : DayState → ℕ
number_of Open = 0
number_of Closed = 1
number_of Daily = 2
number_of Monthly = 3
number_of Final = 4

-- the two numbers are the same
abbrev pub same : ℤ → ℤ → Bool
same (pos a) (pos b) = a == b
same (pos a) (negsuc b) = false
same (negsuc a) (pos b) = false
same (negsuc a) (negsuc b) = a == b

-- what stands in the column of a state; the columns are those of Open, Closed, Daily, Monthly and Final, and `None` stands where the entry is not admitted
abbrev pub row : Option DayState → Option DayState → Option DayState → Option DayState → Option DayState → DayState → Option DayState
row a b c d e Open = a
row a b c d e Closed = b
row a b c d e Daily = c
row a b c d e Monthly = d
row a b c d e Final = e

-- an evaluation of the stage given, where the stage n is due and leads to the state s
abbrev pub due : ℕ → DayState → ℤ → Option DayState
due n s stage = cond (same stage (pos n)) (Some s) None

-- the table: the state after an accepted entry, in columns Open, Closed, Daily, Monthly, Final. An entry that names no day leaves any state as it is
abbrev pub after : DayState → Entry → Option DayState
after s (Deposit party haler) = Some s
after s (Withdraw party haler) = Some s
after s (Register day from to seller buyer kwh) = row (Some Open) None None None None s
after s (Market day from to seller buyer kwh price) = row (Some Open) None None None None s
after s (Close day) = row (Some Closed) None None None None s
after s (Regulate day hour party kwh price) = row None (Some Closed) None None None s
after s (Meter day from to party kwh) = row None (Some Closed) (Some Daily) (Some Monthly) None s
after s (Evaluate day stage) = row None (due 1 Daily stage) (due 2 Monthly stage) (due 3 Final stage) None s

-- the refusal of a state that does not admit the entry
abbrev pub answered : DayState → Option DayState → Result DayState Refusal
answered s None = Err (NotAdmitted s)
answered s (Some t) = Ok t

-- the next state, or refusal 6 with the state that does not admit the entry
abbrev pub moved : DayState → Entry → Result DayState Refusal
moved s e = answered s (after s e)
