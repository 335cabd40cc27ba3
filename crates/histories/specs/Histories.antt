-- What a history says (docs/RULES.md, "Histories"). A history has its newest entry first, so that what lies behind an entry is the history before it. Parties, days and hours are counted from 0. Assumes nothing.
--
--   Step, History     an entry with its reply, and a list of those
--   accepted r        the reply is no refusal
--   total f h         the sum of f over the accepted entries
--   count f h         how many of them pass the test f
--   latest f h        what the latest of them gives for which f gives anything
--   running f x h     x, changed by each of them from the oldest on
--   position .. cash  the figures of a history, counted from its accepted entries alone
--   standing m h      all of them together
--   answer_of m h e   the reply to e after h
--   Answered m h      each reply is the one that the history before it gives
--   recorded m h es   the history h with the entries es after it, oldest first, each with its reply
--   answers m h es    those replies
--
-- What f says of an entry may depend on the history before the entry.
use Rattle.std.specs.Prelude.{◌≡◌, ℕ, zero, suc, ◌+◌, Bool, true, false, cond, ◌&&◌, List, [], ◌∷◌, ℤ, pos, ◌+ℤ◌, Some, None, Ok, Err, Option, ◌==◌}
use Rattle.hourly.specs.Records.{HourFigures, no_deliveries}
use Rattle.entries.specs.declared.entry.DayState.{DayState}
use Rattle.entries.specs.declared.entry.DayState.TheVariants.{Open, Closed, Daily, Monthly, Final}
use Rattle.entries.specs.declared.entry.Entry.{Entry}
use Rattle.entries.specs.declared.entry.Entry.TheVariants.{Deposit, Withdraw, Register, Market, Close, Regulate, Meter, Evaluate}
use Rattle.entries.specs.Replies.{Reply}
use Rattle.book.specs.Standing.{Standing, Terms, index}
use Rattle.book.specs.Effects.{paid, traded}
use Rattle.book.specs.Checks.{refusal_at}
use Rattle.book.specs.Posting.{replied_by}
use Rattle.runs.specs.After.{deliveries_after, reading_by, regulating_by, tenths_by}

pub record Step : Type 0 where
  pub entry : Entry
  pub reply : Reply

abbrev pub History : Type 0
History = List Step

abbrev pub step : Entry → Reply → Step
step e r = record { entry = e; reply = r }

abbrev pub accepted : Reply → Bool
accepted (Ok receipt) = true
accepted (Err refusal) = false

-- Readers

abbrev pub total : (History → Entry → ℤ) → History → ℤ
total f [] = pos 0
total f (s ∷ h) = total f h +ℤ cond (accepted s.reply) (f h s.entry) (pos 0)

abbrev pub count : (History → Entry → Bool) → History → ℕ
count f [] = 0
count f (s ∷ h) = count f h + cond (accepted s.reply && f h s.entry) 1 0

-- the one, or in its absence the other
abbrev pub or_else : {A : Type 0} → Option A → Option A → Option A
or_else (Some x) other = Some x
or_else None other = other

abbrev pub latest : {A : Type 0} → (History → Entry → Option A) → History → Option A
latest f [] = None
latest f (s ∷ h) = cond (accepted s.reply) (or_else (f h s.entry) (latest f h)) (latest f h)

abbrev pub running : {A : Type 0} → (History → Entry → A → A) → A → History → A
running f x [] = x
running f x (s ∷ h) = cond (accepted s.reply) (f h s.entry (running f x h)) (running f x h)

-- Figures

-- kWh sold less kWh bought
abbrev pub position : History → ℕ → ℕ → ℕ → ℤ
position h p d t = total (λ g e. traded e p d t) h

-- kWh of regulating energy
abbrev pub regulating : History → ℕ → ℕ → ℕ → ℤ
regulating h p d t = total (λ g e. regulating_by e p d t) h

-- tenths of regulating energy
abbrev pub tenths : History → ℕ → ℕ → ℕ → ℤ
tenths h p d t = total (λ g e. tenths_by e p d t) h

-- the latest reading, none before there is one
abbrev pub reading : History → ℕ → ℕ → ℕ → Option ℤ
reading h p d t = latest (λ g e. reading_by e p d t None) h

-- the deliveries of an hour, of all parties
abbrev pub deliveries : History → ℕ → ℕ → HourFigures
deliveries h d t = running (λ g e f. deliveries_after e d t f) no_deliveries h

-- the entries that move a day one state on: its close and its evaluations
abbrev pub moves : Entry → ℕ → Bool
moves (Deposit party haler) d = false
moves (Withdraw party haler) d = false
moves (Register day from to seller buyer kwh) d = false
moves (Market day from to seller buyer kwh price) d = false
moves (Close day) d = d == index day
moves (Regulate day hour party kwh price) d = false
moves (Meter day from to party kwh) d = false
moves (Evaluate day stage) d = d == index day

-- the state of a day that has been moved so often
abbrev pub moved_by : ℕ → DayState
moved_by zero = Open
moved_by (suc zero) = Closed
moved_by (suc (suc zero)) = Daily
moved_by (suc (suc (suc zero))) = Monthly
moved_by (suc (suc (suc (suc n)))) = Final

-- Open before its close, then by the number of its evaluations
abbrev pub state : History → ℕ → DayState
state h d = moved_by (count (λ g e. moves e d) h)

abbrev pub cash : History → ℕ → ℤ
cash h p = total (λ g e. paid e p) h

-- every day has 24 hours
abbrev pub hours : Terms → History → ℕ → ℕ
hours m h d = 24

-- no evaluation is accepted yet, so that no day is evaluated: last amounts are 0
abbrev pub last : Terms → History → ℕ → ℕ → ℕ → ℤ
last m h p d t = pos 0

-- and so is their sum over all hours of all days
abbrev pub settled : Terms → History → ℕ → ℤ
settled m h p = pos 0

-- and the sum of the remainders of hours with W = 0
abbrev pub operator_line : Terms → History → ℤ
operator_line m h = pos 0

abbrev pub standing : Terms → History → Standing
standing m h = record {
  cell = λ p d t. record { position = position h p d t; regulating = regulating h p d t; tenths = tenths h p d t; reading = reading h p d t; last = last m h p d t };
  deliveries = deliveries h;
  hours = hours m h;
  state = state h;
  account = λ p. record { cash = cash h p; settled = settled m h p };
  operator = operator_line m h;
}

-- Replies

-- the first refusal whose condition holds of these figures, else ok
abbrev pub answer_of : Terms → History → Entry → Reply
answer_of m h e = replied_by (refusal_at m (standing m h) e)

abbrev pub Answered : Terms → History → Type 0
Answered m [] = Unit {0}
Answered m (s ∷ h) = (s.reply ≡ answer_of m h s.entry) × Answered m h

abbrev pub recorded : Terms → History → List Entry → History
recorded m h [] = h
recorded m h (e ∷ es) = recorded m (step e (answer_of m h e) ∷ h) es

abbrev pub answers : Terms → History → List Entry → List Reply
answers m h [] = []
answers m h (e ∷ es) = answer_of m h e ∷ answers m (step e (answer_of m h e) ∷ h) es
