-- Only an evaluation uncovers (docs/RULES.md, "Histories", promise c). Assumes nothing.
--
--   covered m h p     after the history h the balance of party p is not less than its need
--   evaluation e      e is an evaluation
--   among p zs        party p has one of the numbers zs
--   KeepsCover        no other entry takes a party from covered to not covered
--   LeavesCovered     every accepted entry that asks for cover leaves the parties it names covered
use Rattle.std.specs.Prelude.{◌≡◌, ℕ, Bool, true, false, ◌||◌, List, [], ◌∷◌, ℤ, pos, ◌==◌, int_le}
use Rattle.entries.specs.declared.entry.Entry.{Entry}
use Rattle.entries.specs.declared.entry.Entry.TheVariants.{Deposit, Withdraw, Register, Market, Close, Regulate, Meter, Evaluate}
use Rattle.entries.specs.Replies.{Reply}
use Rattle.book.specs.Standing.{Terms, index}
use Rattle.book.specs.Checks.{balance_at, covered_of, need_at}
use Rattle.histories.specs.Histories.{Answered, History, accepted, standing, step}

abbrev pub covered : Terms → History → ℕ → Bool
covered m h p = int_le (pos (need_at m (standing m h) p)) (balance_at (standing m h) p)

abbrev pub evaluation : Entry → Bool
evaluation (Deposit party haler) = false
evaluation (Withdraw party haler) = false
evaluation (Register day from to seller buyer kwh) = false
evaluation (Market day from to seller buyer kwh price) = false
evaluation (Close day) = false
evaluation (Regulate day hour party kwh price) = false
evaluation (Meter day from to party kwh) = false
evaluation (Evaluate day stage) = true

abbrev pub among : ℕ → List ℤ → Bool
among p [] = false
among p (z ∷ zs) = p == index z || among p zs

abbrev pub KeepsCover : Type 0
KeepsCover = (m : Terms) (h : History) (e : Entry) (r : Reply) → Answered m (step e r ∷ h) → evaluation e ≡ false → (p : ℕ) → covered m h p ≡ true → covered m (step e r ∷ h) p ≡ true

-- those are register, market and withdraw
abbrev pub LeavesCovered : Type 0
LeavesCovered = (m : Terms) (h : History) (e : Entry) (r : Reply) → Answered m (step e r ∷ h) → accepted r ≡ true → (p : ℕ) → among p (covered_of e) ≡ true → covered m (step e r ∷ h) p ≡ true
