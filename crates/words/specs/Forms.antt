-- What a form says in the words of the table of forms. Assumes nothing.
--
--   kind_of f      which form it is
--   numbers_of f   its numbers, in the order of its fields
--   entry_kind e, entry_numbers e   the same of an entry
use Rattle.std.specs.Prelude.{List, [], ◌∷◌, ℤ}
use Rattle.words.specs.declared.form.Form.{Form}
use Rattle.words.specs.declared.form.Form.TheVariants.{Book, Entry as Entered, Show}
use Rattle.entries.specs.declared.entry.Entry.{Entry}
use Rattle.entries.specs.declared.entry.Entry.TheVariants.{Deposit, Withdraw, Register, Market, Close, Regulate, Meter, Evaluate}
use Rattle.words.specs.declared.reading.Kind.{Kind}
use Rattle.words.specs.declared.reading.Kind.TheVariants.{Book as book, Deposit as deposit, Withdraw as withdraw, Register as register, Market as market, Close as close, Regulate as regulate, Meter as meter, Evaluate as evaluate, Show as show}

-- the same of an entry
abbrev pub entry_kind : Entry → Kind
entry_kind (Deposit party haler) = deposit
entry_kind (Withdraw party haler) = withdraw
entry_kind (Register day from to seller buyer kwh) = register
entry_kind (Market day from to seller buyer kwh price) = market
entry_kind (Close day) = close
entry_kind (Regulate day hour party kwh price) = regulate
entry_kind (Meter day from to party kwh) = meter
entry_kind (Evaluate day stage) = evaluate

abbrev pub entry_numbers : Entry → List ℤ
entry_numbers (Deposit party haler) = party ∷ haler ∷ []
entry_numbers (Withdraw party haler) = party ∷ haler ∷ []
entry_numbers (Register day from to seller buyer kwh) = day ∷ from ∷ to ∷ seller ∷ buyer ∷ kwh ∷ []
entry_numbers (Market day from to seller buyer kwh price) = day ∷ from ∷ to ∷ seller ∷ buyer ∷ kwh ∷ price ∷ []
entry_numbers (Close day) = day ∷ []
entry_numbers (Regulate day hour party kwh price) = day ∷ hour ∷ party ∷ kwh ∷ price ∷ []
entry_numbers (Meter day from to party kwh) = day ∷ from ∷ to ∷ party ∷ kwh ∷ []
entry_numbers (Evaluate day stage) = day ∷ stage ∷ []

abbrev pub kind_of : Form → Kind
kind_of (Book parties days pricing default sharing) = book
kind_of (Entered entry) = entry_kind entry
kind_of (Show party) = show

abbrev pub numbers_of : Form → List ℤ
numbers_of (Book parties days pricing default sharing) = parties ∷ days ∷ pricing ∷ default ∷ sharing ∷ []
numbers_of (Entered entry) = entry_numbers entry
numbers_of (Show party) = party ∷ []
