-- What a book holds after an entry, and what it answers. Assumes nothing.
--
--   changed f a n xs    the n elements of xs from place a on, changed by f; the others as they were
--   in_row ..           the cells of a range of hours of a party's row, each changed by f
--   posted h e          what the book holds after the accepted entry e
--   Room h e            the record of a delivery's hour has room for it
--   refusal_on m h e    the refusal of the entry, if any
--   afterwards m h e    what the book holds after the entry, accepted or refused
--   reply_on m h e      what the book replies to the entry
--   opened s            what a newly opened book holds
--   statement_on m h p  the statement of a party, or its refusal
use Rattle.std.specs.Prelude.{◌≡◌, ℕ, ◌+◌, ◌*◌, true, cond, List, [], ◌∷◌, ◌++◌, map, take, drop, replicate, ℤ, pos, ◌+ℤ◌, neg_ℤ, Some, None, Ok, Err, Option, Result, slice_index_or, slice_set}
use Rattle.std.specs.Option.{unwrap_or}
use Rattle.hourly.specs.declared.plain.PlainCell.{PlainCell}
use Rattle.hourly.specs.declared.plain.PlainRecord.{PlainRecord}
use Rattle.hourly.specs.Cells.{CellFigures, blank}
use Rattle.hourly.specs.Records.{deliverable, delivered, no_deliveries, record_plain, record_read}
use Rattle.rows.specs.Changes.{metered, regulated, relaid, shifted}
use Rattle.entries.specs.States.{after}
use Rattle.entries.specs.declared.entry.DayState.{DayState}
use Rattle.entries.specs.declared.entry.DayState.TheVariants.{Open}
use Rattle.entries.specs.declared.entry.Entry.{Entry}
use Rattle.entries.specs.declared.entry.Entry.TheVariants.{Deposit, Withdraw, Register, Market, Close, Regulate, Meter, Evaluate}
use Rattle.entries.specs.declared.refusal.Refusal.{Refusal}
use Rattle.entries.specs.declared.refusal.Refusal.TheVariants.{WrongSize}
use Rattle.entries.specs.Replies.{Reply}
use Rattle.entries.specs.declared.reply.Receipt.TheVariants.{Accepted}
use Rattle.entries.specs.declared.entry.Sizes.{Sizes}
use Rattle.entries.specs.Fields.{first_of, party_check}
use Rattle.book.specs.declared.statement.Statement.{Statement}
use Rattle.book.specs.declared.account.Account.{Account}
use Rattle.book.specs.Standing.{Standing, Terms, hours, index}
use Rattle.book.specs.Effects.{market_cash}
use Rattle.book.specs.Checks.{balance_at, need_at, refusal_at}
use Rattle.book.specs.Held.{Held, account_read, cell_at, fits, no_money, record_at, standing_on}

-- part of a list changed
abbrev pub changed : {A : Type 0} → (A → A) → ℕ → ℕ → List A → List A
changed f a n xs = take a xs ++ (map f (take n (drop a xs)) ++ drop (a + n) xs)

-- the hours `from` to `to` of a party's row of a day
abbrev pub in_row : Held → ℤ → ℤ → ℤ → ℤ → (CellFigures → CellFigures) → List PlainCell → List PlainCell
in_row h party day from to f cells = changed (relaid f) (cell_at h.sizes (index party) (index day) (index from)) (hours from to) cells

-- what stands beside what is written stays
abbrev pub with_cells : Held → List PlainCell → Held
with_cells h xs = record { sizes = h.sizes; cells = xs; records = h.records; accounts = h.accounts; states = h.states; operator = h.operator }

abbrev pub with_records : Held → List PlainRecord → Held
with_records h xs = record { sizes = h.sizes; cells = h.cells; records = xs; accounts = h.accounts; states = h.states; operator = h.operator }

abbrev pub with_accounts : Held → List Account → Held
with_accounts h xs = record { sizes = h.sizes; cells = h.cells; records = h.records; accounts = xs; states = h.states; operator = h.operator }

abbrev pub with_states : Held → List DayState → Held
with_states h xs = record { sizes = h.sizes; cells = h.cells; records = h.records; accounts = h.accounts; states = xs; operator = h.operator }

-- halers more on an account
abbrev pub with_cash : ℤ → Account → Account
with_cash haler a = record { cash = a.cash +ℤ haler; settled = a.settled }

-- the accounts with halers more for a party
abbrev pub credited : ℤ → ℤ → List Account → List Account
credited party haler xs = slice_set xs (index party) (with_cash haler (account_read (slice_index_or xs (index party) no_money)))

-- the cells after a sale of kWh
abbrev pub sale : Held → ℤ → ℤ → ℤ → ℤ → ℤ → ℤ → List PlainCell
sale h day from to seller buyer kwh = in_row h buyer day from to (shifted (neg_ℤ kwh)) (in_row h seller day from to (shifted kwh) h.cells)

-- the records after a delivery
abbrev pub recorded : Held → ℤ → ℤ → ℤ → ℤ → List PlainRecord
recorded h day hour kwh price = slice_set h.records (record_at (index day) (index hour)) (record_plain (delivered (record_read (slice_index_or h.records (record_at (index day) (index hour)) (record_plain no_deliveries))) kwh price))

-- the states after an entry that moves its day
abbrev pub moved_on : Held → Entry → ℤ → List DayState
moved_on h e day = slice_set h.states (index day) (unwrap_or (after (slice_index_or h.states (index day) Open) e) (slice_index_or h.states (index day) Open))

-- what the book holds after an accepted entry
abbrev pub posted : Held → Entry → Held
posted h (Deposit party haler) = with_accounts h (credited party haler h.accounts)
posted h (Withdraw party haler) = with_accounts h (credited party (neg_ℤ haler) h.accounts)
posted h (Register day from to seller buyer kwh) = with_cells h (sale h day from to seller buyer kwh)
posted h (Market day from to seller buyer kwh price) = with_accounts (with_cells h (sale h day from to seller buyer kwh)) (credited buyer (neg_ℤ (market_cash from to kwh price)) (credited seller (market_cash from to kwh price) h.accounts))
posted h (Close day) = with_states h (moved_on h (Close day) day)
posted h (Regulate day hour party kwh price) = with_records (with_cells h (in_row h party day hour hour (regulated kwh price) h.cells)) (recorded h day hour kwh price)
posted h (Meter day from to party kwh) = with_cells h (in_row h party day from to (metered kwh) h.cells)
posted h (Evaluate day stage) = h

-- a delivery needs room in the record of its hour; other entries need none
abbrev pub Room : Held → Entry → Type 0
Room h (Deposit party haler) = Unit {0}
Room h (Withdraw party haler) = Unit {0}
Room h (Register day from to seller buyer kwh) = Unit {0}
Room h (Market day from to seller buyer kwh price) = Unit {0}
Room h (Close day) = Unit {0}
Room h (Regulate day hour party kwh price) = deliverable ((standing_on h).deliveries (index day) (index hour)) kwh price ≡ true
Room h (Meter day from to party kwh) = Unit {0}
Room h (Evaluate day stage) = Unit {0}

-- the refusal of an entry: 11 where the pages do not fit, which no opened book has; else the first check that fails
unfoldable pub refusal_on : Terms → Held → Entry → Option Refusal
refusal_on m h e = cond (fits h) (refusal_at m (standing_on h) e) (Some WrongSize)

-- a refused entry leaves everything as it was
abbrev pub after_refusal : Option Refusal → Held → Held → Held
after_refusal (Some r) before then = before
after_refusal None before then = then

unfoldable pub afterwards : Terms → Held → Entry → Held
afterwards m h e = after_refusal (refusal_on m h e) h (posted h e)

-- what the book replies
abbrev pub replied_by : Option Refusal → Reply
replied_by (Some r) = Err r
replied_by None = Ok Accepted

abbrev pub reply_on : Terms → Held → Entry → Reply
reply_on m h e = replied_by (refusal_on m h e)

-- what a newly opened book holds: every cell and record cleared, no money, every day Open
abbrev pub opened : Sizes → Held
opened s = record {
  sizes = s;
  cells = replicate (s.parties * s.days * 24) blank;
  records = replicate (s.days * 24) (record_plain no_deliveries);
  accounts = replicate 20 no_money;
  states = replicate 62 Open;
  operator = pos 0;
}

-- the statement of a party: its balance and its need
unfoldable pub statement_at : Terms → Standing → ℕ → Statement
statement_at m v p = record { balance = balance_at v p; need = pos (need_at m v p) }

abbrev pub stated_by : Option Refusal → Statement → Result Statement Refusal
stated_by (Some r) s = Err r
stated_by None s = Ok s

-- refused are pages that do not fit and an unknown party
abbrev pub show_refusal : Terms → Held → ℤ → Option Refusal
show_refusal m h party = cond (fits h) (first_of (party_check m.sizes party ∷ [])) (Some WrongSize)

abbrev pub statement_on : Terms → Held → ℤ → Result Statement Refusal
statement_on m h party = stated_by (show_refusal m h party) (statement_at m (standing_on h) (index party))
