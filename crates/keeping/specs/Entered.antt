-- What a journal answers a form, and what it keeps afterwards. Assumes nothing.
--
--   sizes_in l c r p d    the sizes of a book of p parties and d days in a journal with the limits l on c cells and r records, or 11
--   opening_on l c r f    the opening that the form f asks of it, or its refusal
--   answer_in v f         what the journal v makes of the form f: an answer or a refusal
--   after_in v f          what it keeps afterwards
use Rattle.std.specs.Prelude.{◌≡◌, ℕ, ◌*◌, Bool, true, cond, ◌&&◌, length, ℤ, Ok, Err, Result, nat_le}
use Rattle.answers.specs.declared.Answer.{Answer}
use Rattle.answers.specs.declared.Answer.TheVariants.{Accepted, Paid as PaidAnswer, Statement as StatementAnswer}
use Rattle.entries.specs.declared.entry.Sizes.{Sizes}
use Rattle.entries.specs.declared.refusal.Refusal.{Refusal as BookRefusal}
use Rattle.entries.specs.declared.refusal.Refusal.TheVariants.{WrongSize}
use Rattle.entries.specs.Replies.{Reply}
use Rattle.entries.specs.declared.reply.Receipt.TheVariants.{Accepted as Took, Paid}
use Rattle.entries.specs.Fields.{between, first_of}
use Rattle.rules.specs.declared.choice.Rules.{Rules}
use Rattle.rules.specs.Choice.{chosen, pricing_map, rules_checks, rules_chosen, sharing_map}
use Rattle.words.specs.declared.form.Form.{Form}
use Rattle.words.specs.declared.form.Form.TheVariants.{Book, Entry, Show}
use Rattle.book.specs.declared.statement.Statement.{Statement}
use Rattle.book.specs.Held.{Held, sized}
use Rattle.book.specs.Opening.{sizes_of}
use Rattle.book.specs.Posting.{afterwards, opened, reply_on, statement_on}
use Rattle.book.specs.Standing.{Terms, terms}
use Rattle.keeping.specs.declared.opening.Opening.{Opening}
use Rattle.keeping.specs.declared.refusal.Refusal.{Refusal}
use Rattle.keeping.specs.declared.refusal.Refusal.TheVariants.{NotOpened, SecondBook, Book as OfBook}
use Rattle.keeping.specs.View.{Kept, Lent, Keeps, View}

-- Before a book

-- the pages have the cells and the records of such a book
abbrev pub roomy : Sizes → ℕ → ℕ → Bool
roomy s cells records = nat_le (s.parties * s.days * 24) cells && nat_le (s.days * 24) records

-- the parties and the days are 1 to the limit. That a book can have so many and that there are pages for it is asked too, and holds in every journal that was started
abbrev pub allowed : Sizes → ℕ → ℕ → ℤ → ℤ → Bool
allowed limits cells records parties days =
    (between 1 limits.parties parties && between 1 limits.days days) && (sized (sizes_of parties days) && roomy (sizes_of parties days) cells records)

-- 11, or the sizes of the book
abbrev pub sizes_in : Sizes → ℕ → ℕ → ℤ → ℤ → Result Sizes BookRefusal
sizes_in limits cells records parties days = cond (allowed limits cells records parties days) (Ok (sizes_of parties days)) (Err WrongSize)

-- 4 for the rules comes after 11
abbrev pub ruled_by : Sizes → Result Rules BookRefusal → Result Opening Refusal
ruled_by sizes (Err r) = Err (OfBook r)
ruled_by sizes (Ok rules) = Ok (record { sizes = sizes; rules = rules })

abbrev pub opening_by : Result Sizes BookRefusal → Result Rules BookRefusal → Result Opening Refusal
opening_by (Err r) rules = Err (OfBook r)
opening_by (Ok sizes) rules = ruled_by sizes rules

-- a form other than `book` is refused with 13
abbrev pub opening_on : Sizes → ℕ → ℕ → Form → Result Opening Refusal
opening_on limits cells records (Book parties days pricing default sharing) =
    opening_by (sizes_in limits cells records parties days) (chosen (first_of (rules_checks pricing default sharing)) (rules_chosen pricing default sharing))
opening_on limits cells records (Entry e) = Err NotOpened
opening_on limits cells records (Show party) = Err NotOpened

-- a book can have such sizes, and there are pages for it
abbrev pub Fitting : ℕ → ℕ → Sizes → Type 0
Fitting cells records s = (sized s ≡ true) × (roomy s cells records ≡ true)

abbrev pub FittingOpening : ℕ → ℕ → Result Opening Refusal → Type 0
FittingOpening cells records (Err r) = Unit {0}
FittingOpening cells records (Ok o) = Fitting cells records o.sizes

abbrev pub answered_opening : Result Opening Refusal → Result Answer Refusal
answered_opening (Err r) = Err r
answered_opening (Ok o) = Ok Accepted

-- a refused book leaves the pages as they were
abbrev pub kept_opening : Result Opening Refusal → Kept → Kept
kept_opening (Err r) before = before
kept_opening (Ok o) before = Keeps o.rules (opened o.sizes)

-- With a book

abbrev pub terms_of : Rules → Held → Terms
terms_of rules h = terms h.sizes (pricing_map rules.pricing) (sharing_map rules.sharing)

-- a book's reply, with the number of its parties
abbrev pub replied : ℕ → Reply → Result Answer Refusal
replied parties (Ok Took) = Ok Accepted
replied parties (Ok (Paid payments operator)) = Ok (PaidAnswer parties payments operator)
replied parties (Err r) = Err (OfBook r)

abbrev pub stated : ℤ → Result Statement BookRefusal → Result Answer Refusal
stated party (Ok s) = Ok (StatementAnswer party s.balance s.need)
stated party (Err r) = Err (OfBook r)

-- any `book` is refused with 13; an entry and `show` go to the book
abbrev pub book_answer : Rules → Held → Form → Result Answer Refusal
book_answer rules h (Book parties days pricing default sharing) = Err SecondBook
book_answer rules h (Entry e) = replied h.sizes.parties (reply_on (terms_of rules h) h e)
book_answer rules h (Show party) = stated party (statement_on (terms_of rules h) h party)

-- only an entry changes the book
abbrev pub book_after : Rules → Held → Form → Held
book_after rules h (Book parties days pricing default sharing) = h
book_after rules h (Entry e) = afterwards (terms_of rules h) h e
book_after rules h (Show party) = h

-- Both

abbrev pub answer_on : Sizes → Kept → Form → Result Answer Refusal
answer_on limits (Lent cells records) form = answered_opening (opening_on limits (length cells) (length records) form)
answer_on limits (Keeps rules h) form = book_answer rules h form

abbrev pub kept_on : Sizes → Kept → Form → Kept
kept_on limits (Lent cells records) form = kept_opening (opening_on limits (length cells) (length records) form) (Lent cells records)
kept_on limits (Keeps rules h) form = Keeps rules (book_after rules h form)

abbrev pub answer_in : View → Form → Result Answer Refusal
answer_in v form = answer_on v.limits v.kept form

abbrev pub after_in : View → Form → View
after_in v form = record { limits = v.limits; kept = kept_on v.limits v.kept form }
