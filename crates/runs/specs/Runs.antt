-- A book that is given a list of entries, oldest first, and what holds of it whatever the entries are. Assumes nothing.
--
--   ran m h es        what the book h holds after the entries es
--   replies m h es    what it replies to each
--   replied m h es rs the places rs for replies after them: the first hold the replies, the others are as they were
--   paid_in m h es    halers of the accepted deposits less those of the accepted withdrawals
--   LevelPositions h  in every hour of every day the positions of all parties add up to 0
--   CashIs h z        the cash of all parties adds up to z
--   Laws m h es       both, and pages that fit and are sound, after the entries
--   LawsHold          they hold after any entries, of any book that is newly opened
--   runnable p d c r e n
--                     a book of p parties and d days can be opened on pages of c cells and r records, and e entries have n places for their replies
--   Ran ..            what comes of opening a book on pages and entering a list of entries
--   AfterHolds        what an accepted entry makes of each figure
--   WholeCash         the cash of a market trade is hours × kWh × price tenths of a haler, and no tenth is lost
use Rattle.std.specs.Prelude.{◌≡◌, ℕ, ◌%◌, ◌<◌, Bool, true, false, ◌&&◌, List, [], ◌∷◌, ◌++◌, length, take, drop, ℤ, pos, ◌+ℤ◌, ◌*ℤ◌, neg_ℤ, Some, None, Ok, Err, Option, Result, nat_le, unsigned_abs}
use Rattle.hourly.specs.declared.plain.PlainCell.{PlainCell}
use Rattle.hourly.specs.declared.plain.PlainRecord.{PlainRecord}
use Rattle.pricing.specs.Prices.{PriceMap}
use Rattle.sheet.specs.Evaluation.{ShareMap}
use Rattle.entries.specs.declared.entry.Entry.{Entry}
use Rattle.entries.specs.declared.entry.Entry.TheVariants.{Deposit, Withdraw, Register, Market, Close, Regulate, Meter, Evaluate}
use Rattle.entries.specs.declared.refusal.Refusal.{Refusal}
use Rattle.entries.specs.declared.refusal.Refusal.TheVariants.{WrongSize}
use Rattle.entries.specs.Replies.{Reply}
use Rattle.book.specs.declared.book.Book.{Book}
use Rattle.book.specs.declared.open.Returned.{Returned}
use Rattle.book.specs.Standing.{Terms, hours, terms}
use Rattle.book.specs.Effects.{market_cash}
use Rattle.book.specs.Books.{held}
use Rattle.book.specs.Held.{Held, sized, standing_on}
use Rattle.book.specs.Opening.{openable, sizes_of}
use Rattle.book.specs.Posting.{afterwards, opened, posted, refusal_on, reply_on}
use Rattle.runs.specs.Sums.{sum_to}
use Rattle.runs.specs.After.{After}
use Rattle.runs.specs.Kept.{Kept, SoundPages}

abbrev pub ran : Terms → Held → List Entry → Held
ran m h [] = h
ran m h (e ∷ es) = ran m (afterwards m h e) es

abbrev pub replies : Terms → Held → List Entry → List Reply
replies m h [] = []
replies m h (e ∷ es) = reply_on m h e ∷ replies m (afterwards m h e) es

-- each reply at the place of its entry
abbrev pub replied : Terms → Held → List Entry → List Reply → List Reply
replied m h es rs = replies m h es ++ drop (length es) rs

-- what an entry brings in: a deposit, less a withdrawal
abbrev pub brings : Entry → ℤ
brings (Deposit party haler) = haler
brings (Withdraw party haler) = neg_ℤ haler
brings (Register day from to seller buyer kwh) = pos 0
brings (Market day from to seller buyer kwh price) = pos 0
brings (Close day) = pos 0
brings (Regulate day hour party kwh price) = pos 0
brings (Meter day from to party kwh) = pos 0
brings (Evaluate day stage) = pos 0

-- a refused entry brings nothing
abbrev pub unless_refused : Option Refusal → ℤ → ℤ
unless_refused (Some r) z = pos 0
unless_refused None z = z

abbrev pub paid_in : Terms → Held → List Entry → ℤ
paid_in m h [] = pos 0
paid_in m h (e ∷ es) = unless_refused (refusal_on m h e) (brings e) +ℤ paid_in m (afterwards m h e) es

-- what one sells another buys
abbrev pub LevelPositions : Held → Type 0
LevelPositions h = (d t : ℕ) → d < h.sizes.days → t < 24 → sum_to h.sizes.parties (λ p. ((standing_on h).cell p d t).position) ≡ pos 0

-- no money is made or lost
abbrev pub CashIs : Held → ℤ → Type 0
CashIs h z = sum_to h.sizes.parties (λ p. ((standing_on h).account p).cash) ≡ z

-- after the entries; the sizes are still those of the book before them, and what AfterHolds asks of a book is kept: its pages fit, so that no entry is refused for their sake
pub record Laws (m : Terms) (h : Held) (es : List Entry) : Type 0 where
  pub sizes : (ran m h es).sizes ≡ h.sizes
  pub level : LevelPositions (ran m h es)
  pub cash : CashIs (ran m h es) (paid_in m h es)
  pub pages : SoundPages (ran m h es)
  pub kept : Kept (ran m h es)

abbrev pub LawsHold : Type 0
LawsHold = (m : Terms) → sized m.sizes ≡ true → (es : List Entry) → Laws m (opened m.sizes) es

-- every page has its size, and every entry a place for its reply
abbrev pub runnable : ℤ → ℤ → ℕ → ℕ → ℕ → ℕ → Bool
runnable parties days cells records entries places = openable parties days cells records && nat_le entries places

-- exactly where it can be run a book, with the rules as given, that holds what the entries make of a new one, and the reply to each at its place; the laws hold at every point of the list.
-- Else 11, and pages and replies as they were
abbrev pub Ran : {P S : Type 0} → List PlainCell → List PlainRecord → ℤ → ℤ → P → S → PriceMap → ShareMap → List Entry → List Reply → List Reply → Result (Book P S) Returned → Type 0
Ran cells records parties days pricing sharing f g es before after (Ok b) =
    (runnable parties days (length cells) (length records) (length es) (length before) ≡ true)
    × (held b ≡ ran (terms (sizes_of parties days) f g) (opened (sizes_of parties days)) es)
    × (after ≡ replied (terms (sizes_of parties days) f g) (opened (sizes_of parties days)) es before)
    × (b.pricing ≡ pricing)
    × (b.sharing ≡ sharing)
    × ((k : ℕ) → Laws (terms (sizes_of parties days) f g) (opened (sizes_of parties days)) (take k es))
Ran cells records parties days pricing sharing f g es before after (Err x) =
    (runnable parties days (length cells) (length records) (length es) (length before) ≡ false)
    × (x.refusal ≡ WrongSize)
    × (x.pages.cells.now ≡ cells)
    × (x.pages.records.now ≡ records)
    × (after ≡ before)

-- a book that keeps what an opened one keeps does so after an accepted entry too, and its figures are as the entry makes them
abbrev pub AfterHolds : Type 0
AfterHolds = (m : Terms) (h : Held) (e : Entry) → m.sizes ≡ h.sizes → Kept h → refusal_on m h e ≡ None → Kept (posted h e) × After h.sizes (standing_on h) e (standing_on (posted h e))

-- for kWh in steps of 100, as a market trade has them
abbrev pub WholeCash : Type 0
WholeCash = (from to kwh price : ℤ) → kwh ≡ pos (unsigned_abs kwh) → unsigned_abs kwh % 100 ≡ 0 → pos 10 *ℤ market_cash from to kwh price ≡ pos (hours from to) *ℤ kwh *ℤ price
