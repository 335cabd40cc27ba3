-- The opening of a book. Assumes nothing.
--
--   sizes_of p d           p parties and d days
--   openable p d c r       a book of p parties and d days can be opened on pages of c cells and r records
--   Opens cells records p d pricing sharing r
--                         r comes of opening a book on these pages
use Rattle.std.specs.Prelude.{◌≡◌, ℕ, Bool, true, false, ◌&&◌, List, length, ℤ, Ok, Err, Result, unsigned_abs}
use Rattle.hourly.specs.declared.plain.PlainCell.{PlainCell}
use Rattle.hourly.specs.declared.plain.PlainRecord.{PlainRecord}
use Rattle.entries.specs.declared.entry.Sizes.{Sizes}
use Rattle.entries.specs.declared.refusal.Refusal.TheVariants.{WrongSize}
use Rattle.entries.specs.Fields.{between}
use Rattle.book.specs.declared.book.Book.{Book}
use Rattle.book.specs.declared.open.Returned.{Returned}
use Rattle.book.specs.Books.{held}
use Rattle.book.specs.Held.{paged}
use Rattle.book.specs.Posting.{opened}

abbrev pub sizes_of : ℤ → ℤ → Sizes
sizes_of parties days = record { parties = unsigned_abs parties; days = unsigned_abs days }

-- 1 to 20 parties, 1 to 62 days, and every page of its size
abbrev pub openable : ℤ → ℤ → ℕ → ℕ → Bool
openable parties days cells records = between 1 20 parties && between 1 62 days && paged (sizes_of parties days) cells records

-- a book on cleared pages exactly where it can be opened, with the rules as given; else 11, and the pages as they were
abbrev pub Opens : {P S : Type 0} → List PlainCell → List PlainRecord → ℤ → ℤ → P → S → Result (Book P S) Returned → Type 0
Opens cells records parties days pricing sharing (Ok b) =
    (openable parties days (length cells) (length records) ≡ true) × (held b ≡ opened (sizes_of parties days)) × (b.pricing ≡ pricing) × (b.sharing ≡ sharing)
Opens cells records parties days pricing sharing (Err x) =
    (openable parties days (length cells) (length records) ≡ false) × (x.refusal ≡ WrongSize) × (x.pages.cells.now ≡ cells) × (x.pages.records.now ≡ records)
