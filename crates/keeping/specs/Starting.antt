-- Starting a journal. Assumes nothing.
--
--   Starts cells records p d r   r comes of starting a journal with limits of p parties and d days on these pages
use Rattle.std.specs.Prelude.{◌≡◌, true, false, List, length, ℤ, Ok, Err, Result}
use Rattle.hourly.specs.declared.plain.PlainCell.{PlainCell}
use Rattle.hourly.specs.declared.plain.PlainRecord.{PlainRecord}
use Rattle.entries.specs.declared.refusal.Refusal.TheVariants.{WrongSize}
use Rattle.book.specs.declared.open.Returned.{Returned}
use Rattle.book.specs.Opening.{openable, sizes_of}
use Rattle.keeping.specs.declared.keeper.Journal.{Journal}
use Rattle.keeping.specs.View.{started, view}

-- a journal without a book exactly where a book of the limits could be opened on the pages; else 11. The pages are as they were
abbrev pub Starts : List PlainCell → List PlainRecord → ℤ → ℤ → Result Journal Returned → Type 0
Starts cells records parties days (Ok j) = (openable parties days (length cells) (length records) ≡ true) × (view j ≡ started (sizes_of parties days) cells records)
Starts cells records parties days (Err x) =
    (openable parties days (length cells) (length records) ≡ false) × (x.refusal ≡ WrongSize) × (x.pages.cells.now ≡ cells) × (x.pages.records.now ≡ records)
