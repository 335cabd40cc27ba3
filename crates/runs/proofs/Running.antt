-- A book that can be opened is of the sizes that the laws ask for. Assumes nothing.
use Rattle.std.proofs.Common.{◌≡◌, ℕ, true, leb, List, take, ℤ}
use Rattle.std.proofs.lemmas.Bool.{and_parts}
use Rattle.entries.specs.declared.entry.Entry.{Entry}
use Rattle.pricing.specs.Prices.{PriceMap}
use Rattle.sheet.specs.Evaluation.{ShareMap}
use Rattle.book.specs.Opening.{openable, sizes_of}
use Rattle.book.specs.Posting.{opened}
use Rattle.book.specs.Standing.{terms}
use Rattle.book.proofs.Opened.{laid}
use Rattle.book.proofs.Places.{sizes_fitted}
use Rattle.runs.specs.Runs.{Laws, runnable}
use Rattle.runs.proofs.Level.{laws_hold}

-- at every point of the list
pub laws_throughout : (parties days : ℤ) (cells records entries places : ℕ) (f : PriceMap) (g : ShareMap) (es : List Entry) → runnable parties days cells records entries places ≡ true
    → (k : ℕ) → Laws (terms (sizes_of parties days) f g) (opened (sizes_of parties days)) (take k es)
laws_throughout parties days cells records entries places f g es h k =
    let a = and_parts (openable parties days cells records) (leb entries places) h in
    laws_hold (terms (sizes_of parties days) f g) (sizes_fitted (sizes_of parties days) (laid parties days cells records a.0).0) (take k es)
