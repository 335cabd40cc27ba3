-- A book as what it holds and the terms that its opener fixed. Assumes nothing.
--
--   held b           what a book holds
--   terms_by f g b   the terms of a book whose rules have the maps f and g
use Rattle.pricing.specs.Prices.{PriceMap}
use Rattle.sheet.specs.Evaluation.{ShareMap}
use Rattle.book.specs.declared.book.Book.{Book}
use Rattle.book.specs.Held.{Held}
use Rattle.book.specs.Standing.{Terms, terms}

abbrev pub held : {P S : Type 0} → Book P S → Held
held b = b.ledger

abbrev pub terms_by : {P S : Type 0} → (P → PriceMap) → (S → ShareMap) → Book P S → Terms
terms_by pricing sharing b = terms b.ledger.sizes (pricing b.pricing) (sharing b.sharing)
