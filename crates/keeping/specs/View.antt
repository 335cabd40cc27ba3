-- What a journal keeps, without references. Assumes nothing.
--
--   View            the limits, and what is kept: pages for a book, or the book
--   view j          that of a journal
--   started s c r   that of a newly started journal with the limits s, on the cells c and the records r
use Rattle.std.specs.Prelude.{List}
use Rattle.hourly.specs.declared.plain.PlainCell.{PlainCell}
use Rattle.hourly.specs.declared.plain.PlainRecord.{PlainRecord}
use Rattle.entries.specs.declared.entry.Sizes.{Sizes}
use Rattle.rules.specs.declared.choice.ChosenPricing.{ChosenPricing}
use Rattle.rules.specs.declared.choice.ChosenSharing.{ChosenSharing}
use Rattle.rules.specs.declared.choice.Rules.{Rules}
use Rattle.book.specs.declared.book.Book.{Book}
use Rattle.book.specs.Books.{held}
use Rattle.book.specs.Held.{Held}
use Rattle.keeping.specs.declared.keeper.Journal.{Journal}
use Rattle.keeping.specs.declared.keeper.Stage.{Stage}
use Rattle.keeping.specs.declared.keeper.Stage.TheVariants.{Empty, Opened}

-- no book yet, and what lies on the pages for one; or the rules of a book and what it holds
pub data Kept : Type 0 where
  Lent : List PlainCell → List PlainRecord → Kept
  Keeps : Rules → Held → Kept

pub record View : Type 0 where
  pub limits : Sizes
  pub kept : Kept

abbrev pub rules_of : Book ChosenPricing ChosenSharing → Rules
rules_of b = record { pricing = b.pricing; sharing = b.sharing }

abbrev pub kept : Stage → Kept
kept (Empty pages) = Lent pages.cells.now pages.records.now
kept (Opened b) = Keeps (rules_of b) (held b)

abbrev pub view : Journal → View
view j = record { limits = j.limits; kept = kept j.stage }

abbrev pub started : Sizes → List PlainCell → List PlainRecord → View
started limits cells records = record { limits = limits; kept = Lent cells records }
