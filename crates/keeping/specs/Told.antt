-- The layer, the number and the place of each refusal. Assumes nothing.
--
--   told f        of a refusal; what the layers below and the book refuse is told as they tell it
--   refused_as f  the answer that says so
use Rattle.std.specs.Prelude.{pos}
use Rattle.answers.specs.declared.Answer.{Answer}
use Rattle.entries.specs.Refusals as entries
use Rattle.journal.specs.Told.{refused_by}
use Rattle.words.specs.Told as words
use Rattle.words.specs.declared.faults.Told.{Told}
use Rattle.keeping.specs.declared.refusal.Refusal.{Refusal}
use Rattle.keeping.specs.declared.refusal.Refusal.TheVariants.{Words, NotOpened, SecondBook, Book}

abbrev pub told : Refusal → Told
told (Words f) = words.told f
told NotOpened = record { layer = 3; number = 13; place = pos 0 }
told SecondBook = record { layer = 3; number = 13; place = pos 0 }
told (Book r) = record { layer = 3; number = (entries.told r).number; place = (entries.told r).place }

abbrev pub refused_as : Refusal → Answer
refused_as f = refused_by (told f)
