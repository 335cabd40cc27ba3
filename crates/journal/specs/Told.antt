-- The layer, the number and the place of each refusal. Assumes nothing.
--
--   told f        of a refusal; what the layers below refuse is told as they tell it
--   refused_by t  the answer that tells it
--   refused_as f  the answer to a refusal
use Rattle.std.specs.Prelude.{pos}
use Rattle.answers.specs.declared.Answer.{Answer}
use Rattle.answers.specs.declared.Answer.TheVariants.{Refused}
use Rattle.words.specs.Told as words
use Rattle.words.specs.declared.faults.Told.{Told}
use Rattle.journal.specs.declared.refusal.Refusal.{Refusal}
use Rattle.journal.specs.declared.refusal.Refusal.TheVariants.{Words, NotOpened}

abbrev pub told : Refusal → Told
told (Words f) = words.told f
told NotOpened = record { layer = 3; number = 13; place = pos 0 }

abbrev pub refused_by : Told → Answer
refused_by t = Refused t.layer t.number t.place

abbrev pub refused_as : Refusal → Answer
refused_as f = refused_by (told f)
