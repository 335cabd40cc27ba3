-- The layer, the number and the place of each fault of layers 1 and 2. Assumes nothing.
--
--   told f        of a word fault
--   of_bracket f  of a bracket fault, which a word fault carries whole
use Rattle.std.specs.Prelude.{pos}
use Rattle.brackets.specs.declared.BracketFault.{BracketFault}
use Rattle.brackets.specs.declared.BracketFault.TheVariants.{Long, Byte, Shape}
use Rattle.words.specs.declared.faults.Told.{Told}
use Rattle.words.specs.declared.faults.WordFault.{WordFault}
use Rattle.words.specs.declared.faults.WordFault.TheVariants.{Bracket, Head, Field, Number}

abbrev pub of_bracket : BracketFault → Told
of_bracket Long = record { layer = 1; number = 23; place = pos 201 }
of_bracket (Byte c) = record { layer = 1; number = 21; place = pos c }
of_bracket (Shape c) = record { layer = 1; number = 22; place = pos c }

abbrev pub told : WordFault → Told
told (Bracket f) = of_bracket f
told Head = record { layer = 2; number = 31; place = pos 2 }
told (Field c) = record { layer = 2; number = 32; place = pos c }
told (Number c) = record { layer = 2; number = 33; place = pos c }
