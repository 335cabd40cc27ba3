-- Which days a need is counted over (docs/RULES.md, "Cover"). Assumes nothing.
use Rattle.std.specs.Prelude.{Bool, true, false}
use Rattle.entries.specs.declared.entry.DayState.{DayState}
use Rattle.entries.specs.declared.entry.DayState.TheVariants.{Open, Closed, Daily, Monthly, Final}

-- whether a day in a state counts
abbrev pub counted : DayState → Bool
counted Open = true
counted Closed = true
counted Daily = false
counted Monthly = false
counted Final = false
