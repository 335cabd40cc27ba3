use Rattle.std.proofs.Common.{◌≡◌, ◌^◌, ◌<◌, take}
use Rattle.words.specs.Numbers.{decimal_value}
use Rattle.words.proofs.reading.magnitude.Given as goal

abbrev pub invariant-loop-d : goal.invariant-loop-d
invariant-loop-d l = (l.n ≡ decimal_value (take l.d-index l.digits)) × (l.n < 10 ^ l.d-index)
