-- The states of a scanner over the bytes of a line, for private functions only: that it goes on just where a form does is proved of
-- them, and the public call speaks of the grammar. Assumes nothing.
use Rattle.std.specs.Prelude.{ℕ, cond, List, [], ◌∷◌, Some, None, Option, ◌==◌}
use Rattle.brackets.specs.Bytes.{letter, digit}
use Rattle.brackets.specs.declared.State.{State}
use Rattle.brackets.specs.declared.State.TheVariants.{Start, Bracket, Head, Gap, Inner, Name, Sign, Minus, Digits, Between, End}

-- the state after one byte more, if a form can go on with it
abbrev pub step : State → ℕ → Option State
step Start b = cond (b == 40) (Some Bracket) None
step Bracket b = cond (letter b) (Some Head) None
step Head b = cond (letter b) (Some Head) (cond (b == 32) (Some Gap) (cond (b == 41) (Some End) None))
step Gap b = cond (b == 40) (Some Inner) None
step Inner b = cond (letter b) (Some Name) None
step Name b = cond (letter b) (Some Name) (cond (b == 32) (Some Sign) None)
step Sign b = cond (digit b) (Some Digits) (cond (b == 45) (Some Minus) None)
step Minus b = cond (digit b) (Some Digits) None
step Digits b = cond (digit b) (Some Digits) (cond (b == 41) (Some Between) None)
step Between b = cond (b == 32) (Some Gap) (cond (b == 41) (Some End) None)
step End b = None

-- the same, if there is a state to go on from
abbrev pub next : Option State → ℕ → Option State
next None b = None
next (Some s) b = step s b

-- the state after these bytes
abbrev pub run : Option State → List ℕ → Option State
run o [] = o
run o (b ∷ t) = run (next o b) t
