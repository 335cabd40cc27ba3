-- Sums of lists, and a list on a page of 20 places. Assumes nothing.
use Rattle.std.specs.Prelude.{ℕ, ◌+◌, ◌-◌, List, [], ◌∷◌, ◌++◌, length, replicate, ℤ, pos, ◌+ℤ◌}

-- the sum of natural numbers
abbrev pub sum_n : List ℕ → ℕ
sum_n [] = 0
sum_n (x ∷ xs) = x + sum_n xs

-- the sum of integers
abbrev pub sum_z : List ℤ → ℤ
sum_z [] = pos 0
sum_z (x ∷ xs) = x +ℤ sum_z xs

-- numbers on a page of 20 places, with 0 past the last
abbrev pub page : List ℤ → List ℤ
page xs = xs ++ replicate (20 - length xs) (pos 0)
