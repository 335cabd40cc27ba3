-- What is known of an entry whose fields have passed their checks: each number as the rules have it. Assumes nothing.
--
--   Numbered n z      z is one of the numbers 1 to n
--   Ranged from to    from and to are a range of hours
--   Sane sizes e      every field of e is in its range
use Rattle.std.specs.Prelude.{◌≡◌, ℕ, ◌%◌, ◌≤◌, ℤ, pos, ◌≢◌, unsigned_abs}
use Rattle.entries.specs.declared.entry.Entry.{Entry}
use Rattle.entries.specs.declared.entry.Entry.TheVariants.{Deposit, Withdraw, Register, Market, Close, Regulate, Meter, Evaluate}
use Rattle.entries.specs.declared.entry.Sizes.{Sizes}

-- one of the numbers 1 to n
abbrev pub Numbered : ℕ → ℤ → Type 0
Numbered n z = (z ≡ pos (unsigned_abs z)) × (1 ≤ unsigned_abs z) × (unsigned_abs z ≤ n)

-- a range of hours
abbrev pub Ranged : ℤ → ℤ → Type 0
Ranged from to = Numbered 24 from × Numbered 24 to × (unsigned_abs from ≤ unsigned_abs to)

-- seller and buyer are two parties of the book
abbrev pub Traders : Sizes → ℤ → ℤ → Type 0
Traders sizes seller buyer = Numbered sizes.parties seller × Numbered sizes.parties buyer × (unsigned_abs seller ≢ unsigned_abs buyer)

-- every field of the entry is in its range
abbrev pub Sane : Sizes → Entry → Type 0
Sane sizes (Deposit party haler) = Numbered sizes.parties party × Numbered 1000000000000 haler
Sane sizes (Withdraw party haler) = Numbered sizes.parties party × Numbered 1000000000000 haler
Sane sizes (Register day from to seller buyer kwh) = Traders sizes seller buyer × Numbered sizes.days day × Ranged from to × Numbered 499000 kwh
Sane sizes (Market day from to seller buyer kwh price) = Traders sizes seller buyer × Numbered sizes.days day × Ranged from to × Numbered 499000 kwh × (unsigned_abs kwh % 100 ≡ 0) × (unsigned_abs price ≤ 99999)
Sane sizes (Close day) = Numbered sizes.days day
Sane sizes (Regulate day hour party kwh price) = Numbered sizes.parties party × Numbered sizes.days day × Numbered 24 hour × (unsigned_abs kwh ≤ 499000) × (unsigned_abs price ≤ 99999)
Sane sizes (Meter day from to party kwh) = Numbered sizes.parties party × Numbered sizes.days day × Ranged from to × (unsigned_abs kwh ≤ 499999)
Sane sizes (Evaluate day stage) = Numbered sizes.days day × Numbered 3 stage
