-- What an accepted entry adds to the figures of a party (docs/RULES.md, "Entries"). Assumes nothing.
--
--   side z n p               n for the party of the number z, 0 for any other
--   in_hours day from to d t hour t of day d is in the range
--   traded e p d t           kWh that e adds to the position of party p in hour t of day d
--   market_cash ..           halers that a market trade moves from buyer to seller
--   paid e p                 halers that e adds to the cash of party p
use Rattle.std.specs.Prelude.{ℕ, ◌+◌, ◌*◌, ◌/◌, Bool, cond, ◌&&◌, ℤ, pos, ◌+ℤ◌, ◌*ℤ◌, neg_ℤ, ◌==◌, nat_le, nat_lt, unsigned_abs}
use Rattle.entries.specs.declared.entry.Entry.{Entry}
use Rattle.entries.specs.declared.entry.Entry.TheVariants.{Deposit, Withdraw, Register, Market, Close, Regulate, Meter, Evaluate}
use Rattle.book.specs.Standing.{hours, index}

-- n for one party, nothing for the others
abbrev pub side : ℤ → ℤ → ℕ → ℤ
side party n p = cond (p == index party) n (pos 0)

-- the hours of a range on a day
abbrev pub in_hours : ℤ → ℤ → ℤ → ℕ → ℕ → Bool
in_hours day from to d t = d == index day && (nat_le (index from) t && nat_lt t (index from + hours from to))

-- a sale is added to the seller's position and taken from the buyer's
abbrev pub sold : ℤ → ℤ → ℤ → ℕ → ℤ
sold seller buyer kwh p = side seller kwh p +ℤ side buyer (neg_ℤ kwh) p

-- the kWh of an entry
abbrev pub traded : Entry → ℕ → ℕ → ℕ → ℤ
traded (Deposit party haler) p d t = pos 0
traded (Withdraw party haler) p d t = pos 0
traded (Register day from to seller buyer kwh) p d t = cond (in_hours day from to d t) (sold seller buyer kwh p) (pos 0)
traded (Market day from to seller buyer kwh price) p d t = cond (in_hours day from to d t) (sold seller buyer kwh p) (pos 0)
traded (Close day) p d t = pos 0
traded (Regulate day hour party kwh price) p d t = pos 0
traded (Meter day from to party kwh) p d t = pos 0
traded (Evaluate day stage) p d t = pos 0

-- hours × kWh × price are tenths; kWh come in steps of 100, so that hours × kWh / 10 is whole, and so is the cash
abbrev pub market_cash : ℤ → ℤ → ℤ → ℤ → ℤ
market_cash from to kwh price = pos (hours from to * unsigned_abs kwh / 10) *ℤ price

-- the halers of an entry
abbrev pub paid : Entry → ℕ → ℤ
paid (Deposit party haler) p = side party haler p
paid (Withdraw party haler) p = side party (neg_ℤ haler) p
paid (Register day from to seller buyer kwh) p = pos 0
paid (Market day from to seller buyer kwh price) p = side seller (market_cash from to kwh price) p +ℤ side buyer (neg_ℤ (market_cash from to kwh price)) p
paid (Close day) p = pos 0
paid (Regulate day hour party kwh price) p = pos 0
paid (Meter day from to party kwh) p = pos 0
paid (Evaluate day stage) p = pos 0
