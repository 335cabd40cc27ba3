-- A sale in the cells where it lies. Assumes nothing.
use Rattle.std.specs.Prelude.{ℕ, ◌+◌, ◌*◌, Bool, not, ◌&&◌, List, take, drop, ℤ, pos, ◌+ℤ◌, neg_ℤ, slice_index_or}
use Rattle.hourly.specs.declared.plain.PlainCell.{PlainCell}
use Rattle.hourly.specs.Bounds.{within}
use Rattle.hourly.specs.Cells.{blank, read}
use Rattle.cover.specs.declared.trade.Trade.{Trade}
use Rattle.entries.specs.declared.entry.DayState.{DayState}
use Rattle.entries.specs.declared.entry.Sizes.{Sizes}
use Rattle.entries.specs.declared.entry.Entry.{Entry}
use Rattle.entries.specs.declared.entry.Entry.TheVariants.{Deposit, Withdraw, Register, Market, Close, Regulate, Meter, Evaluate}
use Rattle.book.specs.declared.checks.Sale.{Sale}
use Rattle.book.specs.Standing.{hours, index}
use Rattle.book.specs.Effects.{sold}
use Rattle.book.specs.Held.{Held, row_at}

-- the sale of an entry; none where it trades nothing
abbrev pub no_sale : Sale
no_sale = record { seller = 0; buyer = 0; from = 0; hours = 0; kwh = pos 0 }

abbrev pub sale_at : Sizes → ℤ → ℤ → ℤ → ℤ → ℤ → ℤ → Sale
sale_at s day from to seller buyer kwh = record { seller = row_at s (index seller) (index day); buyer = row_at s (index buyer) (index day); from = index from; hours = hours from to; kwh = kwh }

abbrev pub sale_of : Sizes → Entry → Sale
sale_of s (Deposit party haler) = no_sale
sale_of s (Withdraw party haler) = no_sale
sale_of s (Register day from to seller buyer kwh) = sale_at s day from to seller buyer kwh
sale_of s (Market day from to seller buyer kwh price) = sale_at s day from to seller buyer kwh
sale_of s (Close day) = no_sale
sale_of s (Regulate day hour party kwh price) = no_sale
sale_of s (Meter day from to party kwh) = no_sale
sale_of s (Evaluate day stage) = no_sale

-- whether a sale of kWh would take the position of seller or buyer past 499,999 in magnitude
abbrev pub over : ℤ → PlainCell → PlainCell → Bool
over kwh seller buyer = not (within 499999 ((read seller).position +ℤ kwh) && within 499999 ((read buyer).position +ℤ neg_ℤ kwh))

-- in the hour t
abbrev pub beyond_in : List PlainCell → Sale → ℕ → Bool
beyond_in cells s t = over s.kwh (slice_index_or cells (s.seller + t) blank) (slice_index_or cells (s.buyer + t) blank)

-- what an entry trades of a party, as a run of the party's own cells
abbrev pub trade : ℤ → ℤ → ℤ → ℤ → Trade
trade day from to kwh = record { start = index day * 24 + index from; end = index day * 24 + index from + hours from to; kwh = kwh }

abbrev pub no_trade : Trade
no_trade = record { start = 0; end = 0; kwh = pos 0 }

abbrev pub trade_of : Entry → ℕ → Trade
trade_of (Deposit party haler) p = no_trade
trade_of (Withdraw party haler) p = no_trade
trade_of (Register day from to seller buyer kwh) p = trade day from to (sold seller buyer kwh p)
trade_of (Market day from to seller buyer kwh price) p = trade day from to (sold seller buyer kwh p)
trade_of (Close day) p = no_trade
trade_of (Regulate day hour party kwh price) p = no_trade
trade_of (Meter day from to party kwh) p = no_trade
trade_of (Evaluate day stage) p = no_trade

-- the cells of a party, day by day
abbrev pub cells_of : Held → ℕ → List PlainCell
cells_of h p = take (h.sizes.days * 24) (drop (p * (h.sizes.days * 24)) h.cells)

-- the states of the book's days
abbrev pub states_of : Held → List DayState
states_of h = take h.sizes.days h.states
