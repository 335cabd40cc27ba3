-- What a balanced sheet tells, and the sheet of an hour's cells from the first step to the last. Assumes nothing.
--
--   line_at b k            the line of the party at place k, counted from 0
--   totals b               the hour as a whole
--   written b              every figure that stands on a balanced sheet
--   evaluated f g h        every figure of the hour h, by the pricing map f and the sharing map g
--   Conserves f g          amounts and operator's part of every hour add up to 0
use Rattle.std.specs.Prelude.{◌≡◌, ℕ, List, map, get_or, ℤ, pos, ◌+ℤ◌, slice_index_or}
use Rattle.units.specs.Sums.{page, sum_n, sum_z}
use Rattle.hourly.specs.Cells.{CellFigures}
use Rattle.hourly.specs.Records.{HourFigures}
use Rattle.pricing.specs.Prices.{PriceMap}
use Rattle.pricing.specs.declared.prices.Prices.{Prices}
use Rattle.sheet.specs.declared.balanced.Balanced.{Balanced}
use Rattle.sheet.specs.declared.line.Line.{Line}
use Rattle.sheet.specs.declared.line.Totals.{Totals}
use Rattle.sheet.specs.Bounds.{zero_row}
use Rattle.sheet.specs.Evaluation.{HourFacts, ShareMap, amounts, first_amounts, imbalance, operator_part, parts, price_for, prices_of, remainder, system_imbalance, weights}
use Rattle.sheet.specs.Gathering.{facts, rows_gathered}

-- the line of the party at place k
abbrev pub line_at : Balanced → ℕ → Line
line_at b k = record {
  position = (get_or b.priced.gathered.rows k zero_row).position;
  regulating = (get_or b.priced.gathered.rows k zero_row).regulating;
  tenths = (get_or b.priced.gathered.rows k zero_row).tenths;
  reading = (get_or b.priced.gathered.rows k zero_row).reading;
  imbalance = slice_index_or b.priced.imbalances k (pos 0);
  price = price_for b.priced.prices (slice_index_or b.priced.imbalances k (pos 0));
  first = slice_index_or b.priced.firsts k (pos 0);
  part = slice_index_or b.parts k (pos 0);
  amount = slice_index_or b.amounts k (pos 0);
}

-- the hour as a whole
abbrev pub totals : Balanced → Totals
totals b = record { parties = b.priced.gathered.count; system = b.priced.system; prices = b.priced.prices; remainder = b.remainder; weight = b.weight; operator = b.operator }

-- what is known of an hour whose cells and deliveries are given
abbrev pub hour_facts : ℤ → List CellFigures → HourFigures → HourFacts
hour_facts hour cells d = record { rows = rows_gathered hour cells; deliveries = d }

-- every figure of an hour, from the first step to the last; lists lie on pages of 20 places
pub record SheetFigures : Type 0 where
  pub hour : HourFacts
  pub imbalances : List ℤ
  pub system : ℤ
  pub prices : Prices
  pub firsts : List ℤ
  pub remainder : ℤ
  pub weight : ℤ
  pub parts : List ℤ
  pub amounts : List ℤ
  pub operator : ℤ

-- those that stand on a balanced sheet
abbrev pub written : Balanced → SheetFigures
written b = record {
  hour = facts b.priced.gathered;
  imbalances = b.priced.imbalances;
  system = b.priced.system;
  prices = b.priced.prices;
  firsts = b.priced.firsts;
  remainder = b.remainder;
  weight = b.weight;
  parts = b.parts;
  amounts = b.amounts;
  operator = b.operator;
}

-- those of an hour, by a pricing map f and a sharing map g
abbrev pub evaluated : PriceMap → ShareMap → HourFacts → SheetFigures
evaluated f g h = record {
  hour = h;
  imbalances = page (map imbalance h.rows);
  system = system_imbalance h.rows;
  prices = prices_of f h;
  firsts = page (first_amounts f h);
  remainder = remainder f h;
  weight = pos (sum_n (weights h.rows));
  parts = page (parts f g h);
  amounts = page (amounts f g h);
  operator = operator_part f h;
}

-- in every hour amounts and operator's part add up to 0
abbrev pub Conserves : PriceMap → ShareMap → Type 0
Conserves f g = (h : HourFacts) → sum_z (amounts f g h) +ℤ operator_part f h ≡ pos 0
