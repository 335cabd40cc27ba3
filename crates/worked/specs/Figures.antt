-- The worked figures (docs/RULES.md, "Worked figures"), of the very definitions that the contracts of the engine cite. Assumes nothing.
--
--   worked_cells w   the cells of a worked hour
--   Figures          every worked figure
use Rattle.std.specs.Prelude.{◌≡◌, ℕ, ◌<◌, ◌≤◌, List, [], ◌∷◌, ℤ, pos, ◌-ℤ◌, neg_ℤ, Some, slice_index_or, unsigned_abs}
use Rattle.units.specs.Rounding.{Nearest, nearest, rounded}
use Rattle.hourly.specs.Cells.{CellFigures}
use Rattle.hourly.specs.Records.{HourFigures, delivered, no_deliveries}
use Rattle.pricing.specs.declared.prices.Prices.{Prices}
use Rattle.pricing.specs.Prices.{Bounded}
use Rattle.pricing.specs.Rules.{both, ladder, regulating}
use Rattle.sharing.specs.Rules.{largest_remainder, running}
use Rattle.sheet.specs.Bounds.{RowFigures, RowWithin}
use Rattle.sheet.specs.Evaluation.{HourFacts, amounts, first_amount, first_amounts, operator_part, remainder}
use Rattle.sheet.specs.Sheets.{hour_facts}
use Rattle.worked.specs.declared.hours.WorkedHour.{WorkedHour}
use Rattle.worked.specs.declared.hours.WorkedHour.TheVariants.{Traded, Corrected, Unmetered}

-- a cell with a position and a reading
abbrev pub metered : ℤ → ℤ → CellFigures
metered position reading = record { position = position; regulating = pos 0; tenths = pos 0; reading = Some reading; last = pos 0 }

-- the cells of a worked hour
abbrev pub worked_cells : WorkedHour → List CellFigures
worked_cells Traded = metered (pos 1000) (pos 900) ∷ metered (neg_ℤ (pos 1000)) (neg_ℤ (pos 1050)) ∷ []
worked_cells Corrected = metered (pos 1000) (pos 900) ∷ metered (neg_ℤ (pos 1000)) (neg_ℤ (pos 1000)) ∷ []
worked_cells Unmetered = record { position = pos 0; regulating = pos 100; tenths = pos 200000; reading = Some (pos 0); last = pos 0 } ∷ metered (pos 0) (pos 0) ∷ []

-- a worked hour, by its number in the day
abbrev pub worked : WorkedHour → HourFacts
worked w = hour_facts (pos 10) (worked_cells w) no_deliveries

-- tenths 15, -15, 14, -4
abbrev pub Roundings : Type 0
Roundings = (rounded (pos 15) ≡ pos 2) × (rounded (neg_ℤ (pos 15)) ≡ neg_ℤ (pos 2)) × (rounded (pos 14) ≡ pos 1) × (rounded (neg_ℤ (pos 4)) ≡ pos 0)

-- 10 halers over weights 1, 1, 1, by both sharing rules
abbrev pub Shares : Type 0
Shares = (running (pos 10) (1 ∷ 1 ∷ 1 ∷ []) ≡ pos 3 ∷ pos 3 ∷ pos 4 ∷ []) × (largest_remainder (pos 10) (1 ∷ 1 ∷ 1 ∷ []) ≡ pos 4 ∷ pos 3 ∷ pos 3 ∷ [])

-- upward 400 kWh at 3,000 and 100 kWh at 5,000
abbrev pub two_deliveries : HourFigures
two_deliveries = delivered (delivered no_deliveries (pos 400) (pos 3000)) (pos 100) (pos 5000)

-- their prices at system imbalance -2,000 and 0, whatever the default; the ladder's at -50,000, -50,001, 1 and 500,001, whatever was delivered
abbrev pub Pricings : Type 0
Pricings =
    ((default : ℤ) → regulating default (neg_ℤ (pos 2000)) two_deliveries ≡ record { long = pos 3400; short = pos 5000 })
    × ((default : ℤ) → regulating default (pos 0) two_deliveries ≡ both (pos 5000))
    × ((h : HourFigures) → (ladder (neg_ℤ (pos 50000)) h ≡ both (pos 3000)) × (ladder (neg_ℤ (pos 50001)) h ≡ both (pos 4500)) × (ladder (pos 1) h ≡ both (pos 1200)) × (ladder (pos 500001) h ≡ both (neg_ℤ (pos 500))))

-- the worked hours by the ladder and the running rule; a payment is the new amount less the former one
abbrev pub Hours : Type 0
Hours =
    (first_amounts ladder (worked Traded) ≡ neg_ℤ (pos 30000) ∷ neg_ℤ (pos 15000) ∷ [])
    × (remainder ladder (worked Traded) ≡ pos 45000)
    × (amounts ladder running (worked Traded) ≡ neg_ℤ (pos 9231) ∷ pos 9231 ∷ [])
    × (amounts ladder running (worked Corrected) ≡ neg_ℤ (pos 15790) ∷ pos 15790 ∷ [])
    × (slice_index_or (amounts ladder running (worked Corrected)) 0 (pos 0) -ℤ slice_index_or (amounts ladder running (worked Traded)) 0 (pos 0) ≡ neg_ℤ (pos 6559))
    × (slice_index_or (amounts ladder running (worked Corrected)) 1 (pos 0) -ℤ slice_index_or (amounts ladder running (worked Traded)) 1 (pos 0) ≡ pos 6559)
    × (amounts ladder running (worked Unmetered) ≡ neg_ℤ (pos 10000) ∷ pos 0 ∷ [])
    × (operator_part ladder (worked Unmetered) ≡ pos 10000)

-- the rounding that the definitions compute is the nearest, halves away from 0, whatever is divided
abbrev pub Rounds : Type 0
Rounds = (t : ℤ) (d : ℕ) → 0 < d → Nearest t d (nearest t d)

-- how large a first amount can get: at most 30,000,000,000 halers either way, at any prices in range and on any row within a cell's bounds
abbrev pub FirstsSmall : Type 0
FirstsSmall = (p : Prices) (r : RowFigures) → Bounded p → RowWithin r → unsigned_abs (first_amount p r) ≤ 30000000000

-- every worked figure
pub record Figures : Type 0 where
  pub roundings : Roundings
  pub shares : Shares
  pub pricings : Pricings
  pub hours : Hours
  pub rounds : Rounds
  pub firsts : FirstsSmall
