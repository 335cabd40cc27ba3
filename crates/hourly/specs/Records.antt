-- Hour records, the plain numbers that they lie as, and what a delivery adds. Assumes nothing.
--
--   record_figures r   what a record says, without the proofs that it is in bounds
--   record_sound p     plain numbers are those of some record
--   record_read p      the record that they stand for: the cleared one if they are not sound
--   record_plain h     figures laid down as plain numbers
use Rattle.std.specs.Prelude.{ℕ, ◌+◌, Bool, true, false, cond, ◌&&◌, ℤ, pos, ◌+ℤ◌, ◌*ℤ◌, is_some, Some, None, Option, ◌==◌, int_lt, nat_le, unsigned_abs}
use Rattle.std.specs.Option.{unwrap_or}
use Rattle.hourly.specs.declared.deliveries.Deliveries.{Deliveries}
use Rattle.hourly.specs.declared.record.HourRecord.{HourRecord}
use Rattle.hourly.specs.declared.plain.PlainDeliveries.{PlainDeliveries}
use Rattle.hourly.specs.declared.plain.PlainRecord.{PlainRecord}
use Rattle.hourly.specs.Bounds.{deliveries_ok, further, within}

-- the deliveries of one direction, without the proof that they are in bounds
pub record DirectionFigures : Type 0 where
  pub kwh : ℕ
  pub total : ℤ
  pub extreme : Option ℤ

abbrev pub deliveries_figures : {D : _} {d : _} → Deliveries D d → DirectionFigures
deliveries_figures r = record { kwh = r.kwh; total = r.total; extreme = r.extreme }

-- the deliveries of an hour, upward and downward apart
pub record HourFigures : Type 0 where
  pub upward : DirectionFigures
  pub downward : DirectionFigures

abbrev pub record_figures : HourRecord → HourFigures
record_figures r = record { upward = deliveries_figures r.upward; downward = deliveries_figures r.downward }

-- no delivery
abbrev pub nothing : DirectionFigures
nothing = record { kwh = 0; total = pos 0; extreme = None }

-- a new book's record
abbrev pub no_deliveries : HourFigures
no_deliveries = record { upward = nothing; downward = nothing }

-- the record of an hour is within its bounds
abbrev pub in_bounds : HourFigures → Bool
in_bounds h = deliveries_ok true h.upward.kwh h.upward.total h.upward.extreme && deliveries_ok false h.downward.kwh h.downward.total h.downward.extreme

-- the deliveries that plain numbers give
abbrev pub deliveries_given : PlainDeliveries → DirectionFigures
deliveries_given p = record { kwh = p.kwh; total = p.total; extreme = cond p.delivered (Some p.extreme) None }

-- plain numbers of a direction are within the bounds, and where there was no delivery the price is 0
abbrev pub deliveries_sound : Bool → PlainDeliveries → Bool
deliveries_sound up p = deliveries_ok up p.kwh p.total (cond p.delivered (Some p.extreme) None) && cond p.delivered true (unsigned_abs p.extreme == 0)

abbrev pub record_sound : PlainRecord → Bool
record_sound p = deliveries_sound true p.upward && deliveries_sound false p.downward

-- the record that plain numbers stand for
abbrev pub record_read : PlainRecord → HourFigures
record_read p = cond (record_sound p) (record { upward = deliveries_given p.upward; downward = deliveries_given p.downward }) no_deliveries

-- deliveries as plain numbers
abbrev pub deliveries_plain : DirectionFigures → PlainDeliveries
deliveries_plain d = record { kwh = d.kwh; total = d.total; delivered = is_some d.extreme; extreme = unwrap_or d.extreme (pos 0) }

abbrev pub record_plain : HourFigures → PlainRecord
record_plain h = record { upward = deliveries_plain h.upward; downward = deliveries_plain h.downward }

-- the extreme price after a delivery at a price
abbrev pub extreme_of : Bool → Option ℤ → ℤ → ℤ
extreme_of up None price = price
extreme_of up (Some extreme) price = further up extreme price

-- a direction after a delivery of a magnitude of kWh
abbrev pub with_delivery : Bool → DirectionFigures → ℕ → ℤ → DirectionFigures
with_delivery up d kwh price = record { kwh = d.kwh + kwh; total = d.total +ℤ pos kwh *ℤ price; extreme = Some (extreme_of up d.extreme price) }

-- a direction has room for a delivery: of 1 kWh at least, its total then 499,999 kWh at most, at a price within ±99,999
abbrev pub takes : DirectionFigures → ℕ → ℤ → Bool
takes d kwh price = nat_le 1 kwh && nat_le (d.kwh + kwh) 499999 && within 99999 price

-- an hour has room for a delivery, which is downward if its kWh are negative
abbrev pub deliverable : HourFigures → ℤ → ℤ → Bool
deliverable h kwh price = cond (int_lt kwh (pos 0)) (takes h.downward (unsigned_abs kwh) price) (takes h.upward (unsigned_abs kwh) price)

-- an hour after a delivery
abbrev pub delivered : HourFigures → ℤ → ℤ → HourFigures
delivered h kwh price =
    cond (int_lt kwh (pos 0))
    (record { upward = h.upward; downward = with_delivery false h.downward (unsigned_abs kwh) price })
    (record { upward = with_delivery true h.upward (unsigned_abs kwh) price; downward = h.downward })
