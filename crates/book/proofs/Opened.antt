-- What can be opened has pages of its size. Assumes nothing.
use Rattle.std.proofs.Common.{◌≡◌, ℕ, ◌*◌, ◌≤◌, true, ◌&&◌, eqb, ℤ, pos, nat_abs, arith}
use Rattle.std.proofs.lemmas.Int.{ints}
use lib.Signed.{le_z}
use Rattle.std.proofs.lemmas.Bool.{and_parts, eqb-true}
use Rattle.entries.specs.Fields.{between}
use Rattle.book.specs.Held.{Laid, paged}
use Rattle.book.specs.Opening.{openable, sizes_of}

few : (n : ℕ) (z : ℤ) → between 1 n z ≡ true → (1 ≤ nat_abs z) × (nat_abs z ≤ n)
few n z h =
    let p = and_parts (le_z (pos 1) z) (le_z z (pos n)) h in
    let a = p.0 in
    let b = p.1 in
    (grind (arith, ints), grind (arith, ints))

pub laid : (parties days : ℤ) (cells records : ℕ) → openable parties days cells records ≡ true → Laid (sizes_of parties days) cells records
laid parties days cells records h =
    let a = and_parts (between 1 20 parties && between 1 62 days) (paged (sizes_of parties days) cells records) h in
    let b = and_parts (between 1 20 parties) (between 1 62 days) a.0 in
    let c = and_parts (eqb cells (nat_abs parties * nat_abs days * 24)) (eqb records (nat_abs days * 24)) a.1 in
    let p = few 20 parties b.0 in
    let d = few 62 days b.1 in
    ((p.0, p.1, d.0, d.1), eqb-true _ _ c.0, eqb-true _ _ c.1)
