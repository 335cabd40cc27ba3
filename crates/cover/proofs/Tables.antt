-- Tables of parametric prices in range. Assumes nothing.
use Rattle.std.proofs.Common.{◌≡◌, ℕ, zero, suc, ◌+◌, ◌<◌, ◌≤◌, Bool, true, ◌&&◌, List, [], ◌∷◌, length, drop, ap, ◌∙◌, arith}
use Rattle.std.proofs.lemmas.Bool.{and_parts, leb-true}
use Rattle.std.proofs.lemmas.List.{at_drop_more}
use Rattle.cover.specs.declared.hour.HourPrices.{HourPrices}
use Rattle.cover.specs.Prices.{in_range, pair_in_range, prices}
use Rattle.cover.specs.Need.{price_at}

-- each hour's prices are, and past the table there are none
pub price_small : (ps : List HourPrices) → in_range ps ≡ true → (k : ℕ) → ((price_at ps k).short ≤ 99999) × ((price_at ps k).long ≤ 99999)
price_small [] h k = (omega arith, omega arith)
price_small (p ∷ ps) h zero =
    let a = and_parts _ _ h in
    let b = and_parts _ _ a.0 in
    (leb-true _ _ b.0, leb-true _ _ b.1)
price_small (p ∷ ps) h (suc k) = price_small ps (and_parts _ _ h).1 k

-- a table from an hour in range on is in range if the hours after it are
pub range_more : (ps : List HourPrices) (i : ℕ) → i < length ps → pair_in_range (price_at ps i) ≡ true → in_range (drop i ps) ≡ in_range (drop (i + 1) ps)
range_more ps i h y = at_drop_more in_range ps i (prices 0 0) h ∙ ap (λ (b : Bool). b && in_range (drop (i + 1) ps)) y
