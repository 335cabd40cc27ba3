-- A run of a list changed, as a write to a part of a slice leaves it. Assumes nothing.
use Rattle.std.proofs.Common.{◌≡◌, ℕ, ◌+◌, List, ◌++◌, map, length, take, drop, ap, ◌∙◌, ap₂, arith, length-append, length-drop, length-take}
use borrow.Rule.Slice.PartMut.{put_mid}
use lib.ListN.{length-map}
use Rattle.std.proofs.lemmas.List.{drop-drop}
use Rattle.book.specs.Posting.{changed}

-- as long as it was
pub length-changed : {X : Type 0} (f : X → X) (a n : ℕ) (xs : List X) → length (changed f a n xs) ≡ length xs
length-changed f a n xs =
    let part = map f (take n (drop a xs)) in
    let rest = drop (a + n) xs in
    omega (arith, length-append (take a xs) (part ++ rest), length-append part rest, length-map (take n (drop a xs)) f, length-take a xs, length-take n (drop a xs), length-drop a xs, length-drop (a + n) xs)
