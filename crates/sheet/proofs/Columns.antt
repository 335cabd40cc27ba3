-- A figure of each element laid on a page of 20 places, one by one. Assumes nothing.
use Rattle.std.proofs.Common.{◌≡◌, ℕ, suc, ◌+◌, ◌-◌, ◌<◌, ◌≤◌, List, [], ◌∷◌, ◌++◌, map, length, get_or, take, set, replicate, sym, ap, ◌∙◌, append_assoc, arith, length-append, length-take}
use lib.ListN.{length-map, length-replicate}
use Rattle.std.proofs.lemmas.List.{map_more, set_at, length_push}

-- a list on a page of 20 places, with d past the last
abbrev pub padded : {Y : Type 0} → Y → List Y → List Y
padded d ys = ys ++ replicate (20 - length ys) d

pub length_padded : {Y : Type 0} (d : Y) (ys : List Y) → length ys ≤ 20 → length (padded d ys) ≡ 20
length_padded d ys h = omega (arith, length-append ys (replicate (20 - length ys) d), length-replicate (20 - length ys) d)

-- a page with one more, where the first d stood
padded_push : {Y : Type 0} (d : Y) (ys : List Y) (i : ℕ) (z : Y) → length ys ≡ i → i < 20 → set (padded d ys) i z ≡ padded d (ys ++ z ∷ [])
padded_push {Y = Y} d ys i z e h =
    let a : 20 - length ys ≡ suc (19 - i) = omega arith in
    let b : 20 - length (ys ++ z ∷ []) ≡ 19 - i = omega (arith, length_push ys z) in
    ap (λ (n : ℕ). set (ys ++ replicate n d) i z) a
    ∙ set_at ys d (replicate (19 - i) d) z i e
    ∙ sym (append_assoc ys (z ∷ []) (replicate (19 - i) d))
    ∙ ap (λ (n : ℕ). (ys ++ z ∷ []) ++ replicate n d) (sym b)

-- a column with one more figure
pub column_more : {X Y : Type 0} (d : Y) (f : X → Y) (xs : List X) (i : ℕ) (x : X) (ps : List Y) (z : Y) → i < length xs → length xs ≤ 20 → ps ≡ padded d (map f (take i xs)) → z ≡ f (get_or xs i x) → set ps i z ≡ padded d (map f (take (i + 1) xs))
column_more {Y = Y} d f xs i x ps z h few e v =
    let l : length (map f (take i xs)) ≡ i = omega (arith, length-map (take i xs) f, length-take i xs) in
    ap (λ (qs : List Y). set qs i z) e
    ∙ padded_push d (map f (take i xs)) i z l (omega arith)
    ∙ ap (λ (y : Y). padded d (map f (take i xs) ++ y ∷ [])) v
    ∙ ap (padded d) (sym (map_more f xs i x h))
