-- A rule on magnitudes, with the sign restored: what it keeps of magnitudes gives the laws. Assumes nothing.
use Rattle.std.specs.Prelude.{◌≡◌, ℕ, zero, suc, ◌+◌, ◌*◌, ◌<◌, Bool, true, false, List, [], ◌∷◌, map, length, ℤ, pos, negsuc, ◌+ℤ◌, ◌-ℤ◌, ◌*ℤ◌, slice_index, slice_index_or, unsigned_abs, refl}
use Rattle.std.proofs.Common.{arith, sym, ap, subst, ◌∙◌}
use Rattle.std.proofs.lemmas.List.{length-map}
use Rattle.std.proofs.lemmas.Int.{ints}
use Rattle.units.specs.Sums.{sum_n, sum_z}
use Rattle.sharing.specs.Laws.{Lawful}
use Rattle.sharing.specs.Rules.{signed, below_zero, by_magnitude}

-- The sign

pub signed_zero : (b : Bool) → signed b 0 ≡ pos 0
signed_zero false = refl
signed_zero true = refl

signed_sum : (b : Bool) (x y : ℕ) → signed b (x + y) ≡ signed b x +ℤ signed b y
signed_sum false x y = refl
signed_sum true x y = omega (arith, ints)

signed_back : (n : ℤ) → signed (below_zero n) (unsigned_abs n) ≡ n
signed_back (pos n) = refl
signed_back (negsuc n) = refl

sum_z_signed : (b : Bool) (xs : List ℕ) → sum_z (map (signed b) xs) ≡ signed b (sum_n xs)
sum_z_signed b [] = sym (signed_zero b)
sum_z_signed b (x ∷ xs) = ap (λ (z : ℤ). signed b x +ℤ z) (sum_z_signed b xs) ∙ sym (signed_sum b x (sum_n xs))

-- past the end of the list both sides are 0
pub get_or_signed : (b : Bool) (xs : List ℕ) (k : ℕ) → slice_index_or (map (signed b) xs) k (pos 0) ≡ signed b (slice_index xs k)
get_or_signed b [] k = sym (signed_zero b)
get_or_signed b (x ∷ xs) zero = refl
get_or_signed b (x ∷ xs) (suc k) = get_or_signed b xs k

fair_signed : (n : ℤ) (p W w : ℕ) → (p * W < unsigned_abs n * w + W) × (unsigned_abs n * w < p * W + W) → unsigned_abs (signed (below_zero n) p *ℤ pos W -ℤ n *ℤ pos w) < W
fair_signed (pos n) p W w h = omega (arith, ints)
fair_signed (negsuc n) zero W w h = omega (arith, ints)
fair_signed (negsuc n) (suc p) W w h = omega (arith, ints)

-- The laws

-- the laws of a rule on magnitudes
pub record Splits (f : ℕ → List ℕ → List ℕ) : Type 0 where
  pub len : (m : ℕ) (ws : List ℕ) → length (f m ws) ≡ length ws
  pub whole : (m : ℕ) (ws : List ℕ) → 0 < sum_n ws → sum_n (f m ws) ≡ m
  pub nothing : (m : ℕ) (ws : List ℕ) (k : ℕ) → k < length ws → slice_index ws k ≡ 0 → slice_index (f m ws) k ≡ 0
  pub fair : (m : ℕ) (ws : List ℕ) (k : ℕ) → 0 < sum_n ws → k < length ws → (slice_index (f m ws) k * sum_n ws < m * slice_index ws k + sum_n ws) × (m * slice_index ws k < slice_index (f m ws) k * sum_n ws + sum_n ws)
  pub none : (m : ℕ) (ws : List ℕ) (k : ℕ) → sum_n ws ≡ 0 → slice_index (f m ws) k ≡ 0

pub lawful : (f : ℕ → List ℕ → List ℕ) → Splits f → Lawful (by_magnitude f)
lawful f s = record {
  len = λ n ws. length-map (f (unsigned_abs n) ws) (signed (below_zero n)) ∙ s.len (unsigned_abs n) ws;
  whole = λ n ws h. sum_z_signed (below_zero n) (f (unsigned_abs n) ws) ∙ ap (signed (below_zero n)) (s.whole (unsigned_abs n) ws h) ∙ signed_back n;
  nothing = λ n ws k h e. get_or_signed (below_zero n) (f (unsigned_abs n) ws) k ∙ ap (signed (below_zero n)) (s.nothing (unsigned_abs n) ws k h e) ∙ signed_zero (below_zero n);
  fair = λ n ws k p h.
      subst (λ (z : ℤ). unsigned_abs (z *ℤ pos (sum_n ws) -ℤ n *ℤ pos (slice_index ws k)) < sum_n ws) (sym (get_or_signed (below_zero n) (f (unsigned_abs n) ws) k))
      (fair_signed n (slice_index (f (unsigned_abs n) ws) k) (sum_n ws) (slice_index ws k) (s.fair (unsigned_abs n) ws k p h));
  none = λ n ws k e. get_or_signed (below_zero n) (f (unsigned_abs n) ws) k ∙ ap (signed (below_zero n)) (s.none (unsigned_abs n) ws k e) ∙ signed_zero (below_zero n);
}

pub no_sum : (xs : List ℕ) → ((k : ℕ) → slice_index xs k ≡ 0) → sum_n xs ≡ 0
no_sum [] h = refl
no_sum (x ∷ xs) h = omega (arith, h 0, no_sum xs (λ k. h (suc k)))

-- two rules with the same shares keep the same laws
pub splits_same : (f g : ℕ → List ℕ → List ℕ) → ((m : ℕ) (ws : List ℕ) → f m ws ≡ g m ws) → Splits g → Splits f
splits_same f g e s = record {
  len = λ m ws. ap length (e m ws) ∙ s.len m ws;
  whole = λ m ws h. ap sum_n (e m ws) ∙ s.whole m ws h;
  nothing = λ m ws k h z. ap (λ (xs : List ℕ). slice_index xs k) (e m ws) ∙ s.nothing m ws k h z;
  fair = λ m ws k p h. subst (λ (xs : List ℕ). (slice_index xs k * sum_n ws < m * slice_index ws k + sum_n ws) × (m * slice_index ws k < slice_index xs k * sum_n ws + sum_n ws)) (sym (e m ws)) (s.fair m ws k p h);
  none = λ m ws k z. ap (λ (xs : List ℕ). slice_index xs k) (e m ws) ∙ s.none m ws k z;
}
