-- Cover from entry to entry of a history. Assumes nothing.
use Rattle.std.proofs.Common.{◌≡◌, ℕ, Bool, true, false, cond, not, ◌||◌, eqb, List, [], ◌∷◌, map, ℤ, pos, ◌+ℤ◌, neg_ℤ, nat_abs, Some, None, Ok, Err, Option, unwrap_or, sym, refl, ap, ◌∙◌, subst, ap₂, arith}
use Rattle.std.proofs.lemmas.Int.{ints}
use lib.IntN.{+ℤ_idr}
use lib.Signed.{le_z}
use Rattle.std.proofs.lemmas.Bool.{eqb-true, false≢true, not-false, true≢false}
use Rattle.needs.specs.Need.{counted}
use Rattle.entries.specs.declared.entry.DayState.{DayState}
use Rattle.entries.specs.declared.entry.DayState.TheVariants.{Open, Closed, Daily, Monthly, Final}
use Rattle.entries.specs.declared.entry.Entry.{Entry}
use Rattle.entries.specs.declared.entry.Entry.TheVariants.{Deposit, Withdraw, Register, Market, Close, Regulate, Meter, Evaluate}
use Rattle.entries.specs.declared.entry.Sizes.{Sizes}
use Rattle.entries.specs.declared.refusal.Refusal.{Refusal}
use Rattle.entries.specs.declared.refusal.Refusal.TheVariants.{NotCovered}
use Rattle.entries.specs.Replies.{Reply}
use Rattle.entries.specs.declared.reply.Receipt.TheVariants.{Accepted}
use Rattle.entries.specs.Fields.{field_checks, first_of}
use Rattle.entries.specs.Sane.{Numbered, Sane}
use Rattle.entries.specs.States.{after}
use Rattle.entries.proofs.Passed.{passed, sane}
use Rattle.book.specs.Standing.{Standing, Terms, index}
use Rattle.book.specs.Effects.{in_hours, market_cash, paid, traded}
use Rattle.book.specs.Checks.{balance_at, book_checks, cash_checks, cover_check, cover_checks, covered_of, kwh_checks, need_after, need_at, passes_cover, position_after, refusal_at, state_checks}
use Rattle.book.specs.Posting.{replied_by}
use Rattle.runs.specs.After.{state_after}
use Rattle.runs.proofs.Taken.{both_pass}
use Rattle.histories.specs.Histories.{History, accepted, cash, position, standing, step}
use Rattle.histories.specs.Covered.{KeepsCover, LeavesCovered, among, covered}
use Rattle.book.proofs.Covering.{need-same}
use Rattle.histories.proofs.Following.{accepted_makes, refused_stays}

-- a day that counts goes on counting: only an evaluation ends that
still_counted : (e : Entry) (d : ℕ) (s : DayState) → counted (state_after e d s) ≡ counted s
still_counted (Deposit party haler) d s = refl
still_counted (Withdraw party haler) d s = refl
still_counted (Register day from to seller buyer kwh) d s = refl
still_counted (Market day from to seller buyer kwh price) d s = refl
still_counted (Close day) d s = go (eqb d (index day)) s
  where
    go : (b : Bool) (s : DayState) → counted (cond b (unwrap_or (after s (Close day)) s) s) ≡ counted s
    go false s = refl
    go true Open = refl
    go true Closed = refl
    go true Daily = refl
    go true Monthly = refl
    go true Final = refl
still_counted (Regulate day hour party kwh price) d s = refl
still_counted (Meter day from to party kwh) d s = refl
still_counted (Evaluate day stage) d s = refl

module _ (m : Terms) (h : History) (e : Entry) (p : ℕ) where
  -- what the check looks at is how it is afterwards
  cover_after : refusal_at m (standing m h) e ≡ None → covered m (step e (Ok Accepted) ∷ h) p ≡ passes_cover m (standing m h) e p
  unfolding passes_cover
  cover_after ok =
      let v = standing m h in
      let w = standing m (step e (Ok Accepted) ∷ h) in
      ap (λ n. le_z (pos n) (balance_at w p))
      (need-same m.table w.hours v.hours (λ d. counted (w.state d)) (λ d. counted (v.state d)) (λ d t. (w.cell p d t).position) (position_after v e p) m.sizes.days
      (λ d i. refl)
      (λ d i. ap counted ((accepted_makes m h e ok).state d i) ∙ still_counted e d (v.state d))
      (λ d t i j. refl))

  -- a refused entry leaves it
  cover_stays : (r : Refusal) → covered m (step e (Err r) ∷ h) p ≡ covered m h p
  cover_stays r =
      let v = standing m h in
      let w = standing m (step e (Err r) ∷ h) in
      ap₂ (λ n z. le_z (pos n) (z +ℤ (v.account p).settled))
      (need-same m.table w.hours v.hours (λ d. counted (w.state d)) (λ d. counted (v.state d)) (λ d t. (w.cell p d t).position) (λ d t. (v.cell p d t).position) m.sizes.days
      (λ d i. refl)
      (λ d i. ap counted (sym ((refused_stays m h e r).state d i)))
      (λ d t i j. +ℤ_idr (position h p d t)))
      (+ℤ_idr (cash h p))

-- where no check of cover fails, every party that is checked passes
cover_passed : (m : Terms) (v : Standing) (e : Entry) (zs : List ℤ) (p : ℕ) → first_of (map (cover_check m v e) zs) ≡ None → among p zs ≡ true → passes_cover m v e p ≡ true
cover_passed m v e [] p none here = absurd (false≢true here)
cover_passed m v e (z ∷ zs) p none here =
    let a = passed (not (passes_cover m v e (index z))) (NotCovered z) (first_of (map (cover_check m v e) zs)) none in
    go a.0 (λ there. cover_passed m v e zs p a.1 there) (eqb p (index z)) refl here
  where
    go : not (passes_cover m v e (index z)) ≡ false → (among p zs ≡ true → passes_cover m v e p ≡ true) → (b : Bool) → eqb p (index z) ≡ b → (b || among p zs) ≡ true → passes_cover m v e p ≡ true
    go head rest true is h = ap (passes_cover m v e) (eqb-true p (index z) is) ∙ not-false _ head
    go head rest false is h = rest h

-- The parties that an entry does not ask cover of

quiet : (i s b : Bool) (x y : ℤ) → (s || (b || false)) ≡ false → cond i (cond s x (pos 0) +ℤ cond b y (pos 0)) (pos 0) ≡ pos 0
quiet false s b x y out = refl
quiet true true b x y out = absurd (true≢false out)
quiet true false true x y out = absurd (true≢false out)
quiet true false false x y out = refl

-- it trades nothing for them
untraded : (e : Entry) (p : ℕ) → among p (covered_of e) ≡ false → (d t : ℕ) → traded e p d t ≡ pos 0
untraded (Deposit party haler) p out d t = refl
untraded (Withdraw party haler) p out d t = refl
untraded (Register day from to seller buyer kwh) p out d t = quiet (in_hours day from to d t) (eqb p (index seller)) (eqb p (index buyer)) kwh (neg_ℤ kwh) out
untraded (Market day from to seller buyer kwh price) p out d t = quiet (in_hours day from to d t) (eqb p (index seller)) (eqb p (index buyer)) kwh (neg_ℤ kwh) out
untraded (Close day) p out d t = refl
untraded (Regulate day hour party kwh price) p out d t = refl
untraded (Meter day from to party kwh) p out d t = refl
untraded (Evaluate day stage) p out d t = refl

not_negative : (n : ℕ) (z : ℤ) → Numbered n z → le_z (pos 0) z ≡ true
not_negative n z k = let a : z ≡ pos (nat_abs z) = k.0 in grind (arith, ints)

-- and takes nothing from them
unpaid : (sizes : Sizes) (e : Entry) → Sane sizes e → (p : ℕ) → among p (covered_of e) ≡ false → le_z (pos 0) (paid e p) ≡ true
unpaid sizes (Deposit party haler) k p out = go (eqb p (index party))
  where
    go : (b : Bool) → le_z (pos 0) (cond b haler (pos 0)) ≡ true
    go true = not_negative 1000000000000 haler k.1
    go false = refl
unpaid sizes (Withdraw party haler) k p out = go (eqb p (index party)) out
  where
    go : (b : Bool) → (b || false) ≡ false → le_z (pos 0) (cond b (neg_ℤ haler) (pos 0)) ≡ true
    go true out = absurd (true≢false out)
    go false out = refl
unpaid sizes (Register day from to seller buyer kwh) k p out = refl
unpaid sizes (Market day from to seller buyer kwh price) k p out = go (eqb p (index seller)) (eqb p (index buyer)) (market_cash from to kwh price) (neg_ℤ (market_cash from to kwh price)) out
  where
    go : (s b : Bool) (x y : ℤ) → (s || (b || false)) ≡ false → le_z (pos 0) (cond s x (pos 0) +ℤ cond b y (pos 0)) ≡ true
    go true b x y out = absurd (true≢false out)
    go false true x y out = absurd (true≢false out)
    go false false x y out = refl
unpaid sizes (Close day) k p out = refl
unpaid sizes (Regulate day hour party kwh price) k p out = refl
unpaid sizes (Meter day from to party kwh) k p out = refl
unpaid sizes (Evaluate day stage) k p out = refl

-- more cash covers no less
no_less : (n x y z : ℤ) → le_z n (x +ℤ y) ≡ true → le_z (pos 0) z ≡ true → le_z n (x +ℤ z +ℤ y) ≡ true
no_less n x y z a b = grind (arith, ints)

module _ (m : Terms) (v : Standing) (e : Entry) (p : ℕ) where
  named_pass : refusal_at m v e ≡ None → among p (covered_of e) ≡ true → passes_cover m v e p ≡ true
  named_pass ok here =
      let a = both_pass (field_checks m.sizes e) (book_checks m v e) ok in
      let b = both_pass (state_checks v e) _ a.1 in
      let c = both_pass (kwh_checks v e) _ b.1 in
      let d = both_pass (cash_checks v e) (cover_checks m v e) c.1 in
      cover_passed m v e (covered_of e) p d.1 here

  others_pass : refusal_at m v e ≡ None → among p (covered_of e) ≡ false → le_z (pos (need_at m v p)) (balance_at v p) ≡ true → passes_cover m v e p ≡ true
  unfolding passes_cover
  others_pass ok out was =
      let a = both_pass (field_checks m.sizes e) (book_checks m v e) ok in
      let same : need_after m v e p ≡ need_at m v p =
      need-same m.table v.hours v.hours (λ d. counted (v.state d)) (λ d. counted (v.state d)) (position_after v e p) (λ d t. (v.cell p d t).position) m.sizes.days
      (λ d i. refl) (λ d i. refl)
      (λ d t i j. ap (λ (z : ℤ). (v.cell p d t).position +ℤ z) (untraded e p out d t) ∙ +ℤ_idr (v.cell p d t).position) in
      ap (λ n. le_z (pos n) ((v.account p).cash +ℤ paid e p +ℤ (v.account p).settled)) same
      ∙ no_less (pos (need_at m v p)) (v.account p).cash (v.account p).settled (paid e p) was (unpaid m.sizes e (sane m.sizes e a.0) p out)

pub leaves_covered : LeavesCovered
leaves_covered m h e r w ok p here = go (refusal_at m (standing m h) e) refl
  where
    go : (o : Option Refusal) → refusal_at m (standing m h) e ≡ o → covered m (step e r ∷ h) p ≡ true
    go (Some x) is = absurd (false≢true (sym (ap accepted (w.0 ∙ ap replied_by is)) ∙ ok))
    go None is = subst (λ (y : Reply). covered m (step e y ∷ h) p ≡ true) (sym (w.0 ∙ ap replied_by is)) (cover_after m h e p is ∙ named_pass m (standing m h) e p is here)

pub keeps_cover : KeepsCover
keeps_cover m h e r w other p was = go (refusal_at m (standing m h) e) refl
  where
    named : refusal_at m (standing m h) e ≡ None → (b : Bool) → among p (covered_of e) ≡ b → passes_cover m (standing m h) e p ≡ true
    named is true at = named_pass m (standing m h) e p is at
    named is false at = others_pass m (standing m h) e p is at was

    go : (o : Option Refusal) → refusal_at m (standing m h) e ≡ o → covered m (step e r ∷ h) p ≡ true
    go (Some x) is = subst (λ (y : Reply). covered m (step e y ∷ h) p ≡ true) (sym (w.0 ∙ ap replied_by is)) (cover_stays m h e p x ∙ was)
    go None is = subst (λ (y : Reply). covered m (step e y ∷ h) p ≡ true) (sym (w.0 ∙ ap replied_by is)) (cover_after m h e p is ∙ named is (among p (covered_of e)) refl)
