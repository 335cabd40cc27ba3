-- The scanner reads just the forms, so where it stops no form goes on.
use Rattle.std.proofs.Common.{◌≡◌, ℕ, ◌+◌, ◌-◌, ◌<◌, ◌≤◌, true, eqb, ◌⊎◌, List, [], ◌∷◌, ◌++◌, length, get_or, take, drop, Some, None, Option, sym, refl, ap, ◌∙◌, subst, inl, inr, ⊎_elim, append_assoc, arith, take-append-drop}
use Rattle.std.proofs.lemmas.List.{take_more, take_all, take-take}
use Rattle.std.specs.List.{All}
use Rattle.std.proofs.lemmas.List.Elements.{All-nil, All-cons, All-head, All-tail}
use Rattle.std.proofs.lemmas.Bool.{cond_both, cond-true, eqb-true, cases_lt}
use Rattle.std.proofs.lemmas.Bool.Decides.{nat_tests}
use Rattle.brackets.specs.declared.State.{State}
use Rattle.brackets.specs.declared.State.TheVariants.{Start, Bracket, Head, Gap, Inner, Name, Sign, Minus, Digits, Between, End}
use Rattle.brackets.specs.Bytes.{Letter, Digit, letter, digit}
use Rattle.brackets.specs.Grammar.{Word, Numeral, Field, GoodField, rest, WellShaped, Begins, Stuck, Only}
use Rattle.brackets.specs.Scanner.{step, next, run}

pub run-append : (o : Option State) (p t : List ℕ) → run o (p ++ t) ≡ run (run o p) t
run-append o [] t = refl
run-append o (b ∷ p) t = run-append (next o b) p t

run_none : (t : List ℕ) → run None t ≡ None
run_none [] = refl
run_none (b ∷ t) = run_none t

none : {X : Type 0} (t : List ℕ) → run None t ≡ Some End → X
none t h = let e = run_none t in let z : ◌≡◌ {A = ℕ} 0 1 = cc in absurd (omega arith)

letter_is : (b : ℕ) → letter b ≡ true → Letter b
letter_is b h = grind (arith, nat_tests)

digit_is : (b : ℕ) → digit b ≡ true → Digit b
digit_is b h = grind (arith, nat_tests)

is_letter : (b : ℕ) → Letter b → letter b ≡ true
is_letter b h = grind (arith, nat_tests)

is_digit : (b : ℕ) → Digit b → digit b ≡ true
is_digit b h = grind (arith, nat_tests)

abbrev Signed : List ℕ → Type 0
Signed sg = (sg ≡ []) ⊎ (sg ≡ 45 ∷ [])

abbrev after : List ℕ → List ℕ → List Field → List ℕ
after sg ds fs = sg ++ (ds ++ (41 ∷ rest fs))

-- t completes a form in this state
abbrev Rest : State → List ℕ → Type 0
Rest Start t = WellShaped t
Rest Bracket t = (w : List ℕ) × (fs : List Field) × Word w × All GoodField fs × (t ≡ w ++ rest fs)
Rest Head t = (w : List ℕ) × (fs : List Field) × All Letter w × All GoodField fs × (t ≡ w ++ rest fs)
Rest Gap t = (f : Field) × (fs : List Field) × GoodField f × All GoodField fs × (t ≡ 40 ∷ (f.name ++ (32 ∷ after f.sign f.digits fs)))
Rest Inner t = (f : Field) × (fs : List Field) × GoodField f × All GoodField fs × (t ≡ f.name ++ (32 ∷ after f.sign f.digits fs))
Rest Name t = (w : List ℕ) × (sg : List ℕ) × (ds : List ℕ) × (fs : List Field) × All Letter w × Signed sg × Numeral ds × All GoodField fs × (t ≡ w ++ (32 ∷ after sg ds fs))
Rest Sign t = (sg : List ℕ) × (ds : List ℕ) × (fs : List Field) × Signed sg × Numeral ds × All GoodField fs × (t ≡ after sg ds fs)
Rest Minus t = (ds : List ℕ) × (fs : List Field) × Numeral ds × All GoodField fs × (t ≡ ds ++ (41 ∷ rest fs))
Rest Digits t = (ds : List ℕ) × (fs : List Field) × All Digit ds × All GoodField fs × (t ≡ ds ++ (41 ∷ rest fs))
Rest Between t = (fs : List Field) × All GoodField fs × (t ≡ rest fs)
Rest End t = t ≡ []

both : {a b : ℕ} {s t : List ℕ} → a ≡ b → s ≡ t → a ∷ s ≡ b ∷ t
both e f = cc

back : (s : State) (b : ℕ) (t : List ℕ) → run (step s b) t ≡ Some End → ((u : State) → run (Some u) t ≡ Some End → Rest u t) → Rest s (b ∷ t)
back Start b t h ih =
    cond_both (eqb b 40) (Some Bracket) None (λ o. run o t ≡ Some End → Rest Start (b ∷ t))
    (λ e k. let r = ih Bracket k in (r.0, r.1, (r.2, r.3, both (eqb-true b 40 e) r.4)))
    (λ e k. none t k) h
back Bracket b t h ih =
    cond_both (letter b) (Some Head) None (λ o. run o t ≡ Some End → Rest Bracket (b ∷ t))
    (λ e k. let r = ih Head k in (b ∷ r.0, r.1, (omega arith, All-cons Letter b r.0 (letter_is b e) r.2), r.3, both refl r.4))
    (λ e k. none t k) h
back Head b t h ih =
    cond_both (letter b) (Some Head) _ (λ o. run o t ≡ Some End → Rest Head (b ∷ t))
    (λ e k. let r = ih Head k in (b ∷ r.0, r.1, All-cons Letter b r.0 (letter_is b e) r.2, r.3, both refl r.4))
    (λ _. cond_both (eqb b 32) (Some Gap) _ (λ o. run o t ≡ Some End → Rest Head (b ∷ t))
    (λ e k. let r = ih Gap k in ([], r.0 ∷ r.1, All-nil Letter, All-cons GoodField r.0 r.1 r.2 r.3, both (eqb-true b 32 e) r.4))
    (λ _. cond_both (eqb b 41) (Some End) None (λ o. run o t ≡ Some End → Rest Head (b ∷ t))
    (λ e k. ([], [], All-nil Letter, All-nil GoodField, both (eqb-true b 41 e) (ih End k)))
    (λ e k. none t k))) h
back Gap b t h ih =
    cond_both (eqb b 40) (Some Inner) None (λ o. run o t ≡ Some End → Rest Gap (b ∷ t))
    (λ e k. let r = ih Inner k in (r.0, r.1, r.2, r.3, both (eqb-true b 40 e) r.4))
    (λ e k. none t k) h
back Inner b t h ih =
    cond_both (letter b) (Some Name) None (λ o. run o t ≡ Some End → Rest Inner (b ∷ t))
    (λ e k.
    let r = ih Name k in
    (record { name = b ∷ r.0; sign = r.1; digits = r.2 }, r.3, record { named = (omega arith, All-cons Letter b r.0 (letter_is b e) r.4); signed = r.5; counted = r.6 }, r.7, both refl r.8))
    (λ e k. none t k) h
back Name b t h ih =
    cond_both (letter b) (Some Name) _ (λ o. run o t ≡ Some End → Rest Name (b ∷ t))
    (λ e k. let r = ih Name k in (b ∷ r.0, r.1, r.2, r.3, All-cons Letter b r.0 (letter_is b e) r.4, r.5, r.6, r.7, both refl r.8))
    (λ _. cond_both (eqb b 32) (Some Sign) None (λ o. run o t ≡ Some End → Rest Name (b ∷ t))
    (λ e k. let r = ih Sign k in ([], r.0, r.1, r.2, All-nil Letter, r.3, r.4, r.5, both (eqb-true b 32 e) r.6))
    (λ e k. none t k)) h
back Sign b t h ih =
    cond_both (digit b) (Some Digits) _ (λ o. run o t ≡ Some End → Rest Sign (b ∷ t))
    (λ e k. let r = ih Digits k in ([], b ∷ r.0, r.1, inl refl, (omega arith, All-cons Digit b r.0 (digit_is b e) r.2), r.3, both refl r.4))
    (λ _. cond_both (eqb b 45) (Some Minus) None (λ o. run o t ≡ Some End → Rest Sign (b ∷ t))
    (λ e k. let r = ih Minus k in (45 ∷ [], r.0, r.1, inr refl, r.2, r.3, both (eqb-true b 45 e) r.4))
    (λ e k. none t k)) h
back Minus b t h ih =
    cond_both (digit b) (Some Digits) None (λ o. run o t ≡ Some End → Rest Minus (b ∷ t))
    (λ e k. let r = ih Digits k in (b ∷ r.0, r.1, (omega arith, All-cons Digit b r.0 (digit_is b e) r.2), r.3, both refl r.4))
    (λ e k. none t k) h
back Digits b t h ih =
    cond_both (digit b) (Some Digits) _ (λ o. run o t ≡ Some End → Rest Digits (b ∷ t))
    (λ e k. let r = ih Digits k in (b ∷ r.0, r.1, All-cons Digit b r.0 (digit_is b e) r.2, r.3, both refl r.4))
    (λ _. cond_both (eqb b 41) (Some Between) None (λ o. run o t ≡ Some End → Rest Digits (b ∷ t))
    (λ e k. let r = ih Between k in ([], r.0, All-nil Digit, r.1, both (eqb-true b 41 e) r.2))
    (λ e k. none t k)) h
back Between b t h ih =
    cond_both (eqb b 32) (Some Gap) _ (λ o. run o t ≡ Some End → Rest Between (b ∷ t))
    (λ e k. let r = ih Gap k in (r.0 ∷ r.1, All-cons GoodField r.0 r.1 r.2 r.3, both (eqb-true b 32 e) r.4))
    (λ _. cond_both (eqb b 41) (Some End) None (λ o. run o t ≡ Some End → Rest Between (b ∷ t))
    (λ e k. ([], All-nil GoodField, both (eqb-true b 41 e) (ih End k)))
    (λ e k. none t k)) h
back End b t h ih = none t h

at_end : (s : State) → Some s ≡ Some End → Rest s []
at_end s h = let e : End ≡ s = cc in subst (λ u. Rest u []) e refl

pub sound : (t : List ℕ) (s : State) → run (Some s) t ≡ Some End → Rest s t
sound [] s h = at_end s h
sound (b ∷ t) s h = back s b t h (sound t)

loops : (s : State) (P : ℕ → Type 0) → ((b : ℕ) → P b → step s b ≡ Some s) → (w t : List ℕ) → All P w → run (Some s) (w ++ t) ≡ run (Some s) t
loops s P f [] t a = refl
loops s P f (b ∷ w) t a = ap (λ o. run o (w ++ t)) (f b (All-head P b w a)) ∙ loops s P f w t (All-tail P b w a)

enters : (s u : State) (P : ℕ → Type 0) → ((b : ℕ) → P b → step s b ≡ Some u) → ((b : ℕ) → P b → step u b ≡ Some u) → (w t : List ℕ) → 0 < length w → All P w → run (Some s) (w ++ t) ≡ run (Some u) t
enters s u P f g [] t n a = absurd (omega arith)
enters s u P f g (b ∷ w) t n a = ap (λ o. run o (w ++ t)) (f b (All-head P b w a)) ∙ loops u P g w t (All-tail P b w a)

signs : (sg ds t : List ℕ) → Signed sg → Numeral ds → run (Some Sign) (sg ++ (ds ++ t)) ≡ run (Some Digits) t
signs sg ds t s n =
    ⊎_elim
    (λ e. ap (λ x. run (Some Sign) (x ++ (ds ++ t))) e ∙ enters Sign Digits Digit (λ b l. cond-true (digit b) _ _ (is_digit b l)) (λ b l. cond-true (digit b) _ _ (is_digit b l)) ds t n.0 n.1)
    (λ e. ap (λ x. run (Some Sign) (x ++ (ds ++ t))) e ∙ enters Minus Digits Digit (λ b l. cond-true (digit b) _ _ (is_digit b l)) (λ b l. cond-true (digit b) _ _ (is_digit b l)) ds t n.0 n.1)
    s

fields_run : (fs : List Field) → All GoodField fs → run (Some Between) (rest fs) ≡ Some End
fields_run [] a = refl
fields_run (f ∷ fs) a =
    let g = All-head GoodField f fs a in
    enters Inner Name Letter (λ b l. cond-true (letter b) _ _ (is_letter b l)) (λ b l. cond-true (letter b) _ _ (is_letter b l)) f.name (32 ∷ after f.sign f.digits fs) g.named.0 g.named.1
    ∙ signs f.sign f.digits (41 ∷ rest fs) g.signed g.counted
    ∙ fields_run fs (All-tail GoodField f fs a)

-- after a head, too
head_run : (fs : List Field) → All GoodField fs → run (Some Head) (rest fs) ≡ Some End
head_run [] a = refl
head_run (f ∷ fs) a = fields_run (f ∷ fs) a

pub complete : (line : List ℕ) → WellShaped line → run (Some Start) line ≡ Some End
complete line f =
    ap (run (Some Start)) f.2.2
    ∙ enters Bracket Head Letter (λ b l. cond-true (letter b) _ _ (is_letter b l)) (λ b l. cond-true (letter b) _ _ (is_letter b l)) f.0 (rest f.1) f.2.0.0 f.2.0.1
    ∙ head_run f.1 f.2.1

-- a shortest completion
abbrev finish : State → List ℕ
finish Start = 40 ∷ 97 ∷ 41 ∷ []
finish Bracket = 97 ∷ 41 ∷ []
finish Head = 41 ∷ []
finish Gap = 40 ∷ 97 ∷ 32 ∷ 48 ∷ 41 ∷ 41 ∷ []
finish Inner = 97 ∷ 32 ∷ 48 ∷ 41 ∷ 41 ∷ []
finish Name = 32 ∷ 48 ∷ 41 ∷ 41 ∷ []
finish Sign = 48 ∷ 41 ∷ 41 ∷ []
finish Minus = 48 ∷ 41 ∷ 41 ∷ []
finish Digits = 41 ∷ 41 ∷ []
finish Between = 41 ∷ []
finish End = []

finishes : (s : State) → run (Some s) (finish s) ≡ Some End
finishes Start = refl
finishes Bracket = refl
finishes Head = refl
finishes Gap = refl
finishes Inner = refl
finishes Name = refl
finishes Sign = refl
finishes Minus = refl
finishes Digits = refl
finishes Between = refl
finishes End = refl

pub begins : (p : List ℕ) (s : State) → run (Some Start) p ≡ Some s → Begins p
begins p s h =
    (finish s, sound (p ++ finish s) Start (run-append (Some Start) p (finish s) ∙ ap (λ o. run o (finish s)) h ∙ finishes s))

pub dead : (p : List ℕ) → run (Some Start) p ≡ None → Begins p → ⊥
dead p h b =
    none b.0 (sym (run-append (Some Start) p b.0 ∙ ap (λ o. run o b.0) h) ∙ complete (p ++ b.0) b.1)

-- what begins a form does so with its end cut off
shorter : (p q : List ℕ) → Begins (p ++ q) → Begins p
shorter p q b = (q ++ b.0, subst WellShaped (append_assoc p q b.0) b.1)

before : (line : List ℕ) (m n : ℕ) → m ≤ n → Begins (take n line) → Begins (take m line)
before line m n h b =
    let e : take n line ≡ take m line ++ drop m (take n line) = sym (take-append-drop m (take n line)) ∙ ap (λ l. l ++ drop m (take n line)) (take-take m n line h) in
    shorter (take m line) (drop m (take n line)) (subst Begins e b)

-- at the byte at i, from 0, the scanner stops
pub stuck_at : (line : List ℕ) (i : ℕ) (s : State) → i < length line → run (Some Start) (take i line) ≡ Some s → run (Some Start) (take (i + 1) line) ≡ None → Stuck line (i + 1)
stuck_at line i s lt on off =
    let back : i + 1 - 1 ≡ i = omega arith in
    record {
      low = omega arith;
      high = omega arith;
      goes = subst (λ n. Begins (take n line)) (sym back) (begins (take i line) s on);
      longest = λ n _ b. ⊎_elim (λ h. h) (λ h. absurd (dead (take (i + 1) line) off (before line (i + 1) n h b))) (cases_lt n (i + 1));
      unformed = λ f. dead (take (i + 1) line) off (drop (i + 1) line, subst WellShaped (sym (take-append-drop (i + 1) line)) f);
    }

-- the line ends before a form does
pub stuck_past : (line : List ℕ) (s : State) → run (Some Start) line ≡ Some s → (s ≡ End → ⊥) → Stuck line (length line + 1)
stuck_past line s on other =
    let back : length line + 1 - 1 ≡ length line = omega arith in
    record {
      low = omega arith;
      high = omega arith;
      goes = subst (λ n. Begins (take n line)) (sym back) (subst Begins (sym (take_all (length line) line (omega arith))) (begins line s on));
      longest = λ n h _. omega arith;
      unformed = λ f. let e = complete line f in other (cc);
    }

pub form : (line : List ℕ) (s : State) → run (Some Start) line ≡ Some s → s ≡ End → WellShaped line
form line s on e = sound line Start (on ∙ ap Some e)

pub run_more : (line : List ℕ) (i : ℕ) (s : State) → i < length line → run (Some Start) (take i line) ≡ Some s → run (Some Start) (take (i + 1) line) ≡ step s (get_or line i 0)
run_more line i s lt on =
    ap (run (Some Start)) (take_more line i 0 lt) ∙ run-append (Some Start) (take i line) (get_or line i 0 ∷ []) ∙ ap (λ o. next o (get_or line i 0)) on

-- a beginning that is longest is so for both columns
pub only : (line : List ℕ) (c : ℕ) → Stuck line c → Only line c
only line c x d y =
    let p = x.longest (d - 1) (omega (arith, y.low, y.high)) y.goes in
    let q = y.longest (c - 1) (omega (arith, x.low, x.high)) x.goes in
    omega (arith, x.low, y.low)
