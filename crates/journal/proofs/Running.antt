-- A run over the bytes of an input: one byte more, one line more. Assumes nothing.
use Rattle.std.proofs.Common.{◌≡◌, ℕ, ◌+◌, ◌<◌, ◌≤◌, min, List, [], ◌∷◌, ◌++◌, length, get_or, take, drop, ℤ, pos, Some, None, Option, sym, refl, ap, ◌∙◌, subst, ⊎_elim, append_assoc, append-nil, add-zero, arith, length-append}
use Rattle.std.specs.Option.{unwrap_or}
use Rattle.std.proofs.lemmas.Bool.{cases_lt}
use Rattle.std.proofs.lemmas.Int.{ints}
use Rattle.std.proofs.lemmas.List.{take_at, take_all, take_more, length-take-le}
use Rattle.std.proofs.lemmas.List.Elements.{All-nil, All-push}
use lib.Seq.{take-append-le}
use Rattle.answers.specs.declared.Answer.{Answer}
use Rattle.answers.specs.Writing.{laid}
use Rattle.journal.specs.declared.input.Input.{Input}
use Rattle.journal.specs.Calling.{LineText, LineCall}
use Rattle.journal.specs.Lines.{Unbroken, ended, Divided, Holds, Outcome, Transcript, Whole, Ran, Runs, Takes}

-- Lines

ended_more : (lines : List (List ℕ)) (line : List ℕ) → ended (lines ++ line ∷ []) ≡ ended lines ++ (line ++ 10 ∷ [])
ended_more [] line = refl
ended_more (l ∷ ls) line = ap (λ x. l ++ (10 ∷ x)) (ended_more ls line) ∙ sym (append_assoc l (10 ∷ ended ls) (line ++ 10 ∷ []))

pub divided_byte : {input rest : List ℕ} {lines : List (List ℕ)} (b : ℕ) → (b ≡ 10 → ⊥) → Divided input lines rest → Divided (input ++ b ∷ []) lines (rest ++ b ∷ [])
divided_byte {input} {rest} {lines} b ne d =
    record {
      unbroken = d.unbroken;
      going = All-push (λ x. x ≡ 10 → ⊥) rest b d.going ne;
      whole = ap (λ x. x ++ b ∷ []) d.whole ∙ append_assoc (ended lines) rest (b ∷ []);
    }

pub divided_end : {input rest : List ℕ} {lines : List (List ℕ)} → Divided input lines rest → Divided (input ++ 10 ∷ []) (lines ++ rest ∷ []) []
divided_end {input} {rest} {lines} d =
    record {
      unbroken = All-push Unbroken lines rest d.unbroken d.going;
      going = All-nil (λ x. x ≡ 10 → ⊥);
      whole = ap (λ x. x ++ 10 ∷ []) d.whole ∙ append_assoc (ended lines) rest (10 ∷ []) ∙ sym (ended_more lines rest) ∙ sym (append-nil (ended (lines ++ rest ∷ [])));
    }

-- The bytes that are kept of a line

-- with one byte more, where there is room
pub front_more : (kept rest : List ℕ) (b : ℕ) → length kept < 201 → kept ≡ take 201 rest → kept ++ b ∷ [] ≡ take 201 (rest ++ b ∷ [])
front_more kept rest b lt e =
    let short : length rest < 201 = ⊎_elim (λ h. h) (λ ge. absurd (omega (arith, ap length e, length-take-le 201 rest ge))) (cases_lt (length rest) 201) in
    ap (λ x. x ++ b ∷ []) (e ∙ take_all 201 rest (omega arith)) ∙ sym (take_all 201 (rest ++ b ∷ []) (omega (arith, length-append rest (b ∷ []))))

-- where there is none
pub front_full : (kept rest : List ℕ) (b : ℕ) → length kept ≡ 201 → kept ≡ take 201 rest → kept ≡ take 201 (rest ++ b ∷ [])
front_full kept rest b full e =
    let long : 201 ≤ length rest = ⊎_elim (λ lt. absurd (omega (arith, ap length (e ∙ take_all 201 rest (omega arith))))) (λ h. h) (cases_lt (length rest) 201) in
    e ∙ sym (take-append-le 201 rest (b ∷ []) long)

-- The line call's bytes

pub text_is : (d text e : List ℕ) (n : ℕ) → n ≡ length text → e ≡ laid d 0 text → take n e ≡ text
text_is d text e n l w = ap (take n) w ∙ take_at text (drop (0 + length text) d) n (sym l)

module _ {V : Type 0} (A : V → List ℕ → Answer → V → Type 0) where
  -- a line is answered by what is kept of it as by the whole of it
  text_whole : ((j k : V) (line : List ℕ) (a : Answer) → 200 < length line → A j (take 201 line) a k → A j line a k) → (j k : V) (number : ℤ) (line text : List ℕ) → LineText A j number (take 201 line) text k → LineText A j number line text k
  text_whole cut j k number line text t =
      ⊎_elim
      (λ lt. subst (λ l. LineText A j number l text k) (take_all 201 line (omega arith)) t)
      (λ ge.
      let f = length-take-le 201 line ge in
      let a = t.1 (omega arith) in
      (λ z. absurd (omega arith), λ s. (a.0, cut j k line a.0 (omega arith) a.1, a.2)))
      (cases_lt (length line) 201)

  pub called_outcome : ((j k : V) (line : List ℕ) (a : Answer) → 200 < length line → A j (take 201 line) a k → A j line a k) → (j k : V) (d e : List ℕ) (m : ℕ) (r : Option ℕ) (lines : List (List ℕ)) (rest : List ℕ) → 4096 ≤ length d → m ≡ min (length lines + 1) 1000000000 → LineCall A j d (pos m) (take 201 rest) r k e → Outcome A j (length lines + 1) rest (take (unwrap_or r 0) e) k
  called_outcome cut j k d e m None lines rest room h c =
      (λ s. absurd (c.0 (room, omega (arith, ints), omega (arith, ints))), λ past. (refl, c.1))
  called_outcome cut j k d e m (Some n) lines rest room h c =
      let t = text_is d c.1.0 e n c.1.2 c.1.4 in
      let low : m ≤ 999999999 = omega (arith, ints, c.0.2) in
      let same : m ≡ length lines + 1 = omega arith in
      let whole = text_whole cut j k (pos m) rest c.1.0 c.1.1 in
      (λ s. subst (λ x. LineText A j (pos (length lines + 1)) rest x k) (sym t) (subst (λ n. LineText A j (pos n) rest c.1.0 k) same whole), λ past. absurd (omega arith))

  -- Answers

  transcript_more : (i j k : V) (n : ℕ) (lines : List (List ℕ)) (line output text : List ℕ) → Transcript A i n lines output j → Outcome A j (n + length lines) line text k → Transcript A i n (lines ++ line ∷ []) (output ++ text) k
  transcript_more i j k n [] line output text t o =
      let at : Outcome A j n line text k = subst (λ m. Outcome A j m line text k) (add-zero n) o in
      (text, [], k, subst (λ x. Outcome A x n line text k) t.1 at, (refl, refl), ap (λ x. x ++ text) t.0 ∙ sym (append-nil text))
  transcript_more i j k n (l ∷ ls) line output text t o =
      let e : n + length (l ∷ ls) ≡ n + 1 + length ls = omega arith in
      (t.0, t.1 ++ text, t.2, t.3, transcript_more t.2 j k (n + 1) ls line t.1 text t.4 (subst (λ m. Outcome A j m line text k) e o), ap (λ x. x ++ text) t.5 ∙ append_assoc t.0 t.1 text)

  written_more : (i j k : V) (lines : List (List ℕ)) (line output text : List ℕ) → Transcript A i 1 lines output j → Outcome A j (length lines + 1) line text k → Transcript A i 1 (lines ++ line ∷ []) (output ++ text) k
  written_more i j k lines line output text t o =
      let e : length lines + 1 ≡ 1 + length lines = omega arith in
      transcript_more i j k 1 lines line output text t (subst (λ m. Outcome A j m line text k) e o)

module _ {J V : Type 0} (view : J → V) (A : V → List ℕ → Answer → V → Type 0) where
  -- The run

  pub ran_byte : (j : V) (i k : Input J) (b : ℕ) (input output : List ℕ) → (b ≡ 10 → ⊥) → ((rest : List ℕ) → i.line.items ≡ take 201 rest → k.line.items ≡ take 201 (rest ++ b ∷ [])) → k.number ≡ i.number → k.journal ≡ i.journal → Ran view A j i input output → Ran view A j k (input ++ b ∷ []) (output ++ [])
  ran_byte j i k b input output ne front n s r =
      record {
        lines = r.lines;
        rest = r.rest ++ b ∷ [];
        divided = divided_byte b ne r.divided;
        written = subst (λ x. Transcript A j 1 r.lines (output ++ []) (view x)) (sym s) (subst (λ x. Transcript A j 1 r.lines x (view i.journal)) (sym (append-nil output)) r.written);
        holds = record { front = front r.rest r.holds.front; numbered = n ∙ r.holds.numbered };
      }

  -- i answered the line and became m, and the next line began in k
  pub ran_line : (i m k : Input J) (text : List ℕ) → ((lines : List (List ℕ)) (rest : List ℕ) → Holds i lines rest → Outcome A (view i.journal) (length lines + 1) rest text (view m.journal)) → m.line ≡ i.line → m.number ≡ i.number → ((lines : List (List ℕ)) (rest : List ℕ) → Holds m lines rest → Holds k (lines ++ rest ∷ []) []) → k.journal ≡ m.journal → Runs view A i (10 ∷ []) text k
  ran_line i m k text o l n h s j input output r =
      let same : Holds m r.lines r.rest = record { front = ap (λ x. x.items) l ∙ r.holds.front; numbered = n ∙ r.holds.numbered } in
      record {
        lines = r.lines ++ r.rest ∷ [];
        rest = [];
        divided = divided_end r.divided;
        written = subst (λ x. Transcript A j 1 (r.lines ++ r.rest ∷ []) (output ++ text) (view x)) (sym s) (written_more A j (view i.journal) (view m.journal) r.lines r.rest output text r.written (o r.lines r.rest r.holds));
        holds = h r.lines r.rest same;
      }

  pub ran_whole : (j k : V) (i : Input J) (text input output : List ℕ) → ((lines : List (List ℕ)) (rest : List ℕ) → Holds i lines rest → Outcome A (view i.journal) (length lines + 1) rest text k) → Ran view A j i input output → Whole A j input (output ++ text) k
  ran_whole j k i text input output o r =
      (r.lines, r.rest, r.divided, written_more A j (view i.journal) k r.lines r.rest output text r.written (o r.lines r.rest r.holds))

  -- One run after another

  runs_runs : (i m k : Input J) (more next text last : List ℕ) → Runs view A i more text m → Runs view A m next last k → Runs view A i (more ++ next) (text ++ last) k
  runs_runs i m k more next text last a b j input output r =
      subst (λ x. Ran view A j k x (output ++ (text ++ last))) (append_assoc input more next) (subst (Ran view A j k ((input ++ more) ++ next)) (append_assoc output text last) (b j (input ++ more) (output ++ text) (a j input output r)))

  -- one byte more of a block
  pub runs_more : (i m k : Input J) (block : List ℕ) (n : ℕ) (text last : List ℕ) → n < length block → Runs view A i (take n block) text m → Runs view A m (get_or block n 0 ∷ []) last k → Runs view A i (take (n + 1) block) (text ++ last) k
  runs_more i m k block n text last h a b =
      subst (λ x. Runs view A i x (text ++ last) k) (sym (take_more block n 0 h)) (runs_runs i m k (take n block) (get_or block n 0 ∷ []) text last a b)

  pub takes_more : (i m k : Input J) (block : List ℕ) (n : ℕ) (d e text : List ℕ) (r : Option ℕ) → n < length block → 4096 ≤ length d → Runs view A i (take n block) text m → Takes view A m d (get_or block n 0) r k e → (t : List ℕ) × Runs view A i (take (n + 1) block) t k
  takes_more i m k block n d e text None h room a t = absurd (omega (arith, t.0))
  takes_more i m k block n d e text (Some q) h room a t = (text ++ take q e, runs_more i m k block n text (take q e) h a t.1)
