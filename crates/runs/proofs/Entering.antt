-- A list of entries entered one by one, each reply written at its place. Assumes nothing.
use Rattle.std.proofs.Common.{◌≡◌, ℕ, ◌+◌, ◌<◌, List, [], ◌∷◌, ◌++◌, length, get_or, take, drop, set, Some, None, Option, sym, refl, ap, ◌∙◌, ap₂, append_assoc, arith}
use Rattle.std.proofs.lemmas.List.{drop_more, length-take, set_at, take_all}
use Rattle.entries.specs.declared.entry.Entry.{Entry}
use Rattle.entries.specs.declared.refusal.Refusal.{Refusal}
use Rattle.entries.specs.Replies.{Reply}
use Rattle.book.specs.Standing.{Terms}
use Rattle.book.specs.Held.{Held}
use Rattle.book.specs.Posting.{after_refusal, afterwards, posted, refusal_on, reply_on}
use Rattle.runs.specs.Runs.{ran, replied, replies}
use Rattle.runs.proofs.Pages.{sizes-kept}
use Rattle.runs.proofs.Steps.{length-replies, ran_more, replies_more}

-- no entry alters the sizes
sizes-after : (h : Held) (e : Entry) (r : Option Refusal) → (after_refusal r h (posted h e)).sizes ≡ h.sizes
sizes-after h e (Some r) = refl
sizes-after h e None = sizes-kept h e

sizes-afterwards : (m : Terms) (h : Held) (e : Entry) → (afterwards m h e).sizes ≡ h.sizes
unfolding afterwards
sizes-afterwards m h e = sizes-after h e (refusal_on m h e)

pub sizes-ran : (m : Terms) (h : Held) (es : List Entry) → (ran m h es).sizes ≡ h.sizes
sizes-ran m h [] = refl
sizes-ran m h (e ∷ es) = sizes-ran m (afterwards m h e) es ∙ sizes-afterwards m h e

-- the book and the places for replies after the first i entries
pub record Entered (m : Terms) (h : Held) (es : List Entry) (rs : List Reply) (i : ℕ) (g : Held) (ps : List Reply) : Type 0 where
  pub book : g ≡ ran m h (take i es)
  pub places : ps ≡ replies m h (take i es) ++ drop i rs

-- a reply written at the first place that has none
written_more : (qs rs ps : List Reply) (i : ℕ) (r : Reply) → length qs ≡ i → i < length rs → ps ≡ qs ++ drop i rs → set ps i r ≡ (qs ++ r ∷ []) ++ drop (i + 1) rs
written_more qs rs ps i r long lt is =
    ap (λ (l : List Reply). set l i r) (is ∙ ap (λ (l : List Reply). qs ++ l) (drop_more rs i r lt))
    ∙ set_at qs (get_or rs i r) (drop (i + 1) rs) r i long
    ∙ sym (append_assoc qs (r ∷ []) (drop (i + 1) rs))

-- the next entry, of a book whose terms are the same
pub entered_more : (m n : Terms) (h : Held) (es : List Entry) (rs : List Reply) (i : ℕ) (g f : Held) (ps : List Reply) (d : Entry) (r : Reply)
    → i < length es → i < length rs → n ≡ m → Entered m h es rs i g ps
    → r ≡ reply_on n g (get_or es i d) → f ≡ afterwards n g (get_or es i d) → Entered m h es rs (i + 1) f (set ps i r)
entered_more m n h es rs i g f ps d r le lr same w reply after =
    let e : Entry = get_or es i d in
    let qs : List Reply = replies m h (take i es) in
    let long : length qs ≡ i = length-replies m h (take i es) ∙ omega (arith, length-take i es) in
    let here : r ≡ reply_on m (ran m h (take i es)) e = reply ∙ ap₂ (λ (t : Terms) (b : Held). reply_on t b e) same w.book in
    record {
      book = after ∙ ap₂ (λ (t : Terms) (b : Held). afterwards t b e) same w.book ∙ sym (ran_more m h es i d le);
      places =
          written_more qs rs ps i r long lr w.places
          ∙ ap (λ (x : Reply). (qs ++ x ∷ []) ++ drop (i + 1) rs) here
          ∙ ap (λ (l : List Reply). l ++ drop (i + 1) rs) (sym (replies_more m h es i d le));
    }

-- the book keeps its sizes, so its terms stay those of its opening
pub same-sizes : (m : Terms) (h : Held) (es : List Entry) (rs : List Reply) (i : ℕ) (g : Held) (ps : List Reply) → Entered m h es rs i g ps → g.sizes ≡ h.sizes
same-sizes m h es rs i g ps w = ap (λ (x : Held). x.sizes) w.book ∙ sizes-ran m h (take i es)

-- past the last entry
pub entered_all : (m : Terms) (h : Held) (es : List Entry) (rs : List Reply) (i : ℕ) (g : Held) (ps : List Reply) → i ≡ length es → Entered m h es rs i g ps → (g ≡ ran m h es) × (ps ≡ replied m h es rs)
entered_all m h es rs i g ps end w =
    let all : take i es ≡ es = take_all i es (omega arith) in (
      w.book ∙ ap (ran m h) all,
      w.places ∙ ap₂ (λ (l : List Entry) (k : ℕ). replies m h l ++ drop k rs) all end,
    )
