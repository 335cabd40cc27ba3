-- One entry more: what a loop over a list of entries needs. Assumes nothing.
use Rattle.std.proofs.Common.{◌≡◌, ℕ, suc, ◌+◌, ◌<◌, List, [], ◌∷◌, ◌++◌, length, get_or, take, ℤ, ◌+ℤ◌, sym, refl, ap, ◌∙◌}
use lib.IntN.{+ℤ_assoc, +ℤ_idl, +ℤ_idr}
use Rattle.std.proofs.lemmas.List.{take_more}
use Rattle.entries.specs.declared.entry.Entry.{Entry}
use Rattle.entries.specs.Replies.{Reply}
use Rattle.book.specs.Standing.{Terms}
use Rattle.book.specs.Held.{Held}
use Rattle.book.specs.Posting.{afterwards, refusal_on, reply_on}
use Rattle.runs.specs.Runs.{brings, paid_in, ran, replies, unless_refused}

pub ran_push : (m : Terms) (h : Held) (es : List Entry) (e : Entry) → ran m h (es ++ e ∷ []) ≡ afterwards m (ran m h es) e
ran_push m h [] e = refl
ran_push m h (f ∷ es) e = ran_push m (afterwards m h f) es e

pub replies_push : (m : Terms) (h : Held) (es : List Entry) (e : Entry) → replies m h (es ++ e ∷ []) ≡ replies m h es ++ reply_on m (ran m h es) e ∷ []
replies_push m h [] e = refl
replies_push m h (f ∷ es) e = ap (λ (rs : List Reply). reply_on m h f ∷ rs) (replies_push m (afterwards m h f) es e)

pub paid_in_push : (m : Terms) (h : Held) (es : List Entry) (e : Entry) → paid_in m h (es ++ e ∷ []) ≡ paid_in m h es +ℤ unless_refused (refusal_on m (ran m h es) e) (brings e)
paid_in_push m h [] e =
    let u : ℤ = unless_refused (refusal_on m h e) (brings e) in
    +ℤ_idr u ∙ sym (+ℤ_idl u)
paid_in_push m h (f ∷ es) e =
    let u : ℤ = unless_refused (refusal_on m h f) (brings f) in
    let g = afterwards m h f in
    ap (λ (z : ℤ). u +ℤ z) (paid_in_push m g es e) ∙ sym (+ℤ_assoc u (paid_in m g es) (unless_refused (refusal_on m (ran m g es) e) (brings e)))

-- the same for the entries up to a place
pub ran_more : (m : Terms) (h : Held) (es : List Entry) (i : ℕ) (d : Entry) → i < length es → ran m h (take (i + 1) es) ≡ afterwards m (ran m h (take i es)) (get_or es i d)
ran_more m h es i d l = ap (ran m h) (take_more es i d l) ∙ ran_push m h (take i es) (get_or es i d)

pub replies_more : (m : Terms) (h : Held) (es : List Entry) (i : ℕ) (d : Entry) → i < length es → replies m h (take (i + 1) es) ≡ replies m h (take i es) ++ reply_on m (ran m h (take i es)) (get_or es i d) ∷ []
replies_more m h es i d l = ap (replies m h) (take_more es i d l) ∙ replies_push m h (take i es) (get_or es i d)

pub length-replies : (m : Terms) (h : Held) (es : List Entry) → length (replies m h es) ≡ length es
length-replies m h [] = refl
length-replies m h (e ∷ es) = ap suc (length-replies m (afterwards m h e) es)
