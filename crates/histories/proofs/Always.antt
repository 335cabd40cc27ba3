-- A book and its history agree after any list of entries. Assumes nothing.
use Rattle.std.proofs.Common.{List, [], ◌∷◌, refl, subst, ap₂}
use Rattle.entries.specs.declared.entry.Entry.{Entry}
use Rattle.entries.specs.Replies.{Reply}
use Rattle.book.specs.Standing.{Terms}
use Rattle.book.specs.Held.{Held}
use Rattle.book.specs.Posting.{afterwards, opened}
use Rattle.histories.specs.Histories.{Answered, History, answer_of, step}
use Rattle.histories.specs.Agreement.{Agreed, AlwaysAgree, Reflects}
use Rattle.histories.proofs.Following.{opened-reflects, posted_follows}

agreed : (m : Terms) (b : Held) (h : History) (es : List Entry) → Reflects m h b → Answered m h → Agreed m b h es
agreed m b h [] r a = record { reflects = r; replies = refl; answered = a }
agreed m b h (e ∷ es) r a =
    let on = posted_follows m b e h r in
    let x : Reply = answer_of m h e in
    let more = agreed m (afterwards m b e) (step e x ∷ h) es (subst (λ (y : Reply). Reflects m (step e y ∷ h) (afterwards m b e)) on.0 on.1) (refl, a) in
    record {
      reflects = more.reflects;
      replies = ap₂ ◌∷◌ on.0 more.replies;
      answered = more.answered;
    }

pub always_agree : AlwaysAgree
always_agree m ok es = agreed m (opened m.sizes) [] es (opened-reflects m ok) tt
