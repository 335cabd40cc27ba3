-- When a book and a history agree, and that they always do. Assumes nothing.
--
--   Agrees s v w         the figures v and w are the same for the parties, days and hours of a book of the sizes s
--   Reflects m h b       the book b is one that the history h leads to
--   Follows m b e r c    whatever led to b, the reply r to e is the one that it gives, and c is what e then leads to
--   OpenedReflects       a newly opened book is what the empty history leads to
--   PostedFollows        every entry is replied to and written as every history of the book asks
--   Agreed m b h es      the book b, given the entries es after the history h, reflects what is then recorded, and replied as the history does
--   AlwaysAgree          so it is with any entries given to a newly opened book
use Rattle.std.specs.Prelude.{◌≡◌, ℕ, ◌<◌, true, List, [], ◌∷◌}
use Rattle.entries.specs.declared.entry.Entry.{Entry}
use Rattle.entries.specs.declared.entry.Sizes.{Sizes}
use Rattle.entries.specs.Replies.{Reply}
use Rattle.book.specs.Standing.{Standing, Terms}
use Rattle.book.specs.Held.{Held, sized, standing_on}
use Rattle.book.specs.Posting.{afterwards, opened, reply_on}
use Rattle.runs.specs.Kept.{Kept}
use Rattle.runs.specs.Runs.{ran, replies}
use Rattle.histories.specs.Histories.{Answered, History, answer_of, answers, recorded, standing, step}

pub record Agrees (s : Sizes) (v w : Standing) : Type 0 where
  pub cell : (p d t : ℕ) → p < s.parties → d < s.days → t < 24 → v.cell p d t ≡ w.cell p d t
  pub deliveries : (d t : ℕ) → d < s.days → t < 24 → v.deliveries d t ≡ w.deliveries d t
  pub hours : (d : ℕ) → d < s.days → v.hours d ≡ w.hours d
  pub state : (d : ℕ) → d < s.days → v.state d ≡ w.state d
  pub account : (p : ℕ) → p < s.parties → v.account p ≡ w.account p
  pub operator : v.operator ≡ w.operator

pub record Reflects (m : Terms) (h : History) (b : Held) : Type 0 where
  pub kept : Kept b
  pub sizes : m.sizes ≡ b.sizes
  pub figures : Agrees m.sizes (standing_on b) (standing m h)

abbrev pub Follows : Terms → Held → Entry → Reply → Held → Type 0
Follows m b e r c = (h : History) → Reflects m h b → (r ≡ answer_of m h e) × Reflects m (step e r ∷ h) c

abbrev pub OpenedReflects : Type 0
OpenedReflects = (m : Terms) → sized m.sizes ≡ true → Reflects m [] (opened m.sizes)

abbrev pub PostedFollows : Type 0
PostedFollows = (m : Terms) (b : Held) (e : Entry) → Follows m b e (reply_on m b e) (afterwards m b e)

pub record Agreed (m : Terms) (b : Held) (h : History) (es : List Entry) : Type 0 where
  pub reflects : Reflects m (recorded m h es) (ran m b es)
  pub replies : replies m b es ≡ answers m h es
  pub answered : Answered m (recorded m h es)

abbrev pub AlwaysAgree : Type 0
AlwaysAgree = (m : Terms) → sized m.sizes ≡ true → (es : List Entry) → Agreed m (opened m.sizes) [] es
