-- A statement of the book as the answer to `show`. Assumes nothing.
use Rattle.std.proofs.Common.{◌≡◌, ℤ, Result, sym, ap, ◌∙◌}
use Rattle.answers.specs.declared.Answer.{Answer}
use Rattle.entries.specs.declared.refusal.Refusal.{Refusal as BookRefusal}
use Rattle.rules.specs.declared.choice.Rules.{Rules}
use Rattle.words.specs.declared.form.Form.{Form}
use Rattle.words.specs.declared.form.Form.TheVariants.{Show}
use Rattle.book.specs.declared.statement.Statement.{Statement}
use Rattle.book.specs.Held.{Held}
use Rattle.book.specs.Posting.{statement_on}
use Rattle.keeping.specs.declared.refusal.Refusal.{Refusal}
use Rattle.keeping.specs.Entered.{book_answer, stated, terms_of}

pub shown : (rules : Rules) (h : Held) (form : Form) (party z : ℤ) (s : Result Statement BookRefusal) (r : Result Answer Refusal) → z ≡ party → form ≡ Show party → s ≡ statement_on (terms_of rules h) h z → r ≡ stated z s → r ≡ book_answer rules h form
shown rules h form party z s r same is given told =
    told ∙ ap (stated z) given ∙ ap (λ (x : ℤ). stated x (statement_on (terms_of rules h) h x)) same ∙ sym (ap (book_answer rules h) is)
