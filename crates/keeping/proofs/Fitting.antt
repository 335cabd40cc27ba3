-- What `book` opens fits a book and the pages. Assumes nothing.
use Rattle.std.proofs.Common.{◌≡◌, ℕ, true, ◌&&◌, ℤ, Ok, Err, Result, IfOk, sym, subst}
use Rattle.std.proofs.lemmas.Bool.{and_parts, cond_both}
use Rattle.entries.specs.declared.entry.Sizes.{Sizes}
use Rattle.entries.specs.declared.refusal.Refusal.{Refusal as BookRefusal}
use Rattle.entries.specs.declared.refusal.Refusal.TheVariants.{WrongSize}
use Rattle.entries.specs.Fields.{between, first_of}
use Rattle.rules.specs.declared.choice.Rules.{Rules}
use Rattle.rules.specs.Choice.{chosen, rules_checks, rules_chosen}
use Rattle.words.specs.declared.form.Form.{Form}
use Rattle.words.specs.declared.form.Form.TheVariants.{Book, Entry, Show}
use Rattle.book.specs.Held.{sized}
use Rattle.book.specs.Opening.{sizes_of}
use Rattle.keeping.specs.declared.opening.Opening.{Opening}
use Rattle.keeping.specs.declared.refusal.Refusal.{Refusal}
use Rattle.keeping.specs.Entered.{Fitting, FittingOpening, allowed, opening_by, opening_on, roomy, ruled_by}

pub fitting_opening : (cells records : ℕ) (r : Result Opening Refusal) (s : Sizes) → Fitting cells records s → IfOk r (λ o. o.sizes ≡ s) → FittingOpening cells records r
fitting_opening cells records (Err r) s f e = tt
fitting_opening cells records (Ok o) s f e = subst (Fitting cells records) (sym e) f

ruled_fitting : (cells records : ℕ) (s : Sizes) (rules : Result Rules BookRefusal) → Fitting cells records s → FittingOpening cells records (ruled_by s rules)
ruled_fitting cells records s (Err r) f = tt
ruled_fitting cells records s (Ok rules) f = f

allowed-fitting : (limits : Sizes) (cells records : ℕ) (parties days : ℤ) → allowed limits cells records parties days ≡ true → Fitting cells records (sizes_of parties days)
allowed-fitting limits cells records parties days h =
    and_parts (sized (sizes_of parties days)) (roomy (sizes_of parties days) cells records)
    (and_parts (between 1 limits.parties parties && between 1 limits.days days) (sized (sizes_of parties days) && roomy (sizes_of parties days) cells records) h).1

pub fitting : (limits : Sizes) (cells records : ℕ) (form : Form) → FittingOpening cells records (opening_on limits cells records form)
fitting limits cells records (Book parties days pricing default sharing) =
    let rules : Result Rules BookRefusal = chosen (first_of (rules_checks pricing default sharing)) (rules_chosen pricing default sharing) in
    cond_both (allowed limits cells records parties days) (Ok (sizes_of parties days)) (Err WrongSize)
    (λ sizes. FittingOpening cells records (opening_by sizes rules))
    (λ h. ruled_fitting cells records (sizes_of parties days) rules (allowed-fitting limits cells records parties days h))
    (λ h. tt)
fitting limits cells records (Entry e) = tt
fitting limits cells records (Show party) = tt
