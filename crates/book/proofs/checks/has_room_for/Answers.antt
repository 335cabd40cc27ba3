use Rattle.std.proofs.Common.{◌≡◌, cond, Some, None, ◌∙◌, rules}
use Rattle.std.specs.Option.{option_map}
use Rattle.hourly.specs.Records.{deliverable, delivered, record_figures, record_read}
use Rattle.book.proofs.Optional.{there}
use Rattle.book.proofs.checks.has_room_for.Goals as goal

pub returns : goal.returns
returns c =
    let h = record_read c.args.lying.now in
    let e : option_map record_figures c.deliver.result ≡ cond (deliverable h c.args.kwh c.args.price) (Some (delivered h c.args.kwh c.args.price)) None = search rules in
    c.is_some.ensures ∙ there record_figures c.deliver.result _ _ e
