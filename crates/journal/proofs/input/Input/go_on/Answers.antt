use Rattle.std.proofs.Common.{◌∙◌, refl, arith, length, ◌<◌, ◌≡◌}
use Rattle.journal.proofs.Running.{ran_byte, front_more, front_full}
use Rattle.journal.proofs.input.Input.go_on.Goals as goal

pub returns-then-not-is_full : goal.returns-then-not-is_full
returns-then-not-is_full g c =
    let kept = c.args.self.now.line.items in
    let room : length kept < 201 = grind arith in
    λ j input output r. ran_byte g.S.Subject.view g.S.Subject.answered j c.args.self.now _ c.args.byte input output c.requires (λ rest h. c.push.ensures.items ∙ front_more kept rest c.args.byte room h) refl refl r

pub returns-else-not-is_full : goal.returns-else-not-is_full
returns-else-not-is_full g c =
    let kept = c.args.self.now.line.items in
    let full : length kept ≡ 201 = grind arith in
    λ j input output r. ran_byte g.S.Subject.view g.S.Subject.answered j c.args.self.now _ c.args.byte input output c.requires (λ rest h. front_full kept rest c.args.byte full h) refl refl r
