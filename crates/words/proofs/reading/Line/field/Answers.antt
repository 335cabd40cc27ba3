use Rattle.std.proofs.Common.{◌≡◌, ◌++◌, length, refl, ap, ◌∙◌, arith}
use Rattle.words.proofs.Cutting.{name_is, number_is, room}
use Rattle.words.proofs.reading.Line.field.Goals as goal

pub slice_bounds-word-count : goal.slice_bounds-word-count
slice_bounds-word-count c = omega (arith, room c.args.self.bytes.now c.args.at c.requires.0 c.requires.1 c.requires.2)

pub slice_bounds-word-start : goal.slice_bounds-word-start
slice_bounds-word-start c = omega (arith, room c.args.self.bytes.now c.args.at c.requires.0 c.requires.1 c.requires.2)

pub slice_bounds-word-count-2 : goal.slice_bounds-word-count-2
slice_bounds-word-count-2 c =
    let name = c.word-name.ensures ∙ name_is c.args.self.bytes.now c.args.at c.requires.0 c.requires.1 c.requires.2 in
    omega (arith, ap length name, room c.args.self.bytes.now c.args.at c.requires.0 c.requires.1 c.requires.2)

pub slice_bounds-word-start-2 : goal.slice_bounds-word-start-2
slice_bounds-word-start-2 c =
    let name = c.word-name.ensures ∙ name_is c.args.self.bytes.now c.args.at c.requires.0 c.requires.1 c.requires.2 in
    omega (arith, ap length name, room c.args.self.bytes.now c.args.at c.requires.0 c.requires.1 c.requires.2)

pub returns : goal.returns
returns c f fs h =
    let name : c.word-name.result.now ≡ f.name = c.word-name.ensures ∙ name_is c.args.self.bytes.now c.args.at f fs h in
    let number : c.word-number.result.now ≡ f.sign ++ f.digits = c.word-number.ensures ∙ number_is c.args.self.bytes.now c.args.at _ f fs (ap length name) h in
    record { name = (name, refl); number = (number, omega (arith, ap length name)); next = omega (arith, ap length name, ap length number) }
