use Rattle.std.proofs.Common.{sym, ◌∙◌}
use Rattle.std.proofs.lemmas.Slice.Eq.{slice_eq-Decides}
use Rattle.std.proofs.lemmas.Bool.{false≢true}
use Rattle.std.proofs.lemmas.Bool.Decides.{Decides-eqb}
use Rattle.words.proofs.Walking.{inside, at_field, hit, miss, name_column, never}
use Rattle.words.proofs.reading.Line.named.Goals as goal

pub bounds-self-at : goal.bounds-self-at
bounds-self-at c = inside c.args.self.bytes.now c.args.at c.requires.0 c.requires.1

pub field-tokens-requires : goal.field-tokens-requires
field-tokens-requires c =
    at_field c.args.self.bytes.now c.args.at c.requires.0 c.if-self-at-eq41.false c.requires.1

pub returns-then-eq : goal.returns-then-eq
returns-then-eq c fs h =
    hit c.args.self.bytes.now c.args.at c.args.name.now c.field-tokens.result _ _ fs c.if-self-at-eq41.false c.field-tokens.ensures c.in-Word.is ((slice_eq-Decides Decides-eqb c.in-Word.text.now c.args.name.now c.eq.result c.eq.ensures).0 c.if-eq.true) h

pub returns-else-eq : goal.returns-else-eq
returns-else-eq c fs h =
    miss c.args.self.bytes.now c.args.at c.args.name.now c.field-tokens.result _ _ fs c.if-self-at-eq41.false c.field-tokens.ensures c.in-Word.is (λ e. false≢true (sym c.if-eq.false ∙ (slice_eq-Decides Decides-eqb c.in-Word.text.now c.args.name.now c.eq.result c.eq.ensures).1 e)) h

pub returns-in-Number : goal.returns-in-Number
returns-in-Number c fs h =
    never c.args.self.bytes.now c.args.at c.field-tokens.result _ _ fs c.if-self-at-eq41.false c.field-tokens.ensures c.in-Number.is h

pub overflow_sub-result : goal.overflow_sub-result
overflow_sub-result c =
    let f = at_field c.args.self.bytes.now c.args.at c.requires.0 c.if-self-at-eq41.false c.requires.1 in
    name_column c.args.self.bytes.now c.args.at c.field-tokens.result _ _ f.0 f.1 c.field-tokens.ensures c.in-Word.is f.2
