use Rattle.std.proofs.Common.{◌+◌, ◌-◌, ◌*◌, get_or, sym, ap, ◌∙◌, arith, rules}
use Rattle.std.proofs.lemmas.List.{take_all}
use Rattle.words.specs.Numbers.{decimal_value}
use Rattle.words.proofs.Decimal.{below, more, value_more, digit_at}
use Rattle.words.proofs.reading.magnitude.Goals as goal

pub overflow_mul-n : goal.overflow_mul-n
overflow_mul-n c = omega (arith, below c.loop-d.n c.loop-d.d-index 17 (omega arith) c.loop-d.invariant.1)

pub overflow_add-n : goal.overflow_add-n
overflow_add-n c =
    omega (arith, below c.loop-d.n c.loop-d.d-index 17 (omega arith) c.loop-d.invariant.1, digit_at c.args.digits.now c.loop-d.d-index (omega arith) c.requires.all)

pub loop-d-preserved : goal.loop-d-preserved
loop-d-preserved c =
    let d = digit_at c.args.digits.now c.loop-d.d-index (omega arith) c.requires.all in
    (ap (λ n. n * 10 + (get_or c.args.digits.now c.loop-d.d-index 0 - 48)) c.loop-d.invariant.0 ∙ sym (value_more c.args.digits.now c.loop-d.d-index (omega arith)), more c.loop-d.n c.loop-d.d-index _ c.loop-d.invariant.1 (omega arith))

pub overflow_cast-result : goal.overflow_cast-result
overflow_cast-result c = let b = below c.loop-d.n c.loop-d.d-index 18 (omega arith) c.loop-d.invariant.1 in search rules

pub returns : goal.returns
returns c =
    let b = below c.loop-d.n c.loop-d.d-index 18 (omega arith) c.loop-d.invariant.1 in
    let e = c.loop-d.invariant.0 ∙ ap decimal_value (take_all c.loop-d.d-index c.args.digits.now c.loop-d-test.false) in
    search rules
