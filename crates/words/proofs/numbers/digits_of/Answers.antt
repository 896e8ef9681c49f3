use Rattle.std.proofs.Common.{◌+◌, ◌*◌, drop, sym, ap, ◌∙◌, arith}
use Rattle.std.proofs.lemmas.List.{at_drop_more, at_drop_all}
use Rattle.std.proofs.lemmas.Bool.{cond-true, cond-false}
use Rattle.words.specs.Numbers.{digits}
use Rattle.words.proofs.Numerals.{tenfold, under_13}
use Rattle.words.proofs.numbers.digits_of.Goals as goal

pub returns-then-not-is_ascii_digit : goal.returns-then-not-is_ascii_digit
returns-then-not-is_ascii_digit c =
    sym (sym c.loop-b.invariant.0 ∙ at_drop_more (digits c.loop-b.n) c.args.word.now c.loop-b.b-index 0 (omega arith) ∙ cond-false _ _ _ (sym c.if-not-is_ascii_digit.ensures.value))

pub overflow_mul-n : goal.overflow_mul-n
overflow_mul-n c = omega (arith, under_13 c.loop-b.b-index (omega arith), c.loop-b.invariant.1)

pub overflow_add-n : goal.overflow_add-n
overflow_add-n c = omega (arith, under_13 c.loop-b.b-index (omega arith), c.loop-b.invariant.1)

pub loop-b-preserved : goal.loop-b-preserved
loop-b-preserved c = (
  ap (λ k. digits (c.loop-b.n * 10 + k) (drop (c.loop-b.b-index + 1) c.args.word.now)) c.from.ensures ∙ sym (cond-true _ _ _ (sym c.if-not-is_ascii_digit.ensures.value)) ∙ sym (at_drop_more (digits c.loop-b.n) c.args.word.now c.loop-b.b-index 0 (omega arith)) ∙ c.loop-b.invariant.0,
  omega (arith, tenfold c.loop-b.b-index, c.loop-b.invariant.1, c.if-not-is_ascii_digit.ensures.cases),
)

pub returns : goal.returns
returns c = sym (sym c.loop-b.invariant.0 ∙ at_drop_all (digits c.loop-b.n) c.args.word.now c.loop-b.b-index (omega arith))
