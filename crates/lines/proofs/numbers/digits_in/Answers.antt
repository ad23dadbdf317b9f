use Rattle.std.proofs.Common.{◌≤◌, get_or, sym, ◌∙◌, arith}
use Rattle.std.proofs.lemmas.List.{at_drop_all}
use Rattle.lines.specs.Numbers.{digits_answer}
use Rattle.lines.proofs.Numerals.{digit_more, digit_none, at_most_nine, small_more, still_small}
use Rattle.lines.proofs.numbers.digits_in.Goals as goal

pub returns-then-not-is_ascii_digit : goal.returns-then-not-is_ascii_digit
returns-then-not-is_ascii_digit c =
    digit_none c.args.digits.now c.loop-byte.n c.loop-byte.byte-index c.loop-byte-test.true (sym c.if-not-is_ascii_digit.ensures.value)
    ∙ c.loop-byte.invariant.0

pub overflow_mul-n : goal.overflow_mul-n
overflow_mul-n c = omega (arith, still_small c.loop-byte.n c.loop-byte.byte-index c.loop-byte.invariant.1 (omega arith))

nine : (c : goal.After-from) → c.from.result ≤ 9
nine c = omega (arith, c.from.ensures, at_most_nine (get_or c.args.digits.now c.loop-byte.byte-index 0) (sym c.if-not-is_ascii_digit.ensures.value))

pub overflow_add-n : goal.overflow_add-n
overflow_add-n c = omega (arith, nine c, still_small c.loop-byte.n c.loop-byte.byte-index c.loop-byte.invariant.1 (omega arith))

pub loop-byte-preserved : goal.loop-byte-preserved
loop-byte-preserved c = (
  digit_more c.args.digits.now c.loop-byte.n c.loop-byte.byte-index c.from.result c.loop-byte-test.true
      (sym c.if-not-is_ascii_digit.ensures.value) c.from.ensures
      ∙ c.loop-byte.invariant.0,
  small_more c.loop-byte.n c.loop-byte.byte-index c.from.result c.loop-byte.invariant.1 (nine c),
)

pub returns : goal.returns
returns c = sym (at_drop_all (digits_answer c.loop-byte.n) c.args.digits.now c.loop-byte.byte-index c.loop-byte-test.false) ∙ c.loop-byte.invariant.0
