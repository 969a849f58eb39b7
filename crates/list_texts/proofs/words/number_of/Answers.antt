use Rattle.std.proofs.Common.{◌+◌, ◌-◌, ◌*◌, drop, get_or, arith}
use Rattle.list_texts.proofs.Numbers.{no_beginning, not_digits, out_of_range, too_large, next_value, all_read}
use Rattle.list_texts.proofs.words.number_of.Goals as goal

pub returns-then-not-is_ascii_digit : goal.returns-then-not-is_ascii_digit
returns-then-not-is_ascii_digit c = not_digits c.args.digits.now c.loop-digit.digit-index c.loop-digit-test.true (out_of_range _ c.if-not-is_ascii_digit.ensures.cases)

pub returns-in_err-checked_mul : goal.returns-in_err-checked_mul
returns-in_err-checked_mul c =
    let digits = c.args.digits.now in
    let i = c.loop-digit.digit-index in
    let value = c.loop-digit.value in
    let next = next_value value i digits c.loop-digit-test.true c.if-not-is_ascii_digit.ensures.cases c.loop-digit.invariant.value in
    rw c.from_residual.ensures (too_large digits (drop (i + 1) digits) (value * 10 + (get_or digits i 0 - 48)) next (omega (arith, c.in_err-checked_mul.ensures)))

pub returns-in_err-value : goal.returns-in_err-value
returns-in_err-value c =
    let digits = c.args.digits.now in
    let i = c.loop-digit.digit-index in
    let value = c.loop-digit.value in
    let next = next_value value i digits c.loop-digit-test.true c.if-not-is_ascii_digit.ensures.cases c.loop-digit.invariant.value in
    rw c.from_residual-in_err-value.ensures (too_large digits (drop (i + 1) digits) (value * 10 + (get_or digits i 0 - 48)) next (omega (arith, c.in_ok-checked_mul.ensures, c.in_err-value.ensures)))

pub returns : goal.returns
returns c = all_read c.args.digits.now c.loop-digit.digit-index c.loop-digit.value c.loop-digit-test.false c.loop-digit.invariant.value c.loop-digit.invariant.digits c.if-not-begin_as_number.ensures c.loop-digit.invariant.small

pub returns-then-not-begin_as_number : goal.returns-then-not-begin_as_number
returns-then-not-begin_as_number c = no_beginning c.args.digits.now c.if-not-begin_as_number.ensures
