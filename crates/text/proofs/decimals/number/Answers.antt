use Rattle.std.proofs.Common.{◌≡◌, ◌<◌, ◌+◌, true, length, get_or, drop, Some, sym, ap, ◌∙◌, arith}
use Rattle.std.specs.List.{list_all}
use Rattle.std.specs.Char.{is_ascii_digit, digit_value}
use Rattle.std.specs.Str.Parse.{digits_value, digits_value_after}
use Rattle.std.proofs.lemmas.Bool.Decides.{nat_tests}
use Rattle.std.proofs.lemmas.List.{at_drop_all}
use Rattle.text.proofs.Digits.{value_step, value_least, all_step, no_digit, not_all_digits, too_large, a_number}
use Rattle.text.proofs.decimals.number.Goals as goal

pub returns-then-is_empty-clause-value : goal.returns-then-is_empty-clause-value
returns-then-is_empty-clause-value c = no_digit c.args.most c.args.digits.now (grind (arith, nat_tests))

pub returns-then-not-is_ascii_digit-clause-value : goal.returns-then-not-is_ascii_digit-clause-value
returns-then-not-is_ascii_digit-clause-value c =
    not_all_digits c.args.most c.args.digits.now (sym (all_step c.args.digits.now c.loop-digit.digit-index _ _ c.loop-digit-test.true c.loop-digit.invariant.1 (sym c.if-not-is_ascii_digit.ensures.value)))

pub returns-in_err-checked_mul-clause-value : goal.returns-in_err-checked_mul-clause-value
returns-in_err-checked_mul-clause-value c =
    let least = value_least c.args.digits.now c.loop-digit.digit-index c.loop-digit.value (digits_value 10 c.args.digits.now) c.loop-digit-test.true c.loop-digit.invariant.0 in
    c.from_residual.ensures ∙ too_large c.args.most c.args.digits.now (omega (arith, least, c.in_err-checked_mul.ensures, c.ranges.most.fits))

pub returns-in_err-value-clause-value : goal.returns-in_err-value-clause-value
returns-in_err-value-clause-value c =
    let digit : digit_value (get_or c.args.digits.now c.loop-digit.digit-index 0) ≡ c.from.result = grind (arith, nat_tests) in
    let least = value_least c.args.digits.now c.loop-digit.digit-index c.loop-digit.value (digits_value 10 c.args.digits.now) c.loop-digit-test.true c.loop-digit.invariant.0 in
    c.from_residual-in_err-value.ensures ∙ too_large c.args.most c.args.digits.now (omega (arith, least, c.in_err-value.ensures, c.in_ok-checked_mul.ensures.1, c.ranges.most.fits))

pub loop-digit-preserved : goal.loop-digit-preserved
loop-digit-preserved c =
    let digit : digit_value (get_or c.args.digits.now c.loop-digit.digit-index 0) ≡ c.from.result = grind (arith, nat_tests) in
    let step = value_step c.args.digits.now c.loop-digit.digit-index c.loop-digit.value (digits_value 10 c.args.digits.now) c.loop-digit-test.true c.loop-digit.invariant.0 in (
      ap (λ v. digits_value_after 10 v (drop (c.loop-digit.digit-index + 1) c.args.digits.now)) (omega (arith, digit, c.in_ok-value.ensures.1, c.in_ok-checked_mul.ensures.1)) ∙ step,
      all_step c.args.digits.now c.loop-digit.digit-index _ true c.loop-digit-test.true c.loop-digit.invariant.1 (sym c.if-not-is_ascii_digit.ensures.value),
    )

pub returns-then-value-most-clause-value : goal.returns-then-value-most-clause-value
returns-then-value-most-clause-value c =
    let ds = c.args.digits.now in
    let value : c.loop-digit.value ≡ digits_value 10 ds = sym (at_drop_all (digits_value_after 10 c.loop-digit.value) ds c.loop-digit.digit-index c.loop-digit-test.false) ∙ c.loop-digit.invariant.0 in
    let digits : list_all is_ascii_digit ds ≡ true = sym c.loop-digit.invariant.1 ∙ at_drop_all (list_all is_ascii_digit) ds c.loop-digit.digit-index c.loop-digit-test.false in
    let some : 0 < length ds = grind (arith, nat_tests) in
    ap Some value ∙ a_number c.args.most ds some digits (omega arith)

pub returns-else-value-most-clause-value : goal.returns-else-value-most-clause-value
returns-else-value-most-clause-value c =
    let ds = c.args.digits.now in
    let value : c.loop-digit.value ≡ digits_value 10 ds = sym (at_drop_all (digits_value_after 10 c.loop-digit.value) ds c.loop-digit.digit-index c.loop-digit-test.false) ∙ c.loop-digit.invariant.0 in
    too_large c.args.most ds (omega arith)
