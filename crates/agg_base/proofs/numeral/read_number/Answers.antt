use Rattle.std.proofs.Common.{rules, FitsSigned, subst}
use Rattle.std.specs.Int.{w64}
use Rattle.std.specs.Str.Parse.{IsNumeral, without_leading_sign, signed_digits_value}
use Rattle.std.proofs.lemmas.Str.{IsUtf8-from_ascii}
use Rattle.agg_base.proofs.WholeText.{not_numeral, number_is_ascii, spells, sign_is}
use Rattle.agg_base.proofs.numeral.read_number.Goals as goal

pub returns-then-not-are_digits : goal.returns-then-not-are_digits
returns-then-not-are_digits c = λ n s.
    let t = c.are_digits.ensures.1 (not_numeral c.args.text.now c.strip_minus.result.now n c.strip_minus.ensures s) in search rules

pub returns-in_default : goal.returns-in_default
returns-in_default c = λ n s. c.in_default.ensures.cases.0 (IsUtf8-from_ascii _ (number_is_ascii c.args.text.now n s))

pub returns-in-Err : goal.returns-in-Err
returns-in-Err c =
    let are = c.are_digits.ensures.0 (search rules) in
    let s = spells c.args.text.now c.strip_minus.result.now c.strip_minus.ensures are.0 are.1 in
    let refused = subst (λ bs. ¬ (IsNumeral 10 (without_leading_sign bs) × FitsSigned w64 (signed_digits_value 10 bs))) c.in-Ok.ensures.cases.0 c.in-Err.ensures.value.0 in
    (signed_digits_value 10 c.args.text.now, s, λ fits. refused (sign_is c.args.text.now _ s, fits))
