use Rattle.std.proofs.Common.{◌∷◌, rules, arith}
use Rattle.std.specs.Fmt.{signed_decimal}
use Rattle.cert_text.proofs.TextLemmas.{spaced_more}
use Rattle.cert_text.proofs.push.push_numbers.Goals as goal

pub loop-number-preserved : goal.loop-number-preserved
loop-number-preserved c = spaced_more (λ n. 32 ∷ signed_decimal n) _ _ _ _ _ _ (omega arith) (search rules) c.loop-number.invariant c.in_ok-push_number.ensures
