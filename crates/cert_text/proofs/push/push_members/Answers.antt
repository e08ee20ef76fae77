use Rattle.std.proofs.Common.{◌∷◌, rules, arith}
use Rattle.std.specs.Fmt.{decimal}
use Rattle.cert_text.proofs.TextLemmas.{spaced_more}
use Rattle.cert_text.proofs.push.push_members.Goals as goal

pub loop-member-preserved : goal.loop-member-preserved
loop-member-preserved c = spaced_more (λ n. 32 ∷ decimal n) _ _ _ _ _ _ (omega arith) (search rules) c.loop-member.invariant c.in_ok-push_member.ensures
