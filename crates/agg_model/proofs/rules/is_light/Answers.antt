use Rattle.std.proofs.Common.{arith, length}
use Rattle.std.specs.Prelude.{ℤ, pos, ◌≤ℤ◌, ◌+ℤ◌}
use Rattle.std.proofs.lemmas.Int.{ints}
use Rattle.whole_ring.proofs.Sums.{sum_below-nonnegative}
use Rattle.agg_model.specs.Rules.{length_in, weight_in, IsTooMuch, IsLight}
use Rattle.agg_model.proofs.rules.is_light.Goals as goal

light_none : (w l : ℤ) → pos 0 ≤ℤ l → IsTooMuch w → IsLight (w +ℤ l) → ⊥
light_none w l low much light = omega (arith, ints)

light_none_2 : (w l : ℤ) → pos 0 ≤ℤ w → IsTooMuch l → IsLight (w +ℤ l) → ⊥
light_none_2 w l low much light = omega (arith, ints)

pub returns-in_default : goal.returns-in_default
returns-in_default c =
    let l = sum_below-nonnegative (length c.args.links.now) (length_in c.args.links.now) c.requires.links in
    (λ e. cc, λ h. absurd (light_none _ _ l c.in_default.ensures.none h))

pub returns-in_default-length_sum : goal.returns-in_default-length_sum
returns-in_default-length_sum c =
    let w = sum_below-nonnegative (length c.args.weight.now) (weight_in c.args.weight.now) c.requires.weight in
    (λ e. cc, λ h. absurd (light_none_2 _ _ w c.in_default-length_sum.ensures.none h))
