use Rattle.std.proofs.Common.{◌∙◌, ap, ℤ, ◌+ℤ◌}
use Rattle.json_text.specs.Values.{json_of}
use Rattle.topo_reader.proofs.PointLemmas.{sums_spelled, far_across, far_up, no_numbers, held}
use Rattle.topo_reader.proofs.arcs.point_of.Goals as goal

pub returns-in_default-clause-none : goal.returns-in_default-clause-none
returns-in_default-clause-none c = no_numbers (json_of c.args.position.now) c.requires c.in_default.ensures.none

pub returns-in_default-sum_of-clause-none : goal.returns-in_default-sum_of-clause-none
returns-in_default-sum_of-clause-none c =
    far_across (json_of c.args.position.now) c.in-Some.first.now c.in-Some.second.now c.args.from.x c.args.from.y _ (held c.args.from.x c.args.from.x_in_range) c.in-Some.ensures.found c.requires c.in_default-sum_of.ensures.none

pub returns-in_default-sum_of-2-clause-none : goal.returns-in_default-sum_of-2-clause-none
returns-in_default-sum_of-2-clause-none c =
    far_up (json_of c.args.position.now) c.in-Some.first.now c.in-Some.second.now c.args.from.x c.args.from.y _ (held c.args.from.y c.args.from.y_in_range) c.in-Some.ensures.found c.requires c.in_default-sum_of-2.ensures.none

pub returns-clause-found : goal.returns-clause-found
returns-clause-found c =
    let first = c.in-Some-sum_of.ensures.found in
    let second = c.in-Some-sum_of-2.ensures.found in
    sums_spelled (json_of c.args.position.now) c.in-Some.first.now c.in-Some.second.now c.args.from.x c.args.from.y first.0 second.0 c.point_at.result c.in-Some.ensures.found first.1 second.1
    (c.point_at.ensures.x ∙ held c.in-Some-sum_of.across c.in-Some-sum_of.ensures.within ∙ first.2 ∙ ap (λ (z : ℤ). z +ℤ first.0) (held c.args.from.x c.args.from.x_in_range))
    (c.point_at.ensures.y ∙ held c.in-Some-sum_of-2.up c.in-Some-sum_of-2.ensures.within ∙ second.2 ∙ ap (λ (z : ℤ). z +ℤ second.0) (held c.args.from.y c.args.from.y_in_range))
