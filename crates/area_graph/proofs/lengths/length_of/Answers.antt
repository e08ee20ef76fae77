use Rattle.std.proofs.Common.{arith, ◌≡◌, ◌≤◌, ◌^◌, ◌∙◌, ap, ◌+◌, ◌*◌, to_z, pos, subst, ℕ, ◌-ℤ◌}
use Rattle.std.specs.Int.{w128}
use Rattle.std.proofs.lemmas.Int.{to_z-of_z, to_z_pos}
use Rattle.whole_ring.proofs.Signs.{within}
use Rattle.agg_base.specs.Root.{root}
use Rattle.area_graph.specs.Lengths.{stretched, edge_length}
use Rattle.area_graph.proofs.LengthLemmas.{small_root, gap_is}
use Rattle.area_graph.proofs.lengths.length_of.Goals as goal
use Rattle.area_graph.proofs.lengths.length_of.Goals.{After-isqrt}

small : (c : After-isqrt) → c.isqrt.result ≤ 2 ^ 47
small c =
    let a = c.square_of-across.ensures.within in
    let b = c.square_of-up.ensures.within in
    small_root (65536 * (c.square_of-across.result + c.square_of-up.result)) c.isqrt.result (omega (arith, a, b)) c.isqrt.ensures.greatest

is : (c : After-isqrt) → c.isqrt.result ≡ edge_length c.args.unit.wide c.args.unit.high c.args.edge.now
is c =
    let a = c.square_of-across.ensures.value ∙ ap (stretched c.args.unit.wide) (to_z-of_z w128 c.gap.result (record { sfits = c.gap.type_inv }) ∙ c.gap.ensures.value ∙ gap_is c.args.edge.now.high.x c.args.edge.now.low.x c.args.edge.now.high.x_in_range c.args.edge.now.low.x_in_range) in
    let b = c.square_of-up.ensures.value ∙ ap (stretched c.args.unit.high) (to_z-of_z w128 c.gap-2.result (record { sfits = c.gap-2.type_inv }) ∙ c.gap-2.ensures.value ∙ gap_is c.args.edge.now.high.y c.args.edge.now.low.y c.args.edge.now.high.y_in_range c.args.edge.now.low.y_in_range) in
    c.isqrt.ensures.value ∙ ap (λ (n : ℕ). root (65536 * (n + c.square_of-up.result))) a ∙ ap (λ (n : ℕ). root (65536 * (stretched c.args.unit.wide (c.args.edge.now.high.x -ℤ c.args.edge.now.low.x) + n))) b

signed : (n : ℕ) → n ≤ 2 ^ 47 → to_z w128 n ≡ pos n
signed n h = to_z_pos w128 n (omega arith)

pub overflow_cast-result : goal.overflow_cast-result
overflow_cast-result c = let s = small c in omega (arith, within, s)

pub returns-clause-value : goal.returns-clause-value
returns-clause-value c = signed c.isqrt.result (small c) ∙ ap pos (is c)

pub returns-clause-within : goal.returns-clause-within
returns-clause-within c = subst (λ (n : ℕ). n ≤ 2 ^ 47) (is c) (small c)
