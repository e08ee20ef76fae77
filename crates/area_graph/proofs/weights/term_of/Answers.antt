use Rattle.std.proofs.Common.{◌∙◌, ap, pos, ◌-ℤ◌, cond, subst}
use Rattle.std.specs.Prelude.{◌↔◌, IsTrue}
use Rattle.std.specs.Int.{w128}
use Rattle.plane_edge.specs.declared.spot.Spot.{Spot}
use Rattle.plane_edge.specs.Plane.{IsInside}
use Rattle.std.proofs.lemmas.Int.{to_z-of_z}
use Rattle.area_graph.proofs.WeightLemmas.{term_is}
use Rattle.area_graph.proofs.weights.term_of.Goals as goal

pub returns-clause-value : goal.returns-clause-value
returns-clause-value c =
    let same = to_z-of_z w128 c.with_sign.result (record { sfits = c.with_sign.type_inv }) in
    let inner = to_z-of_z w128 c.swept_of-swept.result (record { sfits = c.swept_of-swept.type_inv }) in
    same ∙ term_is c.args.rows.now c.args.edge.now _ _ _ (subst (λ (s : Spot). IsTrue c.inside-is_inside.result ↔ IsInside c.args.rows.now s) c.middle.ensures.value c.inside-is_inside.ensures) c.swept_of-swept.ensures.value (c.with_sign.ensures.value ∙ ap (λ z. cond c.inside-is_inside.result (pos 0 -ℤ z) z) inner)
