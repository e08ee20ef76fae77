use Rattle.std.proofs.Common.{◌∙◌, ℕ, List, subst}
use Rattle.std.specs.Int.{w32, w64}
use Rattle.std.proofs.lemmas.Int.{to_z-of_z}
use Rattle.agg_base.specs.Numbers.{SpellsWhole}
use Rattle.topo_reader.proofs.PointLemmas.{sum_some, sum_none}
use Rattle.topo_reader.proofs.arcs.sum_of.Goals as goal

pub returns-clause-found : goal.returns-clause-found
returns-clause-found c =
    let spells = subst (λ (text : List ℕ). SpellsWhole text c.in-Is.step) (c.as_bytes.ensures.value ∙ c.as_str.ensures) c.in-Is.ensures.answer.0 in
    sum_some c.coordinate_behind.result c.args.text.now c.args.from c.in-Is.step _ _ (to_z-of_z w32 c.args.from c.ranges.from) (to_z-of_z w64 c.in-Is.step c.in-Is.ensures.answer.1) spells c.coordinate_behind.ensures.found

pub returns-clause-none : goal.returns-clause-none
returns-clause-none c =
    let spells = subst (λ (text : List ℕ). SpellsWhole text c.in-Is.step) (c.as_bytes.ensures.value ∙ c.as_str.ensures) c.in-Is.ensures.answer.0 in
    sum_none c.coordinate_behind.result c.args.text.now c.args.from c.in-Is.step _ _ (to_z-of_z w32 c.args.from c.ranges.from) (to_z-of_z w64 c.in-Is.step c.in-Is.ensures.answer.1) spells c.coordinate_behind.ensures.none
