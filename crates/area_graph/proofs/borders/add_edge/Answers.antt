use Rattle.std.proofs.Common.{◌∙◌, sym, ap, to_z, of_z, cond, ◌&&◌, eqb, ℤ}
use Rattle.std.specs.BTreeMap.{get}
use Rattle.std.specs.Int.{w128}
use Rattle.std.proofs.lemmas.Int.{to_z-of_z}
use Rattle.coverage_check.specs.Areas.{is_this}
use Rattle.area_graph.specs.Steps.{edge_cmp, pair_cmp, longer}
use Rattle.area_graph.proofs.BorderLemmas.{waiting_gone, waiting_now, pair_lengthened}
use Rattle.area_graph.proofs.borders.add_edge.Goals as goal

pub returns-in_ok-lengthen-in-Some-clause-owners : goal.returns-in_ok-lengthen-in-Some-clause-owners
returns-in_ok-lengthen-in-Some-clause-owners c = λ e.
    waiting_gone c.args.edge.now e c.args.area c.in-Some.first (get edge_cmp c.args.waiting.now) (get edge_cmp c.remove.new.self) (sym c.remove.ensures.value ∙ c.in-Some.is) (c.remove.ensures.updates.0 e)

pub returns-in_ok-lengthen-in-Some-clause-sums : goal.returns-in_ok-lengthen-in-Some-clause-sums
returns-in_ok-lengthen-in-Some-clause-sums c = λ q.
    let old = get pair_cmp c.args.lengths.now in
    let o = get edge_cmp c.args.waiting.now c.args.edge.now in
    let len = to_z-of_z w128 c.length_of-length.result (record { sfits = c.length_of-length.type_inv }) ∙ c.length_of-length.ensures.value in
    pair_lengthened q c.in-Some.first c.args.area o old (get pair_cmp c.lengthen.new.lengths q) (to_z w128 (of_z w128 c.length_of-length.result)) (sym c.remove.ensures.value ∙ c.in-Some.is) (c.in_ok-lengthen-in-Some.ensures.sums q)
    ∙ ap (λ (z : ℤ). cond (eqb q.b c.args.area && is_this q.a o) (longer (old q) z) (old q)) len

pub returns-in_ok-insert-in-None-clause-owners : goal.returns-in_ok-insert-in-None-clause-owners
returns-in_ok-insert-in-None-clause-owners c = λ e.
    waiting_now c.args.edge.now e c.args.area (get edge_cmp c.args.waiting.now) (get edge_cmp c.remove.new.self) (get edge_cmp c.insert.new.self) (sym c.remove.ensures.value ∙ c.in-None.is) (c.remove.ensures.updates.0 e) (c.in_ok-insert-in-None.ensures.updates.0 e)
