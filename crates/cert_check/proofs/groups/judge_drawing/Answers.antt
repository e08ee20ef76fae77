use Rattle.std.proofs.Common.{◌≡◌, ◌∙◌, subst, inr, List, length}
use Rattle.std.proofs.lemmas.Result.{err_from_is_err_and}
use Rattle.plane_edge.specs.Rings.{Area}
use Rattle.coverage_check.specs.Kept.{odds_of}
use Rattle.cert_check.specs.Drawings.{AreNamed, IsEdgesFlaw, IsDrawingFlaw}
use Rattle.cert_check.proofs.DrawnLemmas.{stop_as}
use Rattle.cert_check.proofs.groups.judge_drawing.Goals as goal

pub returns-in_err-judge_edges-clause-flaw : goal.returns-in_err-judge_edges-clause-flaw
returns-in_err-judge_edges-clause-flaw c =
    let map = c.args.checked.now in
    let names = c.args.names.now in
    let drawn = c.args.drawn.now in
    let g = c.args.grouping.now in
    let odds = odds_of map.areas in
    let framed = c.in_ok-judge_frame.ensures.ok ∙ c.frame.ensures.value in
    let counted = subst (λ (xs : List Area). length xs ≡ length g.class_of) c.deref.ensures.value c.in_ok-judge_count.ensures.ok in
    let named = subst (λ (xs : List Area). AreNamed names xs g) c.deref-2.ensures.value c.in_ok-judge_names.ensures.ok in
    let e = err_from_is_err_and c.from_residual-in_err-judge_edges.result c.from_residual-in_err-judge_edges.ensures.1 in
    rw (e.1, e.2) (stop_as (IsEdgesFlaw odds c.deref-3.result.now g) (IsDrawingFlaw map names drawn g) (λ v f. inr (framed, inr (counted, inr (named, subst (λ (xs : List Area). IsEdgesFlaw odds xs g v) c.deref-3.ensures.value f)))) c.in_err-judge_edges.field-0.0 c.in_err-judge_edges.ensures.flaw)
