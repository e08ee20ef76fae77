use Rattle.std.proofs.Common.{◌≡◌, sym, ◌∙◌, ap, Err}
use Rattle.std.proofs.lemmas.Result.{err_from_is_err_and}
use Rattle.area_graph.specs.declared.fault.GraphFault.TheVariants.{NoWeight}
use Rattle.area_graph.proofs.PlanLemmas.{plan_of}
use Rattle.area_graph.proofs.graph.problem_of.Goals as goal

pub returns-in_err-parts-clause-light : goal.returns-in_err-parts-clause-light
returns-in_err-parts-clause-light c = λ v s e.
    let out = err_from_is_err_and c.from_residual.result c.from_residual.ensures.1 in
    let same : out.0 ≡ NoWeight v s = cc (out.1, e) in
    let at : c.parts_of.result ≡ Err (NoWeight v s) = c.in_err-parts.was ∙ ap Err (sym out.2 ∙ same) in
    c.parts_of.ensures.light v s at

pub unreachable-requires : goal.unreachable-requires
unreachable-requires c =
    c.in-None.ensures.none (plan_of c.args.checked.now.areas c.args.table.now _ c.in_ok-parts.ensures.checked c.in_ok-parts.ensures.rules c.in_ok-parts.ensures.found c.in_ok-parts.ensures.few)
