use Rattle.std.proofs.Common.{◌≡◌, sym, ◌∙◌, ap, Err, get_or}
use Rattle.std.proofs.lemmas.Result.{err_from_is_err_and}
use Rattle.area_graph.specs.declared.fault.GraphFault.TheVariants.{NoWeight}
use Rattle.area_graph.proofs.graph.parts_of.Goals as goal

pub returns-in_err-weight-clause-light : goal.returns-in_err-weight-clause-light
returns-in_err-weight-clause-light c = λ v s e.
    let out = err_from_is_err_and c.from_residual-in_err-weight.result c.from_residual-in_err-weight.ensures.1 in
    let same : out.0 ≡ NoWeight v s = cc (out.1, e) in
    let at : c.weights.result ≡ Err (NoWeight v s) = c.in_err-weight.was ∙ ap Err (sym out.2 ∙ same) in
    record {
      known = λ u h. (get_or c.in_ok-own.own.items u 0, c.in_ok-own.ensures.found.named u h);
      first = c.weights.ensures.light v s at;
    }
