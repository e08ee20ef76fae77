use Rattle.std.proofs.Common.{◌∙◌, ap}
use Rattle.row_laws.specs.Values.{RowSum}
use Rattle.row_laws.specs.Exact.{answer}
use Rattle.row_laws.specs.declared.bound.Bound.TheVariants.{Least}
use Rattle.row_laws.proofs.PlainLemmas.{plain_law}
use Rattle.bound_rows.specs.Domains.{allows}
use Rattle.branch_bound.proofs.LawLemmas.{no_err}
use Rattle.branch_bound.proofs.values.plain_tip.Goals as goal

pub unreachable-requires : goal.unreachable-requires
unreachable-requires c =
    let p = c.args.problem.now in
    let f = allows c.args.domains.now in
    let law = plain_law p f c.requires.rules in
    no_err c.value.result (Least law.1.0) _ (c.value.ensures.value ∙ (ap (λ (s : RowSum). answer p f s) c.no_rows-sum.ensures ∙ law.1.1)) c.in-Err.is
