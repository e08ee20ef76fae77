use Rattle.std.proofs.Common.{◌≤ℤ◌, All, subst, sym, ℤ}
use Rattle.edge_rows.proofs.PieceLemmas.{coordinate_is}
use Rattle.edge_rows.proofs.laying.raise.Goals as goal

pub returns-clause-tops : goal.returns-clause-tops
returns-clause-tops c =
    subst (λ (z : ℤ). All (λ r. r.top ≤ℤ z) c.args.bank.now.rows.items) (sym (coordinate_is c.top_over-top.result c.top_over-top.ensures.within)) c.top_over-top.ensures.others
