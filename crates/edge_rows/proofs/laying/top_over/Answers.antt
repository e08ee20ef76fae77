use Rattle.std.proofs.Common.{◌≤ℤ◌, subst, sym, List, All, AllPairs, ℤ}
use Rattle.edge_rows.specs.declared.row.Row.{Row}
use Rattle.edge_rows.specs.Banks.{IsBefore}
use Rattle.edge_rows.proofs.PieceLemmas.{coordinate_is}
use Rattle.edge_rows.proofs.BankLemmas.{all_tops}
use Rattle.edge_rows.proofs.laying.top_over.Goals as goal

pub returns-in-Some-clause-others : goal.returns-in-Some-clause-others
returns-in-Some-clause-others c =
    let z = c.higher.result in
    let rising = subst (λ (rs : List Row). AllPairs IsBefore rs) (sym c.deref.ensures.value) c.args.bank.now.rising in
    subst (λ (y : ℤ). All (λ r. r.top ≤ℤ y) c.args.bank.now.rows.items) (sym (coordinate_is z c.higher.ensures.within))
    (subst (λ (rs : List Row). All (λ r. r.top ≤ℤ z) rs) c.deref.ensures.value (all_tops c.deref.result.now c.in-Some.last.now z rising c.in-Some.ensures.item.3.1 (subst (λ (x : ℤ). x ≤ℤ z) (coordinate_is c.in-Some.last.now.top c.in-Some.last.now.top_in) c.higher.ensures.second)))
