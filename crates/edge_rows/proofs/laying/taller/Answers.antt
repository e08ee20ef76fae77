use Rattle.std.proofs.Common.{List, subst, sym, AllPairs, All, ◌≤ℤ◌}
use Rattle.edge_rows.specs.declared.piece.Piece.{Piece}
use Rattle.edge_rows.specs.declared.row.Row.{Row}
use Rattle.edge_rows.specs.Banks.{IsBefore}
use Rattle.edge_rows.proofs.BankLemmas.{bank_more}
use Rattle.edge_rows.proofs.laying.taller.Goals as goal

pub invariant_of-result : goal.invariant_of-result
invariant_of-result c =
    let rows = c.args.bank.rows.items in
    let low = subst (λ (p : Piece). All (λ r. r.last.low ≤ℤ p.low) rows) (sym c.raise-row.ensures.last) c.requires in
    record { rising = subst (λ (rs : List Row). AllPairs IsBefore rs) (sym c.in_ok-push.ensures.items) (bank_more rows c.raise-row.result c.args.bank.rising low c.raise-row.ensures.tops) }
