use Rattle.std.proofs.Common.{arith, rules, pos, ◌<ℤ◌}
use Rattle.std.proofs.lemmas.List.Sorted.{IsPartitionPoint-from_clause}
use Rattle.whole_ring.proofs.Signs.{lin}
use Rattle.edge_rows.specs.Banks.{is_begun}
use Rattle.edge_rows.proofs.BankLemmas.{lows_parted}
use Rattle.edge_rows.proofs.asking.rows_begun.Goals as goal

pub returns-clause-point : goal.returns-clause-point
returns-clause-point c =
    let s = c.args.spot.now in
    let real : pos 0 <ℤ s.m = omega (arith, lin, c.requires.bounded.real) in
    IsPartitionPoint-from_clause (λ r. is_begun r s) c.args.rows.now c.partition_point.result c.partition_point.ensures.partitioned (lows_parted c.args.rows.now s real c.requires.rising) (λ a r q k. search rules)
