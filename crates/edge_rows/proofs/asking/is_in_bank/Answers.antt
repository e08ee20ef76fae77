use Rattle.std.proofs.Common.{◌∙◌, arith, pos, ◌<ℤ◌}
use Rattle.whole_ring.proofs.Signs.{lin}
use Rattle.edge_rows.proofs.BankLemmas.{near_rows}
use Rattle.edge_rows.proofs.asking.is_in_bank.Goals as goal

pub returns : goal.returns
returns c =
    let s = c.args.spot.now in
    let real : pos 0 <ℤ s.m = omega (arith, lin, c.requires.real) in
    c.is_in_odd_rows.ensures
    ∙ near_rows c.args.bank.now.rows.items c.as_slice-rows.result.now c.split_at.result.1.now c.split_at-2.result.0.now s c.rows_under.result c.rows_begun.result real c.as_slice-rows.ensures.value c.rows_under.ensures.bound c.split_at.ensures.back c.split_at-2.ensures.front c.rows_under.ensures.point c.rows_begun.ensures.point
