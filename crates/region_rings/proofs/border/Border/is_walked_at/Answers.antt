use Rattle.std.proofs.Common.{arith}
use Rattle.region_rings.proofs.ExitLemmas.{exit_read}
use Rattle.region_rings.proofs.border.Border.is_walked_at.Goals as goal

pub is_walked-requires : goal.is_walked-requires
is_walked-requires c =
    let b = c.args.self.now in
    let o = exit_read b.edges.now b.leftward.items b.exits.items c.requires.exits c.args.place c.index.result.now (omega arith) c.index.ensures in
    let within = o.within in
    omega (arith, c.requires.marks)
