use Rattle.std.proofs.Common.{subst, sym, List, ℕ}
use Rattle.topo_writer.specs.Drawing.{SpellsDrawn}
use Rattle.topo_writer.proofs.MapSpelled.{map_is_spelled}
use Rattle.topo_writer.proofs.writer.text.Goals as goal

pub returns-clause-spelled : goal.returns-clause-spelled
returns-clause-spelled c =
    let written = c.in_ok-bytes.ensures in
    subst (λ (bytes : List ℕ). SpellsDrawn bytes c.args.regions.now c.args.frame.now) (sym written.layout) (map_is_spelled c.args.regions.now c.args.frame.now c.requires written.few written.utf8)
