use Rattle.std.proofs.Common.{length}
use Rattle.agg_base.specs.Lists.{lists_of}
use Rattle.arc_dissolve.proofs.ShellLemmas.{shells_moved}
use Rattle.arc_dissolve.proofs.shells.shells_of.Goals as goal

pub returns : goal.returns
returns c =
    shells_moved (lists_of c.args.rings.now) (lists_of c.args.outlines.now) (length c.args.outlines.now) c.in_ok-shells.shells.items c.arrange.new.shells.items c.arrange.ensures c.in_ok-shells.ensures
