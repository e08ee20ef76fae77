use Rattle.std.proofs.Common.{◌-◌, ◌+◌}
use Rattle.agg_base.specs.declared.limits.TheConstants.{DEPTH}
use Rattle.cert_reader.proofs.tree_reader.+read_tree.Given as goal

abbrev pub decreases-read_tree : goal.decreases-read_tree
decreases-read_tree l = DEPTH + 2 - l.depth
