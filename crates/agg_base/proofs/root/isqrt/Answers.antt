use Rattle.agg_base.proofs.RootLemmas.{is_root, root_between}
use Rattle.agg_base.proofs.root.isqrt.Goals as goal

pub returns-clause-value : goal.returns-clause-value
returns-clause-value c = is_root c.args.n c.isqrt.result (root_between c.args.n c.isqrt.result c.isqrt.ensures.square_le c.isqrt.ensures.next_square_gt)
