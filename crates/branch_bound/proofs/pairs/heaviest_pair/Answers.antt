use Rattle.branch_bound.proofs.PairLemmas.{fork_of}
use Rattle.branch_bound.proofs.pairs.heaviest_pair.Goals as goal

pub returns : goal.returns
returns c =
    fork_of c.args.problem.now c.args.domains.now c.heaviest-area.result c.likely_class-class.result c.requires.domains c.heaviest-area.ensures.area c.likely_class-class.ensures c.heaviest-area.ensures.several
