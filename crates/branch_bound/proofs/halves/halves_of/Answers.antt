use Rattle.bound_rows.specs.Domains.{allows}
use Rattle.branch_bound.proofs.HalfLemmas.{split_at}
use Rattle.branch_bound.proofs.halves.halves_of.Goals as goal

pub returns-clause-split : goal.returns-clause-split
returns-clause-split g c =
    split_at c.args.problem.now (allows c.args.place.domains) c.in_ok-pair.pair.area c.in_ok-pair.pair.class c.split_place.result c.in_ok-pair.ensures c.split_place.ensures.area c.split_place.ensures.class
