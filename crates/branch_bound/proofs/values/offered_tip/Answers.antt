use Rattle.row_laws.proofs.PlainLemmas.{plain_law}
use Rattle.bound_rows.specs.Domains.{allows}
use Rattle.branch_bound.proofs.TakenLemmas.{own_tip, plain_tip}
use Rattle.branch_bound.proofs.values.offered_tip.Goals as goal

pub returns-in-Some-clause-tip : goal.returns-in-Some-clause-tip
returns-in-Some-clause-tip c =
    own_tip c.args.problem.now c.args.share (allows c.args.domains.now) c.args.offer c.in-Some.bound c.args.depth c.in-Some.ensures.value c.requires.shallow c.requires.several

pub returns-in-None-clause-tip : goal.returns-in-None-clause-tip
returns-in-None-clause-tip c =
    let p = c.args.problem.now in
    let f = allows c.args.domains.now in
    plain_tip p c.args.share f c.args.offer c.args.depth c.plain_tip.result c.in-None.ensures.value c.requires.shallow c.requires.several (plain_law p f c.requires.rules).0 c.plain_tip.ensures.leaf c.plain_tip.ensures.worth c.plain_tip.ensures.depth
