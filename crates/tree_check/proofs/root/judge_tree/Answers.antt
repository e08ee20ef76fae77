use Rattle.std.proofs.Common.{Some}
use Rattle.std.proofs.lemmas.Result.{err_from_is_err_and}
use Rattle.bound_rows.specs.Domains.{allows}
use Rattle.tree_check.specs.Nodes.{IsTreeFault, root_domains}
use Rattle.tree_check.proofs.NodeLemmas.{sound_over, fault_over, bound_over, fault_or}
use Rattle.tree_check.proofs.RootLemmas.{root_sets}
use Rattle.tree_check.proofs.root.judge_tree.Goals as goal

pub returns-in_err-judged-clause-fault : goal.returns-in_err-judged-clause-fault
returns-in_err-judged-clause-fault c =
    let p = c.args.problem.now in
    let tree = c.args.tree.now in
    let sets = c.in_ok-domains.domains in
    let fault = c.in_err-judged.field-0.0 in
    let root = root_sets p sets c.in_ok-domains.ensures.domains c.in_ok-domains.ensures.allowed in
    let e = err_from_is_err_and c.from_residual-in_err-judged.result c.from_residual-in_err-judged.ensures.1 in
    rw (e.1, e.2) (fault_or (IsTreeFault p tree) fault (fault_over p tree (allows sets) (root_domains p) 0 fault root c.in_err-judged.ensures.fault))

pub returns-clause-sound : goal.returns-clause-sound
returns-clause-sound c =
    let p = c.args.problem.now in
    let sets = c.in_ok-domains.domains in
    let root = root_sets p sets c.in_ok-domains.ensures.domains c.in_ok-domains.ensures.allowed in
    sound_over p c.args.tree.now (allows sets) (root_domains p) root c.in_ok-judged.ensures.sound

pub returns-clause-bound : goal.returns-clause-bound
returns-clause-bound c =
    let p = c.args.problem.now in
    let sets = c.in_ok-domains.domains in
    let root = root_sets p sets c.in_ok-domains.ensures.domains c.in_ok-domains.ensures.allowed in
    bound_over p c.args.tree.now (allows sets) (root_domains p) (Some c.in_ok-judged.judged.bound) root c.in_ok-judged.ensures.bound
