use Rattle.std.proofs.Common.{refl, ap, sym, ◌∙◌, ◌∷◌, [], arith, rules}
use Rattle.std.proofs.lemmas.Result.{err_from_is_err_and}
use Rattle.cert_reader.proofs.TreeLemmas.{fixed_read, cost_read, void_read, split_read, left_fails, right_fails, cost_fails, void_fails}
use Rattle.cert_reader.proofs.tree_reader.+read_tree.Goals as goal

pub returns-in_err-node-clause-fault : goal.returns-in_err-node-clause-fault
returns-in_err-node-clause-fault t c = let p = err_from_is_err_and c.from_residual.result c.from_residual.ensures.1 in rw (p.1, p.2) c.in_err-node.ensures.fault

pub returns-in_err-yes-in-Split-clause-fault : goal.returns-in_err-yes-in-Split-clause-fault
returns-in_err-yes-in-Split-clause-fault t c = let p = err_from_is_err_and c.from_residual-in_err-yes-in-Split.result c.from_residual-in_err-yes-in-Split.ensures.1 in rw (p.1, p.2) (left_fails _ c.in-Split.area c.in-Split.class _ _ _ (rw c.in-Split.is at c.in_ok-node.ensures.read) c.in_err-yes-in-Split.ensures.fault)

pub returns-in_err-no-in-Split-clause-fault : goal.returns-in_err-no-in-Split-clause-fault
returns-in_err-no-in-Split-clause-fault t c = let p = err_from_is_err_and c.from_residual-in_err-no-in-Split.result c.from_residual-in_err-no-in-Split.ensures.1 in rw (p.1, p.2) (right_fails _ c.in-Split.area c.in-Split.class _ _ _ _ _ (rw c.in-Split.is at c.in_ok-node.ensures.read) c.in_ok-yes-in-Split.ensures.read c.in_err-no-in-Split.ensures.fault)

pub returns-in_ok-tree-in-Split-clause-read : goal.returns-in_ok-tree-in-Split-clause-read
returns-in_ok-tree-in-Split-clause-read t c = split_read _ c.in-Split.area c.in-Split.class _ _ _ _ _ _ _ c.in_ok-tree-in-Split.ensures (rw c.in-Split.is at c.in_ok-node.ensures.read) c.in_ok-yes-in-Split.ensures.read c.in_ok-no-in-Split.ensures.read

pub returns-in-Fixed-clause-read : goal.returns-in-Fixed-clause-read
returns-in-Fixed-clause-read t c = fixed_read _ _ _ (rw c.in-Fixed.is at c.in_ok-node.ensures.read)

pub returns-in_err-rows-in-Sum-clause-fault : goal.returns-in_err-rows-in-Sum-clause-fault
returns-in_err-rows-in-Sum-clause-fault t c = let p = err_from_is_err_and c.from_residual-in_err-rows-in-Sum.result c.from_residual-in_err-rows-in-Sum.ensures.1 in rw (p.1, p.2) (cost_fails _ c.in-Sum.denominator c.in-Sum.count _ _ _ (rw c.in-Sum.is at c.in_ok-node.ensures.read) c.in_err-rows-in-Sum.ensures.fault)

pub returns-in_ok-rows-in-Sum-clause-read : goal.returns-in_ok-rows-in-Sum-clause-read
returns-in_ok-rows-in-Sum-clause-read t c = cost_read _ c.in-Sum.denominator c.in-Sum.count _ _ _ _ (rw c.in-Sum.is at c.in_ok-node.ensures.read) c.in_ok-rows-in-Sum.ensures.read

pub returns-in_err-rows-in-Void-clause-fault : goal.returns-in_err-rows-in-Void-clause-fault
returns-in_err-rows-in-Void-clause-fault t c = let p = err_from_is_err_and c.from_residual-in_err-rows-in-Void.result c.from_residual-in_err-rows-in-Void.ensures.1 in rw (p.1, p.2) (void_fails _ c.in-Void.count _ _ _ (rw c.in-Void.is at c.in_ok-node.ensures.read) c.in_err-rows-in-Void.ensures.fault)

pub returns-in_ok-rows-in-Void-clause-read : goal.returns-in_ok-rows-in-Void-clause-read
returns-in_ok-rows-in-Void-clause-read t c = void_read _ c.in-Void.count _ _ _ _ (rw c.in-Void.is at c.in_ok-node.ensures.read) c.in_ok-rows-in-Void.ensures.read
