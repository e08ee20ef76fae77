use Rattle.std.proofs.Common.{refl, ap, sym, ◌∙◌, ◌∷◌, [], arith}
use Rattle.std.proofs.lemmas.Result.{err_from_is_err_and}
use Rattle.cert_reader.specs.Due.{NodeDue}
use Rattle.cert_reader.proofs.SourceLemmas.{wrong_line}
use Rattle.cert_reader.proofs.TreeLemmas.{deep_node, limit_node, node_read}
use Rattle.cert_reader.proofs.tree_reader.read_node.Goals as goal

pub returns-in_err-said-clause-fault : goal.returns-in_err-said-clause-fault
returns-in_err-said-clause-fault c = let p = err_from_is_err_and c.from_residual.result c.from_residual.ensures.1 in rw (p.1, p.2) (c.in_err-said.ensures.fault (NodeDue c.args.depth))

pub returns-in_default-clause-fault : goal.returns-in_default-clause-fault
returns-in_default-clause-fault c = rw c.number-number.ensures (wrong_line (NodeDue c.args.depth) _ _ c.in_ok-said.said c.in_ok-said.ensures.read (c.in_default.ensures.none c.args.depth))

pub returns-then-is_deep-clause-fault : goal.returns-then-is_deep-clause-fault
returns-then-is_deep-clause-fault c = rw c.number-number.ensures (deep_node c.args.depth c.in-Some.node _ _ (rw c.in-Some.ensures.found at c.in_ok-said.ensures.read) (omega arith))

pub returns-then-has_room-clause-read : goal.returns-then-has_room-clause-read
returns-then-has_room-clause-read c =
    node_read c.args.depth c.in-Some.node _ _ _ c.count_node-has_room.result (rw c.in-Some.ensures.found at c.in_ok-said.ensures.read) (omega arith) c.count_node-has_room.ensures.past c.if-has_room.true
    (c.count_node-has_room.ensures.counted c.if-has_room.true)

pub returns-else-has_room-clause-fault : goal.returns-else-has_room-clause-fault
returns-else-has_room-clause-fault c =
    rw c.number-number.ensures (limit_node c.args.depth c.in-Some.node _ _ c.count_node-has_room.result (rw c.in-Some.ensures.found at c.in_ok-said.ensures.read) (omega arith) c.count_node-has_room.ensures.past c.if-has_room.false)
