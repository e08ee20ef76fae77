use Rattle.cert_reader.proofs.TreeLemmas.{SomeRows}
use Rattle.cert_reader.proofs.tree_reader.read_rows.Given as goal

abbrev pub invariant-loop-place : goal.invariant-loop-place
invariant-loop-place l = SomeRows l.count l._place l.rows.items l.initial.source l.source
