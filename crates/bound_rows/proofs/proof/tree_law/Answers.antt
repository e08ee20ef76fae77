-- The law of the trait is that of each leaf.
use Rattle.row_laws.proofs.TreeLemmas.{tree_law}
use Rattle.bound_rows.proofs.proof.tree_law.Goals as goal

pub returns : goal.returns
returns g c = tree_law g.L.LeafProof.sound_at g.L.LeafProof.answer_at g.met.L.LeafProof.holds
