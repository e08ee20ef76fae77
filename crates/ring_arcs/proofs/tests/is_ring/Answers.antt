use Rattle.std.proofs.Common.{ℕ, ◌≤◌, IsTrue, leb, arith, length}
use Rattle.std.proofs.lemmas.Bool.Decides.{nat_tests}
use Rattle.ring_arcs.proofs.Points.{true_not_false, is_same}
use Rattle.ring_arcs.proofs.tests.is_ring.Goals as goal

three_or_more : (n m : ℕ) → IsTrue (leb m n) → m ≤ n
three_or_more n m h = grind (arith, nat_tests)

pub returns : goal.returns
returns c = λ h. record {
  long = three_or_more (length c.args.ring.now) 3 h;
  simple = λ i j d l m e. true_not_false _ (is_same _ _ e) (c.loop-at.invariant i j d (omega arith) l m);
}
