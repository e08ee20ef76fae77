-- A scratch stays for the same problems where its lists keep their lengths and its ways stay.
use Rattle.std.proofs.Common.{◌≡◌, ℕ, sym, ◌∙◌, subst}
use Rattle.agg_model.specs.Problem.{Problem, areas}
use Rattle.bound_rows.specs.Scratch.{AreWays, AreMarks, Ways}
use Rattle.bound_rows.specs.declared.scratch.Scratch.{Scratch}
use Rattle.bound_rows.specs.Scratches.{IsScratchFor, IsForSame}

pub for_same : (p : Problem) (s t : Scratch) → IsScratchFor p s → IsScratchFor p t → t.ways ≡ s.ways → IsForSame s t
for_same p s t a b e = λ q c.
    let n : areas p ≡ areas q = sym a.kinds ∙ c.kinds in
    record {
      room = (b.room.0 ∙ sym a.room.0 ∙ c.room.0, b.room.1 ∙ sym a.room.1 ∙ c.room.1);
      ways = subst (λ (w : Ways). AreWays q w) (sym e) c.ways;
      marks = subst (λ (k : ℕ). AreMarks k t.marks) n b.marks;
      kinds = b.kinds ∙ n;
      components = (b.components.0 ∙ n, b.components.1 ∙ n);
    }
