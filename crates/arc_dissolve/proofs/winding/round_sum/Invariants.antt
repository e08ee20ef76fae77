use Rattle.std.proofs.Common.{◌≡◌, ◌*◌, ◌^◌, ◌≤◌, ◌+ℤ◌, ◌++◌, ◌∷◌, [], drop, unsigned_abs}
use Rattle.arc_dissolve.specs.Rings.{path_sum}
use Rattle.arc_dissolve.proofs.winding.round_sum.Given as goal

abbrev pub invariant-loop-to : goal.invariant-loop-to
invariant-loop-to l = record {
  bound : unsigned_abs l.sum ≤ l.to-index * 2 ^ 61;
  rest : l.sum +ℤ path_sum l.from (drop l.to-index l.rest ++ l.first ∷ []) ≡ path_sum l.first (l.rest ++ l.first ∷ []);
}
