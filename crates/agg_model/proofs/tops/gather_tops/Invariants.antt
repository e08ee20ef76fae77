use Rattle.std.proofs.Common.{◌≡◌, ℕ, ◌<◌, ◌≤◌, length, slice_index}
use Rattle.agg_model.specs.Tops.{AreFront}
use Rattle.agg_model.proofs.tops.gather_tops.Given as goal

abbrev pub invariant-loop-area : goal.invariant-loop-area
invariant-loop-area l = record {
  front : AreFront (λ v. slice_index l.fn.heads v) l.area l.count (λ i. slice_index l.heads i);
  rest : (v : ℕ) → l.area ≤ v → slice_index l.heads v ≡ slice_index l.fn.heads v;
}
