use Rattle.std.proofs.Common.{ℕ, ◌≡◌, ◌+◌, ◌*◌, ◌<◌, slice_index}
use Rattle.agg_model.proofs.rules.are_zero_to_themselves.Given as goal

abbrev pub invariant-loop-class : goal.invariant-loop-class
invariant-loop-class l = (k : ℕ) → k < l.class → slice_index l.distance (k * l.classes + k) ≡ 0
