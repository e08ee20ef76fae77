use Rattle.std.proofs.Common.{◌≡◌, ℕ, ◌<◌, [], length, get_or, slice_index}
use Rattle.agg_base.specs.Lists.{lists_of}
use Rattle.arc_dissolve.specs.Shells.{IsHead}
use Rattle.arc_dissolve.proofs.heads.heads_of.Given as goal

abbrev pub invariant-loop-place : goal.invariant-loop-place
invariant-loop-place l = record {
  count : length l.heads.items ≡ l.place;
  each : (k : ℕ) → k < l.place → IsHead l.shells (get_or (lists_of l.outlines) k []) k (slice_index l.heads.items k);
}
