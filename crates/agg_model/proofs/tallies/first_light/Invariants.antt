use Rattle.std.proofs.Common.{ℕ, ◌<◌}
use Rattle.agg_model.specs.Tops.{IsStart, IsRich}
use Rattle.agg_model.proofs.tallies.first_light.Given as goal

abbrev pub invariant-loop-region : goal.invariant-loop-region
invariant-loop-region l = record {
  start : IsStart l.grouping l.areas l.region l.start;
  rich : (s : ℕ) → s < l.region → IsRich l.problem l.grouping s;
}
