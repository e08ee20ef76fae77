use Rattle.std.specs.Prelude.{slice_index}
use Rattle.row_laws.specs.Fixed.{is_same_kind}
use Rattle.fixed_value.proofs.LabelLemmas.{AreLabels}
use Rattle.fixed_value.proofs.components.join_kinds.Given as goal

abbrev pub invariant-loop-link : goal.invariant-loop-link
invariant-loop-link l = AreLabels l.problem (is_same_kind l.problem (λ v. slice_index l.kinds v)) l.link l.heads
