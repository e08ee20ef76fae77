use Rattle.std.proofs.Common.{ℕ, ◌<◌, slice_index}
use Rattle.map_drawing.proofs.tests.are_classes_below.Given as goal

abbrev pub invariant-loop-class : goal.invariant-loop-class
invariant-loop-class l = (k : ℕ) → k < l.class-index → slice_index l.class_of k < l.classes
