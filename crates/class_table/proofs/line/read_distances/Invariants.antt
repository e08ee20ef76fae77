use Rattle.std.proofs.Common.{◌≡◌, ◌+◌, length, drop}
use Rattle.class_table.specs.Reading.{distances_in}
use Rattle.class_table.proofs.NameLemmas.{onto}
use Rattle.class_table.proofs.line.read_distances.Given as goal

abbrev pub invariant-loop-part : goal.invariant-loop-part
invariant-loop-part l =
    (length l.row.items + length l.rest + 1 ≡ length l.parts) × (distances_in (drop 1 l.parts) ≡ onto l.row.items (distances_in l.rest))

abbrev pub decreases-loop-part : goal.decreases-loop-part
decreases-loop-part l = length l.rest
