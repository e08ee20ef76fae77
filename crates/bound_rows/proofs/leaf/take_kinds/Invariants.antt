use Rattle.std.proofs.Common.{◌≡◌, ◌<◌, ℕ}
use Rattle.std.specs.Prelude.{slice_index}
use Rattle.row_laws.specs.Fixed.{kind_in}
use Rattle.bound_rows.specs.Domains.{allows}
use Rattle.bound_rows.proofs.leaf.take_kinds.Given as goal

abbrev pub invariant-loop-area : goal.invariant-loop-area
invariant-loop-area l = (v : ℕ) → v < l.area → slice_index l.kinds v ≡ kind_in l.problem (allows l.domains) v
