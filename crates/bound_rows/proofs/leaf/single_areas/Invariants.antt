use Rattle.row_laws.specs.Fixed.{AreSingle}
use Rattle.bound_rows.specs.Domains.{allows}
use Rattle.bound_rows.proofs.leaf.single_areas.Given as goal

abbrev pub invariant-loop-area : goal.invariant-loop-area
invariant-loop-area l = AreSingle l.problem (allows l.domains) l.area
