-- The same certificate again.
use Rattle.std.specs.Prelude.{◌≡◌}
use Rattle.row_laws.specs.Trees.{IsSameTree}
use Rattle.cert_text.specs.declared.certificate.Certificate.{Certificate}

-- the same numbers and the same grouping, and trees of the same splits and leaves
pub record IsSameCertificate (c d : Certificate) : Type 0 where
  pub status_is : c.status ≡ d.status
  pub cost_is : c.cost ≡ d.cost
  pub bound_is : c.bound ≡ d.bound
  pub areas_are : c.areas ≡ d.areas
  pub classes_are : c.grouping.class_of ≡ d.grouping.class_of
  pub regions_are : c.grouping.region_of ≡ d.grouping.region_of
  pub tree_is : IsSameTree c.tree d.tree
