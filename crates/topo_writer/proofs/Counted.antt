-- The loop over regions.
use Rattle.std.proofs.Common.{◌≡◌, ℕ, ◌+◌, ◌++◌, List, take, drop, All}
use Rattle.std.specs.Str.{IsUtf8}
use Rattle.arc_dissolve.specs.Shapes.{Shape}
use Rattle.topo_writer.specs.MapText.{more_geometries}

-- so many regions are written behind a text
pub record AreWritten (shapes : List Shape) (index region : ℕ) (text new : List ℕ) : Type 0 where
  pub counted : region ≡ index
  pub left : new ++ more_geometries (region + 1) (drop index shapes) ≡ text ++ more_geometries 1 shapes
  pub utf8 : All (λ shape. IsUtf8 shape.class) (take index shapes)
