-- What is due of a certificate, line by line.
use Rattle.std.specs.Prelude.{◌==◌, ℤ, ◌&&◌, ◌+◌, not, if◌then◌else◌, Bool, true, false, ℕ, List, [], ◌∷◌, ◌++◌, replicate, is_none, Option, Some, None}
use Rattle.cert_text.specs.CertTexts.{is_hopeless}
use Rattle.cert_reader.specs.declared.line.Line.{Line}
use Rattle.cert_reader.specs.declared.line.Line.TheVariants.{Version, Status, Cost, Bound, Areas, Regions, Class, Region, Split, Fixed, Sum, Void, Row, End}

-- A line that is due. Behind the status it is known whether no grouping is feasible, and behind the areas how many regions of areas follow;
-- a node has a depth.
pub data Due : Type 0 where
  VersionDue : Due
  StatusDue : Due
  CostDue : Bool → Due
  BoundDue : Bool → Due
  AreasDue : Bool → Due
  RegionsDue : Bool → ℕ → Due
  ClassDue : Due
  RegionDue : Due
  NodeDue : ℕ → Due
  RowDue : Due
  EndDue : Due

-- what is due behind the line with the number of regions: their classes, the regions of the areas, the tree and the last line
unfoldable pub behind_regions : Bool → ℕ → ℕ → List Due
behind_regions hopeless areas regions =
    replicate regions ClassDue ++ replicate (if hopeless then 0 else areas) RegionDue ++ NodeDue 0 ∷ EndDue ∷ []

-- what a line makes of the one that is due; none where it is another line
abbrev pub after_version : Line → Option (List Due)
after_version Version = Some (StatusDue ∷ [])
after_version line = None

abbrev pub after_status : Line → Option (List Due)
after_status (Status status) = Some (CostDue (is_hopeless status) ∷ [])
after_status line = None

-- a dash stands exactly where no grouping is feasible
abbrev pub fits_status : Bool → Option ℤ → Bool
fits_status hopeless number = if hopeless then is_none number else not (is_none number)

abbrev pub after_cost : Bool → Line → Option (List Due)
after_cost hopeless (Cost cost) = if fits_status hopeless cost then Some (BoundDue hopeless ∷ []) else None
after_cost hopeless line = None

abbrev pub after_bound : Bool → Line → Option (List Due)
after_bound hopeless (Bound bound) = if fits_status hopeless bound then Some (AreasDue hopeless ∷ []) else None
after_bound hopeless line = None

abbrev pub after_areas : Bool → Line → Option (List Due)
after_areas hopeless (Areas count) = Some (RegionsDue hopeless count ∷ [])
after_areas hopeless line = None

-- there is no region where no grouping is feasible
abbrev pub has_too_many : Bool → ℕ → Bool
has_too_many hopeless count = hopeless && not (count == 0)

abbrev pub after_regions : Bool → ℕ → Line → Option (List Due)
after_regions hopeless areas (Regions count) = if has_too_many hopeless count then None else Some (behind_regions hopeless areas count)
after_regions hopeless areas line = None

abbrev pub after_class : Line → Option (List Due)
after_class (Class class) = Some []
after_class line = None

abbrev pub after_region : Line → Option (List Due)
after_region (Region region) = Some []
after_region line = None

-- behind a split its two children are due, behind a sum its rows
abbrev pub after_node : ℕ → Line → Option (List Due)
after_node depth (Split area class) = Some (NodeDue (depth + 1) ∷ NodeDue (depth + 1) ∷ [])
after_node depth Fixed = Some []
after_node depth (Sum denominator count) = Some (replicate count RowDue)
after_node depth (Void count) = Some (replicate count RowDue)
after_node depth line = None

abbrev pub after_row : Line → Option (List Due)
after_row (Row row m) = Some []
after_row line = None

abbrev pub after_end : Line → Option (List Due)
after_end End = Some []
after_end line = None

abbrev pub after : Due → Line → Option (List Due)
after VersionDue line = after_version line
after StatusDue line = after_status line
after (CostDue hopeless) line = after_cost hopeless line
after (BoundDue hopeless) line = after_bound hopeless line
after (AreasDue hopeless) line = after_areas hopeless line
after (RegionsDue hopeless areas) line = after_regions hopeless areas line
after ClassDue line = after_class line
after RegionDue line = after_region line
after (NodeDue depth) line = after_node depth line
after RowDue line = after_row line
after EndDue line = after_end line
