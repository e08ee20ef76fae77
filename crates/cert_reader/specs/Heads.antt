-- What is read of a certificate: its six lines at the head, and the lines behind them.
use Rattle.std.specs.Prelude.{◌≡◌, ◌<◌, ◌≤◌, ◌+◌, ℕ, true, List, [], ◌∷◌, ◌++◌, length, map, All, is_none, if◌then◌else◌}
use Rattle.agg_base.specs.declared.limits.TheConstants.{AREAS, CLASSES, DEPTH, SPLITS, MARKS}
use Rattle.row_laws.specs.Trees.{split_count, depth_of}
use Rattle.cert_text.specs.TreeTexts.{tree_marks, IsTreeInRange}
use Rattle.cert_reader.specs.CertLines.{tree_lines}
use Rattle.cert_text.specs.CertTexts.{is_hopeless, IsStated}
use Rattle.cert_reader.specs.CertLines.{group_lines}
use Rattle.cert_text.specs.declared.certificate.Certificate.{Certificate}
use Rattle.cert_reader.specs.declared.line.Line.{Line}
use Rattle.cert_reader.specs.declared.line.Line.TheVariants as line
use Rattle.cert_reader.specs.Due.{Due, VersionDue, behind_regions}
use Rattle.cert_reader.specs.Reads.{Left, Reads, ReadsPlainly}
use Rattle.cert_reader.specs.declared.reader.Head.{Head}

-- what the head of a certificate says
abbrev pub head_of : Certificate → Head
head_of c = record { status = c.status; cost = c.cost; bound = c.bound; areas = c.areas; regions = length c.grouping.class_of }

-- how many lines name the region of an area
abbrev pub places_in : Head → ℕ
places_in head = (if is_hopeless head.status then 0 else head.areas)

-- what is due behind the head
abbrev pub behind_head : Head → List Due
behind_head head = behind_regions (is_hopeless head.status) head.areas head.regions

-- the six lines
abbrev pub lines_of_head : Head → List Line
lines_of_head head = line.Version ∷ line.Status head.status ∷ line.Cost head.cost ∷ line.Bound head.bound ∷ line.Areas head.areas ∷ line.Regions head.regions ∷ []

-- the head was read, which counts neither marks nor splits
pub record ReadsHead (head : Head) (old new : Left) : Type 0 where
  pub reads : ReadsPlainly (VersionDue ∷ []) (behind_head head) (lines_of_head head) old new
  pub cost : IsStated head.status head.cost
  pub bound : IsStated head.status head.bound
  pub areas : head.areas ≤ AREAS
  pub regions : head.regions ≤ AREAS
  pub none : is_hopeless head.status ≡ true → head.regions ≡ 0

-- what stands behind the head was read
pub record ReadsBody (head : Head) (c : Certificate) (old new : Left) : Type 0 where
  pub reads : Reads (behind_head head) [] (group_lines c.grouping ++ tree_lines c.tree ++ line.End ∷ []) old new
  pub head_is : head ≡ head_of c
  pub classes : All (λ class. class < CLASSES) c.grouping.class_of
  pub regions : All (λ region. region < AREAS) c.grouping.region_of
  pub one_each : length c.grouping.region_of ≡ places_in head
  pub in_range : IsTreeInRange c.tree
  pub deep : depth_of c.tree ≤ DEPTH
  pub splits : old.size.splits ≤ SPLITS → old.size.splits + split_count c.tree ≤ SPLITS
  pub marks : old.size.marks ≤ MARKS → old.size.marks + tree_marks c.tree ≤ MARKS
