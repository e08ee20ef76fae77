-- The text of a certificate.
use Rattle.std.specs.Prelude.{◌≡◌, ◌<◌, ◌≤◌, ℕ, Bool, true, false, List, [], ◌∷◌, ◌++◌, length, map, All, Option, is_none, ℤ, FitsSigned, if◌then◌else◌}
use Rattle.std.specs.Option.{ForSome}
use Rattle.std.specs.Int.{w128}
use Rattle.agg_base.specs.Texts.{text_of_lines}
use Rattle.agg_base.specs.declared.limits.TheConstants.{AREAS, CLASSES}
use Rattle.agg_model.specs.Problem.{Grouping}
use Rattle.cert_text.specs.Lines.{line_text}
use Rattle.cert_text.specs.TreeTexts.{tree_lines, HasTreeSpelling}
use Rattle.cert_text.specs.declared.certificate.CertStatus.{CertStatus}
use Rattle.cert_text.specs.declared.certificate.CertStatus.TheVariants.{Optimal, Within, Hopeless}
use Rattle.cert_text.specs.declared.certificate.Certificate.{Certificate}
use Rattle.cert_text.specs.declared.line.Line.{Line}
use Rattle.cert_text.specs.declared.line.Line.TheVariants.{Version, Status, Cost, Bound, Areas, Regions, Class, Region, End}

abbrev pub is_hopeless : CertStatus → Bool
is_hopeless Optimal = false
is_hopeless Within = false
is_hopeless Hopeless = true

-- the six lines at the head
abbrev pub head_lines : Certificate → List Line
head_lines c = Version ∷ Status c.status ∷ Cost c.cost ∷ Bound c.bound ∷ Areas c.areas ∷ Regions (length c.grouping.class_of) ∷ []

-- the class of each region, and the region of each area
abbrev pub group_lines : Grouping → List Line
group_lines g = map Class g.class_of ++ map Region g.region_of

abbrev pub certificate_lines : Certificate → List Line
certificate_lines c = head_lines c ++ group_lines c.grouping ++ tree_lines c.tree ++ End ∷ []

-- the text: each line and its line feed
unfoldable pub spelling : Certificate → List ℕ
spelling c = text_of_lines (map line_text (certificate_lines c))

-- a cost or a bound: a number of 128 bits, and none exactly where no grouping is feasible
pub record IsStated (status : CertStatus) (number : Option ℤ) : Type 0 where
  pub there : is_none number ≡ is_hopeless status
  pub fits : ForSome number (FitsSigned w128)

-- The certificate has a spelling: what stands in it is in range. Where no grouping is feasible it has no regions, and names no area's region.
pub record HasSpelling (c : Certificate) : Type 0 where
  pub cost : IsStated c.status c.cost
  pub bound : IsStated c.status c.bound
  pub areas : c.areas ≤ AREAS
  pub few : length c.grouping.class_of ≤ AREAS
  pub classes : All (λ class. class < CLASSES) c.grouping.class_of
  pub regions : All (λ region. region < AREAS) c.grouping.region_of
  pub one_each : length c.grouping.region_of ≡ (if is_hopeless c.status then 0 else c.areas)
  pub none : is_hopeless c.status ≡ true → length c.grouping.class_of ≡ 0
  pub tree : HasTreeSpelling c.tree

-- the text spells the certificate
pub record Spells (text : List ℕ) (c : Certificate) : Type 0 where
  pub has_spelling : HasSpelling c
  pub text_is : text ≡ spelling c
