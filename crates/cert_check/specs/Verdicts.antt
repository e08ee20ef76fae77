-- When a certificate is valid, and the verdict on it.
use Rattle.std.specs.Prelude.{◌≡◌, ◌⊎◌, List, ℕ, Option, Some, None, ℤ, ◌≤ℤ◌, ◌<ℤ◌, IfSome, IsSomeAnd}
use Rattle.agg_model.specs.Problem.{Problem, areas, cost}
use Rattle.plane_edge.specs.declared.coverage.Coverage.{Coverage}
use Rattle.coverage_check.specs.Checked.{Checked}
use Rattle.row_laws.specs.declared.bound.Bound.{Bound}
use Rattle.row_laws.specs.declared.bound.Bound.TheVariants.{Least, Void}
use Rattle.row_laws.specs.declared.leaf.Leaf.{Leaf}
use Rattle.row_laws.specs.declared.tree.Tree.{Tree}
use Rattle.cert_text.specs.declared.certificate.Certificate.{Certificate}
use Rattle.cert_text.specs.declared.certificate.CertStatus.{CertStatus}
use Rattle.cert_text.specs.declared.certificate.CertStatus.TheVariants.{Optimal, Within, Hopeless}
use Rattle.cert_check.specs.declared.verdict.Verdict.{Verdict}
use Rattle.cert_check.specs.declared.verdict.Verdict.TheVariants.{Valid, Split, Denominator, Row, Negative, NotFixed, NotVoid, Wide, Bound as BoundFlaw, Status}
use Rattle.tree_check.specs.First.{Then}
use Rattle.cert_check.specs.Groups.{IsInRange, IsWorth, IsAreasFlaw, IsRangesFlaw, IsWorthFlaw}
use Rattle.cert_check.specs.Drawings.{IsDrawn, IsDrawingFlaw}
use Rattle.tree_check.specs.declared.fault.TreeFault.{TreeFault}
use Rattle.tree_check.specs.declared.fault.TreeFault.TheVariants.{Split as TreeSplit, Denominator as TreeDenominator, Row as TreeRow, Negative as TreeNegative, NotFixed as TreeNotFixed, NotVoid as TreeNotVoid, Wide as TreeWide, Memory}
use Rattle.tree_check.specs.Nodes.{IsSoundAtRoot, IsBoundOf, IsTreeFault}

-- ---- the tree, its bound and the status

-- how a certificate states a bound
abbrev pub stated_as : Bound → Option ℤ
stated_as (Least b) = Some b
stated_as Void = None

-- the tree's bound is the stated one
abbrev pub HasBound : Problem → Tree Leaf → Option ℤ → Type 0
HasBound p tree stated = (b : Bound) × IsBoundOf p tree b × (stated ≡ stated_as b)

-- both numbers are there, and the one is to the other as it is asked
abbrev pub AreBoth : Option ℤ → Option ℤ → (ℤ → ℤ → Type 0) → Type 0
AreBoth (Some b) (Some c) Asked = Asked b c
AreBoth (Some b) None Asked = ⊥
AreBoth None c Asked = ⊥

-- with `Optimal` the bound is not below the cost, and with `Within` it is
abbrev pub IsStatusOf : CertStatus → Option ℤ → Option ℤ → Type 0
IsStatusOf Optimal bound cost = AreBoth bound cost (λ b c. c ≤ℤ b)
IsStatusOf Within bound cost = AreBoth bound cost (λ b c. b <ℤ c)
IsStatusOf Hopeless bound cost = Unit {0}

-- the flaw that is a fault of the tree; none is want of memory
abbrev pub IsFlawOf : TreeFault → Verdict → Type 0
IsFlawOf (TreeSplit node) v = v ≡ Split node
IsFlawOf (TreeDenominator node) v = v ≡ Denominator node
IsFlawOf (TreeRow node row) v = v ≡ Row node row
IsFlawOf (TreeNegative node row) v = v ≡ Negative node row
IsFlawOf (TreeNotFixed node area) v = v ≡ NotFixed node area
IsFlawOf (TreeNotVoid node total) v = v ≡ NotVoid node total
IsFlawOf (TreeWide node entry) v = v ≡ Wide node entry
IsFlawOf Memory v = ⊥

abbrev pub IsTreeFlaw : Problem → Tree Leaf → Verdict → Type 0
IsTreeFlaw p tree v = (fault : TreeFault) × IsFlawOf fault v × IsTreeFault p tree fault

abbrev pub IsBoundFlaw : Problem → Tree Leaf → Option ℤ → Verdict → Type 0
IsBoundFlaw p tree stated v =
    (b : Bound) × (v ≡ BoundFlaw (stated_as b)) × IsBoundOf p tree b × (¬ (stated ≡ stated_as b))

abbrev pub IsStatusFlaw : CertStatus → Option ℤ → Option ℤ → Verdict → Type 0
IsStatusFlaw status bound cost v = (¬ IsStatusOf status bound cost) × (v ≡ Status)

-- the tree is sound over the domains of the root, its bound is the stated one, and the status is right
pub record IsProved (p : Problem) (c : Certificate) : Type 0 where
  pub sound : IsSoundAtRoot p c.tree
  pub bound : HasBound p c.tree c.bound
  pub status : IsStatusOf c.status c.bound c.cost

abbrev pub IsProofFlaw : Problem → Certificate → Verdict → Type 0
IsProofFlaw p c =
    Then (IsSoundAtRoot p c.tree) (IsTreeFlaw p c.tree) (Then (HasBound p c.tree c.bound) (IsBoundFlaw p c.tree c.bound) (IsStatusFlaw c.status c.bound c.cost))

-- ---- the grouping

-- the grouping is in range, drawn, feasible, and of the stated cost
pub record IsGrouped (map : Checked) (p : Problem) (names : List (List ℕ)) (drawn : Coverage) (c : Certificate) : Type 0 where
  pub in_range : IsInRange p c.grouping
  pub shown : IsDrawn map names drawn c.grouping
  pub worth : IsWorth p c.grouping c.cost

abbrev pub IsGroupingFlaw : Checked → Problem → List (List ℕ) → Coverage → Certificate → Verdict → Type 0
IsGroupingFlaw map p names drawn c =
    Then (IsInRange p c.grouping) (IsRangesFlaw p c.grouping) (Then (IsDrawn map names drawn c.grouping) (IsDrawingFlaw map names drawn c.grouping) (IsWorthFlaw p c.grouping c.cost))

-- ---- valid

-- A grouping is valid where the number of areas is that of the problem, regions and classes are in range, it is drawn, it is feasible at the
-- stated cost, and the tree is sound with the stated bound, which is not below the cost with `Optimal`, and is below it with `Within`.
pub record IsValidGrouping (map : Checked) (p : Problem) (names : List (List ℕ)) (drawn : Coverage) (c : Certificate) : Type 0 where
  pub areas : c.areas ≡ areas p
  pub grouped : IsGrouped map p names drawn c
  pub proved : IsProved p c

-- That nothing is feasible is valid where the number of areas is that of the problem, and the tree is sound and its bound is void.
pub record IsValidNone (p : Problem) (c : Certificate) : Type 0 where
  pub areas : c.areas ≡ areas p
  pub sound : IsSoundAtRoot p c.tree
  pub void : IsBoundOf p c.tree Void

abbrev pub IsValidAs : CertStatus → Checked → Problem → List (List ℕ) → Option Coverage → Certificate → Type 0
IsValidAs Optimal map p names drawn c = IsSomeAnd drawn (λ d. IsValidGrouping map p names d c)
IsValidAs Within map p names drawn c = IsSomeAnd drawn (λ d. IsValidGrouping map p names d c)
IsValidAs Hopeless map p names drawn c = IsValidNone p c

abbrev pub IsValid : Checked → Problem → List (List ℕ) → Option Coverage → Certificate → Type 0
IsValid map p names drawn c = IsValidAs c.status map p names drawn c

-- ---- the verdict

-- the first flaw: the number of areas, then the grouping and its drawing where there is one, then the tree
abbrev pub IsFirstFlaw : Checked → Problem → List (List ℕ) → Option Coverage → Certificate → Verdict → Type 0
IsFirstFlaw map p names drawn c =
    Then (c.areas ≡ areas p) (IsAreasFlaw p c.areas) (Then (IfSome drawn (λ d. IsGrouped map p names d c)) (λ v. IsSomeAnd drawn (λ d. IsGroupingFlaw map p names d c v)) (IsProofFlaw p c))

-- valid where it is, else the first flaw
abbrev pub IsVerdict : Checked → Problem → List (List ℕ) → Option Coverage → Certificate → Verdict → Type 0
IsVerdict map p names drawn c v =
    ((v ≡ Valid) × IsValid map p names drawn c) ⊎ IsFirstFlaw map p names drawn c v
