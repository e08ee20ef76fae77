-- A certificate has one verdict, and what a valid one says holds.
use Rattle.std.proofs.Common.{◌≡◌, ℕ, inl, inr, refl, sym, ◌∙◌, ap, subst, arith, Bool, true, false, true≢false, cond, List, length, Option, Some, None}
use Rattle.std.specs.Prelude.{◌↔◌, ℤ, ◌≤ℤ◌, ◌<ℤ◌, IfSome, IsSomeAnd, is_some, is_none, not}
use Rattle.std.proofs.lemmas.Int.{ints}
use Rattle.agg_model.specs.Problem.{Problem, Grouping, IsProblem, IsFeasible, areas, cost}
use Rattle.plane_edge.specs.declared.coverage.Coverage.{Coverage}
use Rattle.coverage_check.specs.Checked.{Checked}
use Rattle.row_laws.specs.declared.bound.Bound.{Bound}
use Rattle.row_laws.specs.declared.bound.Bound.TheVariants.{Least, Void}
use Rattle.row_laws.specs.declared.leaf.Leaf.{Leaf}
use Rattle.row_laws.specs.declared.tree.Tree.{Tree}
use Rattle.row_laws.specs.Bounds.{HoldsFor}
use Rattle.row_laws.specs.Trees.{bound_of}
use Rattle.row_laws.specs.Leaves.{IsSoundLeaf, leaf_answer}
use Rattle.row_laws.proofs.LeafLemmas.{leaf_law, root_law}
use Rattle.row_laws.proofs.TreeLemmas.{tree_law}
use Rattle.cert_text.specs.CertTexts.{HasSpelling, IsStated, is_hopeless}
use Rattle.cert_text.specs.declared.certificate.Certificate.{Certificate}
use Rattle.cert_text.specs.declared.certificate.CertStatus.{CertStatus}
use Rattle.cert_text.specs.declared.certificate.CertStatus.TheVariants.{Optimal, Within, Hopeless}
use Rattle.cert_check.specs.declared.verdict.Verdict.{Verdict}
use Rattle.cert_check.specs.declared.verdict.Verdict.TheVariants.{Valid, Bound as BoundFlaw, Status}
use Rattle.tree_check.specs.First.{Then}
use Rattle.cert_check.specs.Groups.{IsAreasFlaw}
use Rattle.tree_check.specs.declared.fault.TreeFault.{TreeFault}
use Rattle.tree_check.specs.declared.fault.TreeFault.TheVariants.{Split as TreeSplit, Denominator as TreeDenominator, Row as TreeRow, Negative as TreeNegative, NotFixed as TreeNotFixed, NotVoid as TreeNotVoid, Wide as TreeWide, Memory}
use Rattle.tree_check.specs.Nodes.{IsSoundAtRoot, IsBoundOf, root_domains}
use Rattle.cert_check.specs.Verdicts.{HasBound, IsFlawOf, IsTreeFlaw, AreBoth, IsStatusOf, IsBoundFlaw, IsStatusFlaw, IsProved, IsProofFlaw, IsGrouped, IsGroupingFlaw, IsValidGrouping, IsValidAs, IsValid, IsFirstFlaw, IsVerdict, stated_as}
use Rattle.cert_check.specs.Laws.{IsDrawnWhere, VerdictLaw, HoldsOfAll, Says, ProofLaw}
use Rattle.tree_check.proofs.StageLemmas.{IsStage, stage_then, stage_where, stage_of, stage_some}
use Rattle.cert_check.proofs.GroupStages.{areas_stage, grouping_stage}
use Rattle.tree_check.proofs.TreeStages.{one_tree_fault_law}
use Rattle.tree_check.proofs.RootLemmas.{root_is_root}

-- ---- the tree

one_bound : (p : Problem) (tree : Tree Leaf) (a b : Bound) → IsBoundOf p tree a → IsBoundOf p tree b → a ≡ b
one_bound p tree a b h k = some_same (bound_of leaf_answer p tree (root_domains p)) a b h k
  where
    some_same : (o : Option Bound) (a b : Bound) → o ≡ Some a → o ≡ Some b → a ≡ b
    some_same o a b h k =
        let both : Some a ≡ Some b = sym h ∙ k in
        cc

bound_apart : (o : Option ℤ) → Valid ≡ BoundFlaw o → ⊥
bound_apart o e = cc

bound_stage : (p : Problem) (tree : Tree Leaf) (stated : Option ℤ) → IsStage Valid (HasBound p tree stated) (IsBoundFlaw p tree stated)
bound_stage p tree stated = record {
  never = λ h v f. f.3 (h.2 ∙ ap stated_as (one_bound p tree h.0 f.0 h.1 f.2));
  once = λ v w f g. f.1 ∙ (ap (λ (b : Bound). BoundFlaw (stated_as b)) (one_bound p tree f.0 g.0 f.2 g.2) ∙ sym g.1);
  real = λ f. bound_apart (stated_as f.0) f.1;
}

-- a fault of a tree is one flaw, and that is not `Valid`
one_flaw : (fault : TreeFault) (v w : Verdict) → IsFlawOf fault v → IsFlawOf fault w → v ≡ w
one_flaw (TreeSplit node) v w a b = a ∙ sym b
one_flaw (TreeDenominator node) v w a b = a ∙ sym b
one_flaw (TreeRow node row) v w a b = a ∙ sym b
one_flaw (TreeNegative node row) v w a b = a ∙ sym b
one_flaw (TreeNotFixed node area) v w a b = a ∙ sym b
one_flaw (TreeNotVoid node total) v w a b = a ∙ sym b
one_flaw (TreeWide node entry) v w a b = a ∙ sym b
one_flaw Memory v w a b = absurd a

flaw_apart : (fault : TreeFault) → ¬ IsFlawOf fault Valid
flaw_apart (TreeSplit node) e = cc
flaw_apart (TreeDenominator node) e = cc
flaw_apart (TreeRow node row) e = cc
flaw_apart (TreeNegative node row) e = cc
flaw_apart (TreeNotFixed node area) e = cc
flaw_apart (TreeNotVoid node total) e = cc
flaw_apart (TreeWide node entry) e = cc
flaw_apart Memory e = e

tree_stage : (p : Problem) (tree : Tree Leaf) → IsStage Valid (IsSoundAtRoot p tree) (IsTreeFlaw p tree)
tree_stage p tree = record {
  never = λ h v f. (one_tree_fault_law p tree).1 h f.0 f.2;
  once = λ v w f g. one_flaw g.0 v w (subst (λ (x : TreeFault). IsFlawOf x v) ((one_tree_fault_law p tree).0 f.0 g.0 f.2 g.2) f.1) g.1;
  real = λ f. flaw_apart f.0 f.1;
}

proof_stage : (p : Problem) (c : Certificate) → IsStage Valid (IsProved p c) (IsProofFlaw p c)
proof_stage p c =
    let sound = IsSoundAtRoot p c.tree in
    let bound = HasBound p c.tree c.bound in
    let status = IsStatusOf c.status c.bound c.cost in
    let tail = Then bound (IsBoundFlaw p c.tree c.bound) (IsStatusFlaw c.status c.bound c.cost) in
    stage_where Valid (sound × (bound × status)) (IsProved p c) (IsProofFlaw p c) (λ h. (h.sound, (h.bound, h.status))) (stage_then Valid sound (IsTreeFlaw p c.tree) (bound × status) tail (tree_stage p c.tree) (stage_then Valid bound (IsBoundFlaw p c.tree c.bound) status (IsStatusFlaw c.status c.bound c.cost) (bound_stage p c.tree c.bound) (stage_of Valid status Status (λ e. cc))))

-- ---- all flaws

-- what is asked of a certificate, part by part
abbrev Parts : Checked → Problem → List (List ℕ) → Option Coverage → Certificate → Type 0
Parts map p names drawn c = (c.areas ≡ areas p) × (IfSome drawn (λ d. IsGrouped map p names d c) × IsProved p c)

flaw_stage : (map : Checked) (p : Problem) (names : List (List ℕ)) (drawn : Option Coverage) (c : Certificate) → IsStage Valid (Parts map p names drawn c) (IsFirstFlaw map p names drawn c)
flaw_stage map p names drawn c =
    let grouped = IfSome drawn (λ d. IsGrouped map p names d c) in
    let grouped_flaw = λ (v : Verdict). IsSomeAnd drawn (λ d. IsGroupingFlaw map p names d c v) in
    stage_then Valid (c.areas ≡ areas p) (IsAreasFlaw p c.areas) (grouped × IsProved p c) (Then grouped grouped_flaw (IsProofFlaw p c)) (areas_stage p c.areas) (stage_then Valid grouped grouped_flaw (IsProved p c) (IsProofFlaw p c) (stage_some Valid drawn (λ d. IsGrouped map p names d c) (λ d v. IsGroupingFlaw map p names d c v) (λ d. grouping_stage map p names d c)) (proof_stage p c))

-- ---- valid

grouping_parts : (map : Checked) (p : Problem) (names : List (List ℕ)) (drawn : Option Coverage) (c : Certificate) → IsSomeAnd drawn (λ d. IsValidGrouping map p names d c) → Parts map p names drawn c
grouping_parts map p names None c h = absurd h
grouping_parts map p names (Some d) c h = (h.areas, (h.grouped, h.proved))

parts_grouping : (map : Checked) (p : Problem) (names : List (List ℕ)) (drawn : Option Coverage) (c : Certificate) → is_some drawn ≡ true → Parts map p names drawn c → IsSomeAnd drawn (λ d. IsValidGrouping map p names d c)
parts_grouping map p names None c there h = absurd (true≢false (sym there))
parts_grouping map p names (Some d) c there h = record { areas = h.0; grouped = h.1.0; proved = h.1.1 }

none_of : (o : Option ℤ) → is_none o ≡ true → o ≡ None
none_of None h = refl
none_of (Some b) h = cc

void_of : (b : Bound) → None ≡ stated_as b → b ≡ Void
void_of (Least b) h = cc
void_of Void h = refl

no_coverage : (Fact : Coverage → Type 0) (drawn : Option Coverage) → is_some drawn ≡ false → IfSome drawn Fact
no_coverage Fact None h = tt
no_coverage Fact (Some d) h = absurd (true≢false h)

abbrev valid_parts_for : (status : CertStatus) → Checked → Problem → List (List ℕ) → Option Coverage → Certificate → Type 0
valid_parts_for status map p names drawn c =
    c.status ≡ status → IsStated status c.bound → IsDrawnWhere status drawn → IsValidAs status map p names drawn c → Parts map p names drawn c

valid_as : (status : CertStatus) (map : Checked) (p : Problem) (names : List (List ℕ)) (drawn : Option Coverage) (c : Certificate) → valid_parts_for status map p names drawn c
valid_as Optimal map p names drawn c is stated there h = grouping_parts map p names drawn c h
valid_as Within map p names drawn c is stated there h = grouping_parts map p names drawn c h
valid_as Hopeless map p names drawn c is stated there h = (
  h.areas,
  (
    no_coverage (λ d. IsGrouped map p names d c) drawn there,
    record {
      sound = h.sound;
      bound = (Void, h.void, none_of c.bound stated.there);
      status = subst (λ (s : CertStatus). IsStatusOf s c.bound c.cost) (sym is) tt;
    },
  ),
)

parts_as : (status : CertStatus) (map : Checked) (p : Problem) (names : List (List ℕ)) (drawn : Option Coverage) (c : Certificate) → c.status ≡ status → IsStated status c.bound → IsDrawnWhere status drawn → Parts map p names drawn c → IsValidAs status map p names drawn c
parts_as Optimal map p names drawn c is stated there h = parts_grouping map p names drawn c there h
parts_as Within map p names drawn c is stated there h = parts_grouping map p names drawn c there h
parts_as Hopeless map p names drawn c is stated there h =
    let bound = h.1.1.bound in
    record {
      areas = h.0;
      sound = h.1.1.sound;
      void = subst (λ (b : Bound). IsBoundOf p c.tree b) (void_of bound.0 (sym (none_of c.bound stated.there) ∙ bound.2)) bound.1;
    }

pub valid_parts : (map : Checked) (p : Problem) (names : List (List ℕ)) (drawn : Option Coverage) (c : Certificate) → HasSpelling c → IsDrawnWhere c.status drawn → IsValid map p names drawn c → Parts map p names drawn c
valid_parts map p names drawn c spelled there h = valid_as c.status map p names drawn c refl spelled.bound there h

pub parts_valid : (map : Checked) (p : Problem) (names : List (List ℕ)) (drawn : Option Coverage) (c : Certificate) → HasSpelling c → IsDrawnWhere c.status drawn → Parts map p names drawn c → IsValid map p names drawn c
parts_valid map p names drawn c spelled there h = parts_as c.status map p names drawn c refl spelled.bound there h

-- where there is a drawn map, each area has a region
pub one_region_each : (c : Certificate) (drawn : Option Coverage) (d : Coverage) → HasSpelling c → IsDrawnWhere c.status drawn → drawn ≡ Some d → length c.grouping.region_of ≡ c.areas
one_region_each c drawn d spelled there e =
    let stated : is_hopeless c.status ≡ false = undone (is_hopeless c.status) (sym there ∙ ap is_some e) in
    spelled.one_each ∙ ap (λ b. cond b 0 c.areas) stated
  where
    undone : (b : Bool) → not b ≡ true → b ≡ false
    undone true h = absurd (true≢false (sym h))
    undone false h = refl

-- ---- one verdict

one_verdict : (map : Checked) (p : Problem) (names : List (List ℕ)) (drawn : Option Coverage) (c : Certificate) → HasSpelling c → IsDrawnWhere c.status drawn
    → (one other : Verdict) → IsVerdict map p names drawn c one → IsVerdict map p names drawn c other → one ≡ other
one_verdict map p names drawn c spelled there one other (inl a) (inl b) = a.0 ∙ sym b.0
one_verdict map p names drawn c spelled there one other (inl a) (inr b) =
    absurd ((flaw_stage map p names drawn c).never (valid_parts map p names drawn c spelled there a.1) other b)
one_verdict map p names drawn c spelled there one other (inr a) (inl b) =
    absurd ((flaw_stage map p names drawn c).never (valid_parts map p names drawn c spelled there b.1) one a)
one_verdict map p names drawn c spelled there one other (inr a) (inr b) =
    (flaw_stage map p names drawn c).once one other a b

pub verdict_valid : (map : Checked) (p : Problem) (names : List (List ℕ)) (drawn : Option Coverage) (c : Certificate) → HasSpelling c → IsDrawnWhere c.status drawn
    → (v : Verdict) → IsVerdict map p names drawn c v → (v ≡ Valid) ↔ IsValid map p names drawn c
verdict_valid map p names drawn c spelled there v (inl a) = (λ e. a.1, λ h. a.0)
verdict_valid map p names drawn c spelled there v (inr a) = (
  λ e. absurd ((flaw_stage map p names drawn c).real (subst (λ (w : Verdict). IsFirstFlaw map p names drawn c w) e a)),
  λ h. absurd ((flaw_stage map p names drawn c).never (valid_parts map p names drawn c spelled there h) v a),
)

pub verdict_law : VerdictLaw
verdict_law map p names drawn c spelled there = (one_verdict map p names drawn c spelled there, verdict_valid map p names drawn c spelled there)

-- ---- what is proved

-- a sound tree's bound holds of every feasible grouping
tree_holds : (p : Problem) (tree : Tree Leaf) (b : Bound) (g : Grouping) → IsProblem p → IsSoundAtRoot p tree → IsBoundOf p tree b → IsFeasible p g → HoldsFor b p g
tree_holds p tree b g ok sound is feasible =
    let law = tree_law IsSoundLeaf leaf_answer leaf_law tree p (root_domains p) ok sound in
    subst (λ (x : Bound). HoldsFor x p g) (one_bound p tree law.0 b law.1 is) (law.2 g feasible (root_law p (root_domains p) g ok feasible (root_is_root p)))

-- a number that a bound is stated as holds of every feasible grouping
stated_holds : (p : Problem) (tree : Tree Leaf) (b : Bound) (x : ℤ) (g : Grouping) → IsProblem p → IsSoundAtRoot p tree → IsBoundOf p tree b → Some x ≡ stated_as b → IsFeasible p g → x ≤ℤ cost p g
stated_holds p tree (Least y) x g ok sound is e feasible =
    let same : x ≡ y = cc in
    subst (λ (z : ℤ). z ≤ℤ cost p g) (sym same) (tree_holds p tree (Least y) g ok sound is feasible)
stated_holds p tree Void x g ok sound is e feasible = cc

-- with both numbers there, the bound is one that holds
both_bound : (o q : Option ℤ) (Asked : ℤ → ℤ → Type 0) → AreBoth o q Asked → (b : ℤ) × (c : ℤ) × (o ≡ Some b) × (q ≡ Some c) × Asked b c
both_bound (Some b) (Some c) Asked h = (b, c, refl, refl, h)
both_bound (Some b) None Asked h = absurd h
both_bound None q Asked h = absurd h

optimal_says : (p : Problem) (c : Certificate) → IsProblem p → IsProved p c → AreBoth c.bound c.cost (λ b x. x ≤ℤ b) → HoldsOfAll p c.cost
optimal_says p c ok proved both =
    let numbers = both_bound c.bound c.cost (λ b x. x ≤ℤ b) both in
    let bound = proved.bound in
    subst (λ (o : Option ℤ). HoldsOfAll p o) (sym numbers.3) (λ g feasible. through numbers.1 numbers.0 (cost p g) numbers.4 (stated_holds p c.tree bound.0 numbers.0 g ok proved.sound bound.1 (sym numbers.2 ∙ bound.2) feasible))
  where
    through : (x y z : ℤ) → x ≤ℤ y → y ≤ℤ z → x ≤ℤ z
    through x y z h k = omega (arith, ints)

within_says : (p : Problem) (c : Certificate) → IsProblem p → IsProved p c → AreBoth c.bound c.cost (λ b x. b <ℤ x) → HoldsOfAll p c.bound
within_says p c ok proved both =
    let numbers = both_bound c.bound c.cost (λ b x. b <ℤ x) both in
    let bound = proved.bound in
    subst (λ (o : Option ℤ). HoldsOfAll p o) (sym numbers.2) (λ g feasible. stated_holds p c.tree bound.0 numbers.0 g ok proved.sound bound.1 (sym numbers.2 ∙ bound.2) feasible)

grouping_says : (map : Checked) (p : Problem) (names : List (List ℕ)) (drawn : Option Coverage) (c : Certificate) → IsSomeAnd drawn (λ d. IsValidGrouping map p names d c) → IsFeasible p c.grouping × (c.cost ≡ Some (cost p c.grouping)) × IsProved p c
grouping_says map p names None c h = absurd h
grouping_says map p names (Some d) c h = (h.grouped.worth.feasible, h.grouped.worth.cost, h.proved)

says_as : (status : CertStatus) (map : Checked) (p : Problem) (names : List (List ℕ)) (drawn : Option Coverage) (c : Certificate) → c.status ≡ status → IsProblem p → IsValidAs status map p names drawn c → Says status p c
says_as Optimal map p names drawn c is ok h =
    let says = grouping_says map p names drawn c h in
    (says.0, says.1, optimal_says p c ok says.2 (subst (λ (s : CertStatus). IsStatusOf s c.bound c.cost) is says.2.status))
says_as Within map p names drawn c is ok h =
    let says = grouping_says map p names drawn c h in
    (says.0, says.1, within_says p c ok says.2 (subst (λ (s : CertStatus). IsStatusOf s c.bound c.cost) is says.2.status))
says_as Hopeless map p names drawn c is ok h = λ g feasible. tree_holds p c.tree Void g ok h.sound h.void feasible

pub proof_law : ProofLaw
proof_law map p names drawn c ok h = says_as c.status map p names drawn c refl ok h
