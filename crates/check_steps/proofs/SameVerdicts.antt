-- The verdict on a certificate is that on the same certificate again, with the same drawn map.
use Rattle.std.proofs.Common.{◌≡◌, ℕ, ◌⊎◌, inl, inr, refl, sym, ◌∙◌, ap, subst, List, length, Option, Some, None}
use Rattle.std.specs.Prelude.{IfSome, IsSomeAnd, ℤ}
use Rattle.plane_edge.specs.declared.coverage.Coverage.{Coverage}
use Rattle.map_values.specs.Layers.{Layer}
use Rattle.topo_reader.specs.Outcomes.{layer_of}
use Rattle.agg_model.specs.Problem.{Problem, Grouping, areas}
use Rattle.coverage_check.specs.Checked.{Checked}
use Rattle.coverage_check.specs.Kept.{odds_of}
use Rattle.row_laws.specs.declared.bound.Bound.{Bound}
use Rattle.row_laws.specs.declared.bound.Bound.TheVariants.{Void}
use Rattle.row_laws.specs.declared.leaf.Leaf.{Leaf}
use Rattle.row_laws.specs.declared.tree.Tree.{Tree}
use Rattle.row_laws.specs.Trees.{IsSameTree}
use Rattle.cert_text.specs.declared.certificate.Certificate.{Certificate}
use Rattle.cert_text.specs.declared.certificate.CertStatus.{CertStatus}
use Rattle.cert_text.specs.declared.certificate.CertStatus.TheVariants.{Optimal, Within, Hopeless}
use Rattle.cert_reader.specs.Same.{IsSameCertificate}
use Rattle.tree_check.specs.First.{Then}
use Rattle.tree_check.specs.Nodes.{IsSoundAtRoot, IsBoundOf, IsTreeFault}
use Rattle.cert_check.specs.declared.verdict.Verdict.{Verdict}
use Rattle.cert_check.specs.Groups.{IsInRange, IsWorth, IsRangesFlaw, IsWorthFlaw, IsAreasFlaw}
use Rattle.cert_check.specs.Drawings.{IsDrawn, IsDrawingFlaw, IsFrameFlaw, IsRegionsFlaw, AreNamed, AreDrawn, IsNameFlaw, IsEdgesFlaw}
use Rattle.cert_check.specs.Verdicts.{HasBound, IsTreeFlaw, IsBoundFlaw, IsStatusFlaw, IsStatusOf, IsProved, IsProofFlaw, IsGrouped, IsGroupingFlaw, IsValidGrouping, IsValidNone, IsValidAs, IsValid, IsFirstFlaw, IsVerdict}
use Rattle.check_steps.proofs.SameTrees.{same_sound_at_root, same_root_bound, same_root_fault}

-- the same certificate with another tree
abbrev with_tree : Certificate → Tree Leaf → Certificate
with_tree c t = record c { tree = t }

-- ---- the drawn map

-- both are there with the same areas and the same frame, or neither is
abbrev pub IsSameDrawn : Option Coverage → Option Coverage → Type 0
IsSameDrawn None None = Unit {0}
IsSameDrawn None (Some e) = ⊥
IsSameDrawn (Some d) None = ⊥
IsSameDrawn (Some d) (Some e) = layer_of d ≡ layer_of e

same_drawn : (map : Checked) (names : List (List ℕ)) (g : Grouping) (d e : Coverage) → layer_of d ≡ layer_of e → IsDrawn map names d g → IsDrawn map names e g
same_drawn map names g d e same h = record {
  frame = ap (λ (l : Layer). l.frame) (sym same) ∙ h.frame;
  one_each = subst (λ (l : Layer). length l.areas ≡ length g.class_of) same h.one_each;
  classes = subst (λ (l : Layer). AreNamed names l.areas g) same h.classes;
  edges = subst (λ (l : Layer). AreDrawn (odds_of map.areas) l.areas g) same h.edges;
}

-- the flaws of a drawing, by what the drawn map spells
abbrev DrawingFlaws : Checked → List (List ℕ) → Grouping → Verdict → Layer → Type 0
DrawingFlaws map names g v l =
    Then (l.frame ≡ map.frame) (IsFrameFlaw map.frame l.frame) (Then (length l.areas ≡ length g.class_of) (IsRegionsFlaw l.areas g) (Then (AreNamed names l.areas g) (IsNameFlaw names l.areas g) (IsEdgesFlaw (odds_of map.areas) l.areas g))) v

same_drawing_flaw : (map : Checked) (names : List (List ℕ)) (g : Grouping) (v : Verdict) (d e : Coverage) → layer_of d ≡ layer_of e → IsDrawingFlaw map names d g v → IsDrawingFlaw map names e g v
same_drawing_flaw map names g v d e same h = subst (DrawingFlaws map names g v) same h

-- the grouping, its drawing and its cost do not look at the tree
same_grouped : (map : Checked) (p : Problem) (names : List (List ℕ)) (c : Certificate) (t : Tree Leaf) (d e : Coverage)
    → layer_of d ≡ layer_of e → IsGrouped map p names d (with_tree c t) → IsGrouped map p names e c
same_grouped map p names c t d e same h =
    record { in_range = h.in_range; shown = same_drawn map names c.grouping d e same h.shown; worth = h.worth }

same_grouping_flaw : (map : Checked) (p : Problem) (names : List (List ℕ)) (c : Certificate) (v : Verdict) (d e : Coverage)
    → layer_of d ≡ layer_of e → IsGroupingFlaw map p names d c v → IsGroupingFlaw map p names e c v
same_grouping_flaw map p names c v d e same h =
    elim h [
      | inl ranges ↦ inl ranges
      | inr more ↦ inr (
        more.0,
        elim more.1 [
          | inl drawing ↦ inl (same_drawing_flaw map names c.grouping v d e same drawing)
          | inr worth ↦ inr (same_drawn map names c.grouping d e same worth.0, worth.1)
        ],
      )
    ]

-- ---- the tree

same_has_bound : (p : Problem) (t u : Tree Leaf) (stated : Option ℤ) → IsSameTree t u → HasBound p t stated → HasBound p u stated
same_has_bound p t u stated e h = (h.0, same_root_bound p t u h.0 e h.1, h.2)

same_proved : (p : Problem) (c : Certificate) (t : Tree Leaf) → IsSameTree t c.tree → IsProved p (with_tree c t) → IsProved p c
same_proved p c t e h =
    record { sound = same_sound_at_root p t c.tree e h.sound; bound = same_has_bound p t c.tree c.bound e h.bound; status = h.status }

same_proof_flaw : (p : Problem) (c : Certificate) (t : Tree Leaf) (v : Verdict) → IsSameTree t c.tree → IsProofFlaw p (with_tree c t) v → IsProofFlaw p c v
same_proof_flaw p c t v e h =
    elim h [
      | inl tree ↦ inl (tree.0, tree.1, same_root_fault p t c.tree tree.0 e tree.2)
      | inr sound ↦ inr (
        same_sound_at_root p t c.tree e sound.0,
        elim sound.1 [
          | inl bound ↦ inl (bound.0, bound.1, same_root_bound p t c.tree bound.0 e bound.2, bound.3)
          | inr status ↦ inr (same_has_bound p t c.tree c.bound e status.0, status.1)
        ],
      )
    ]

-- ---- all of it

same_valid_as : (status : CertStatus) (map : Checked) (p : Problem) (names : List (List ℕ)) (drawn other : Option Coverage) (c : Certificate) (t : Tree Leaf)
    → IsSameDrawn drawn other → IsSameTree t c.tree → IsValidAs status map p names drawn (with_tree c t) → IsValidAs status map p names other c
same_valid_as Hopeless map p names drawn other c t same e h =
    record { areas = h.areas; sound = same_sound_at_root p t c.tree e h.sound; void = same_root_bound p t c.tree Void e h.void }
same_valid_as Optimal map p names (Some d) (Some d') c t same e h =
    record { areas = h.areas; grouped = same_grouped map p names c t d d' same h.grouped; proved = same_proved p c t e h.proved }
same_valid_as Optimal map p names (Some d) None c t same e h = absurd same
same_valid_as Optimal map p names None other c t same e h = absurd h
same_valid_as Within map p names (Some d) (Some d') c t same e h =
    record { areas = h.areas; grouped = same_grouped map p names c t d d' same h.grouped; proved = same_proved p c t e h.proved }
same_valid_as Within map p names (Some d) None c t same e h = absurd same
same_valid_as Within map p names None other c t same e h = absurd h

same_group_facts : (map : Checked) (p : Problem) (names : List (List ℕ)) (drawn other : Option Coverage) (c : Certificate) (t : Tree Leaf)
    → IsSameDrawn drawn other → IfSome drawn (λ d. IsGrouped map p names d (with_tree c t)) → IfSome other (λ d. IsGrouped map p names d c)
same_group_facts map p names None None c t same h = tt
same_group_facts map p names None (Some e) c t same h = absurd same
same_group_facts map p names (Some d) None c t same h = absurd same
same_group_facts map p names (Some d) (Some e) c t same h = same_grouped map p names c t d e same h

same_group_flaws : (map : Checked) (p : Problem) (names : List (List ℕ)) (drawn other : Option Coverage) (c : Certificate) (v : Verdict)
    → IsSameDrawn drawn other → IsSomeAnd drawn (λ d. IsGroupingFlaw map p names d c v) → IsSomeAnd other (λ d. IsGroupingFlaw map p names d c v)
same_group_flaws map p names None other c v same h = absurd h
same_group_flaws map p names (Some d) None c v same h = absurd same
same_group_flaws map p names (Some d) (Some e) c v same h = same_grouping_flaw map p names c v d e same h

same_flaw : (map : Checked) (p : Problem) (names : List (List ℕ)) (drawn other : Option Coverage) (c : Certificate) (t : Tree Leaf) (v : Verdict)
    → IsSameDrawn drawn other → IsSameTree t c.tree → IsFirstFlaw map p names drawn (with_tree c t) v → IsFirstFlaw map p names other c v
same_flaw map p names drawn other c t v same e h =
    elim h [
      | inl areas ↦ inl areas
      | inr more ↦ inr (
        more.0,
        elim more.1 [
          | inl group ↦ inl (same_group_flaws map p names drawn other c v same group)
          | inr proof ↦ inr (
            same_group_facts map p names drawn other c t same proof.0,
            same_proof_flaw p c t v e proof.1,
          )
        ],
      )
    ]

same_with_tree : (map : Checked) (p : Problem) (names : List (List ℕ)) (drawn other : Option Coverage) (c : Certificate) (t : Tree Leaf) (v : Verdict)
    → IsSameDrawn drawn other → IsSameTree t c.tree → IsVerdict map p names drawn (with_tree c t) v → IsVerdict map p names other c v
same_with_tree map p names drawn other c t v same e h =
    elim h [
      | inl valid ↦ inl (valid.0, same_valid_as c.status map p names drawn other c t same e valid.1)
      | inr flaw ↦ inr (same_flaw map p names drawn other c t v same e flaw)
    ]

same_grouping : (g h : Grouping) → g.class_of ≡ h.class_of → g.region_of ≡ h.region_of → g ≡ h
same_grouping g h c r =
    ap (λ (x : List ℕ). record { region_of = x; class_of = g.class_of }) r ∙ ap (λ (x : List ℕ). record { region_of = h.region_of; class_of = x }) c

-- a certificate is the same one again but for its tree
same_but_tree : (c d : Certificate) → IsSameCertificate c d → c ≡ with_tree d c.tree
same_but_tree c d h =
    ap (λ (x : CertStatus). record c { status = x }) h.status_is
    ∙ ap (λ (x : Option ℤ). record c { status = d.status; cost = x }) h.cost_is
    ∙ ap (λ (x : Option ℤ). record c { status = d.status; cost = d.cost; bound = x }) h.bound_is
    ∙ ap (λ (x : ℕ). record c { status = d.status; cost = d.cost; bound = d.bound; areas = x }) h.areas_are
    ∙ ap (λ (x : Grouping). record c { status = d.status; cost = d.cost; bound = d.bound; areas = d.areas; grouping = x }) (same_grouping c.grouping d.grouping h.classes_are h.regions_are)

pub same_verdict : (map : Checked) (p : Problem) (names : List (List ℕ)) (drawn other : Option Coverage) (c d : Certificate) (v : Verdict)
    → IsSameDrawn drawn other → IsSameCertificate c d → IsVerdict map p names drawn c v → IsVerdict map p names other d v
same_verdict map p names drawn other c d v same again h =
    same_with_tree map p names drawn other d c.tree v same again.tree_is (subst (λ (x : Certificate). IsVerdict map p names drawn x v) (same_but_tree c d again) h)
