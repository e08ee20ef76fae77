-- Two texts are refused by one line at most, and by none where they are accepted.
use Rattle.std.proofs.Common.{◌≡◌, ℕ, ℤ, List, ◌≢◌, ◌∙◌, ap, subst}
use Rattle.map_values.specs.Layers.{Layer}
use Rattle.class_table.specs.Table.{Table}
use Rattle.class_table.specs.TableTexts.{IsTableText}
use Rattle.class_table.specs.Faults as tables
use Rattle.class_table.specs.declared.fault.TableFault.{TableFault}
use Rattle.class_table.proofs.LawLemmas.{one_table_text, one_first_fault, table_no_fault}
use Rattle.coverage_check.specs.Checked.{Checked}
use Rattle.coverage_check.specs.Cover.{IsPlanarCover, IsDisjointCover}
use Rattle.coverage_check.specs.Kept.{OddArea, kept_of, odds_of}
use Rattle.coverage_check.specs.Fault as covers
use Rattle.coverage_check.specs.declared.fault.CoverFault.{CoverFault}
use Rattle.coverage_check.specs.declared.fault.CoverFault.TheVariants as cover
use Rattle.area_graph.specs.Problems.{IsLeastUnknown, IsLeastLight}
use Rattle.area_graph.proofs.OneProblem.{unknown_law, light_law, one_unknown_law, one_light_law, unknown_not_light_law}
use Rattle.agg_model.specs.Problem.{Problem}
use Rattle.generalise_steps.specs.FaultLines.{table_line, cover_line, class_line, weight_line}
use Rattle.generalise_steps.specs.MapTexts.{SpellsMap, RefusesMap}
use Rattle.generalise_steps.specs.Loads.{IsMap, Loads}
use Rattle.generalise_steps.specs.Refusals.{Refuses, map_text, table_text, coverage, classes, weights}
use Rattle.generalise_steps.specs.declared.map_format.Format.{Format}
use Rattle.generalise_steps.proofs.CoverLaws.{one_cover_fault, right_cover}
use Rattle.generalise_steps.proofs.LoadLemmas.{one_map}
use Rattle.generalise_steps.proofs.MapLemmas.{one_map_text, one_map_line, map_no_line}

-- ---- steps that exclude each other

-- a coverage with a fault is no map
no_map : (format : Format) (map : List ℕ) (layer : Layer) (f : CoverFault) (c : Checked)
    → SpellsMap format map layer → f ≢ cover.Memory → covers.IsFaultOf (odds_of (kept_of layer.areas)) f → ¬ IsMap format map c
no_map format map layer f c spelled real fault = λ is_map.
    let one : is_map.layer ≡ layer = one_map_text format map is_map.layer layer is_map.spelled spelled in
    let same : odds_of c.areas ≡ odds_of (kept_of layer.areas) = ap odds_of (is_map.kept ∙ ap (λ (l : Layer). kept_of l.areas) one) in
    right_cover (odds_of (kept_of layer.areas)) f real fault (subst IsPlanarCover same is_map.planar) (subst IsDisjointCover same is_map.disjoint)

light_line : (areas : List OddArea) (t : Table) (v w : ℕ) (sum other : ℤ) → IsLeastLight areas t v sum → IsLeastLight areas t w other → weight_line v sum ≡ weight_line w other
light_line areas t v w sum other p q =
    let same = one_light_law areas t v w sum other p q in
    ap (λ x. weight_line x sum) same.0 ∙ ap (weight_line w) same.1

-- ---- a step that refuses, beside any refusal

beside_map : (format : Format) (map text l m : List ℕ) → RefusesMap format map l → Refuses format map text m → l ≡ m
beside_map format map text l m is (map_text line other) = one_map_line format map l line is other
beside_map format map text l m is (table_text layer g spelled real other) = absurd (map_no_line format map l layer spelled is)
beside_map format map text l m is (coverage layer t g spelled is_table real other) = absurd (map_no_line format map l layer spelled is)
beside_map format map text l m is (classes c t v is_map is_table least) = absurd (map_no_line format map l is_map.layer is_map.spelled is)
beside_map format map text l m is (weights c t v sum is_map is_table least) = absurd (map_no_line format map l is_map.layer is_map.spelled is)

beside_table : (format : Format) (map text m : List ℕ) (layer : Layer) (f : TableFault)
    → SpellsMap format map layer → tables.IsFirstFault text f → Refuses format map text m → table_line f ≡ m
beside_table format map text m layer f spelled first (map_text line other) = absurd (map_no_line format map line layer spelled other)
beside_table format map text m layer f spelled first (table_text also g too real other) = ap table_line (one_first_fault text f g first other)
beside_table format map text m layer f spelled first (coverage also t g too is_table real other) = absurd (table_no_fault text t f is_table first)
beside_table format map text m layer f spelled first (classes c t v is_map is_table least) = absurd (table_no_fault text t f is_table first)
beside_table format map text m layer f spelled first (weights c t v sum is_map is_table least) = absurd (table_no_fault text t f is_table first)

beside_cover : (format : Format) (map text m : List ℕ) (layer : Layer) (t : Table) (f : CoverFault)
    → SpellsMap format map layer → IsTableText text t → f ≢ cover.Memory → covers.IsFaultOf (odds_of (kept_of layer.areas)) f → Refuses format map text m → cover_line f ≡ m
beside_cover format map text m layer t f spelled is_table real fault (map_text line other) = absurd (map_no_line format map line layer spelled other)
beside_cover format map text m layer t f spelled is_table real fault (table_text also g too sure other) = absurd (table_no_fault text t g is_table other)
beside_cover format map text m layer t f spelled is_table real fault (coverage also u g spelled_too too sure other) =
    let same : also ≡ layer = one_map_text format map also layer spelled_too spelled in
    ap cover_line (one_cover_fault (odds_of (kept_of layer.areas)) f g real sure fault (subst (λ (x : Layer). covers.IsFaultOf (odds_of (kept_of x.areas)) g) same other))
beside_cover format map text m layer t f spelled is_table real fault (classes c u v is_map too least) = absurd (no_map format map layer f c spelled real fault is_map)
beside_cover format map text m layer t f spelled is_table real fault (weights c u v sum is_map too least) = absurd (no_map format map layer f c spelled real fault is_map)

beside_classes : (format : Format) (map text m : List ℕ) (c : Checked) (t : Table) (v : ℕ)
    → IsMap format map c → IsTableText text t → IsLeastUnknown c.areas t v → Refuses format map text m → class_line v ≡ m
beside_classes format map text m c t v is_map is_table least (map_text line other) = absurd (map_no_line format map line is_map.layer is_map.spelled other)
beside_classes format map text m c t v is_map is_table least (table_text also g too real other) = absurd (table_no_fault text t g is_table other)
beside_classes format map text m c t v is_map is_table least (coverage also u g spelled too real other) = absurd (no_map format map also g c spelled real other is_map)
beside_classes format map text m c t v is_map is_table least (classes d u w also too other) =
    let map_is : d ≡ c = one_map format map d c also is_map in
    let table_is : u ≡ t = one_table_text text u t too is_table in
    ap class_line (one_unknown_law c.areas t v w least (subst (λ x. IsLeastUnknown c.areas x w) table_is (subst (λ x. IsLeastUnknown x.areas u w) map_is other)))
beside_classes format map text m c t v is_map is_table least (weights d u w sum also too other) =
    let map_is : d ≡ c = one_map format map d c also is_map in
    let table_is : u ≡ t = one_table_text text u t too is_table in
    let here : IsLeastLight c.areas t w sum = subst (λ x. IsLeastLight c.areas x w sum) table_is (subst (λ x. IsLeastLight x.areas u w sum) map_is other) in
    absurd (unknown_not_light_law c.areas t v w sum least here)

beside_weights : (format : Format) (map text m : List ℕ) (c : Checked) (t : Table) (v : ℕ) (sum : ℤ)
    → IsMap format map c → IsTableText text t → IsLeastLight c.areas t v sum → Refuses format map text m → weight_line v sum ≡ m
beside_weights format map text m c t v sum is_map is_table least (map_text line other) = absurd (map_no_line format map line is_map.layer is_map.spelled other)
beside_weights format map text m c t v sum is_map is_table least (table_text also g too real other) = absurd (table_no_fault text t g is_table other)
beside_weights format map text m c t v sum is_map is_table least (coverage also u g spelled too real other) = absurd (no_map format map also g c spelled real other is_map)
beside_weights format map text m c t v sum is_map is_table least (classes d u w also too other) =
    let map_is : d ≡ c = one_map format map d c also is_map in
    let table_is : u ≡ t = one_table_text text u t too is_table in
    let here : IsLeastUnknown c.areas t w = subst (λ x. IsLeastUnknown c.areas x w) table_is (subst (λ x. IsLeastUnknown x.areas u w) map_is other) in
    absurd (unknown_not_light_law c.areas t w v sum here least)
beside_weights format map text m c t v sum is_map is_table least (weights d u w total also too other) =
    let map_is : d ≡ c = one_map format map d c also is_map in
    let table_is : u ≡ t = one_table_text text u t too is_table in
    light_line c.areas t v w sum total least (subst (λ x. IsLeastLight c.areas x w total) table_is (subst (λ x. IsLeastLight x.areas u w total) map_is other))

pub one_refusal : (format : Format) (map text l m : List ℕ) → Refuses format map text l → Refuses format map text m → l ≡ m
one_refusal format map text l m (map_text line is) other = beside_map format map text line m is other
one_refusal format map text l m (table_text layer f spelled real first) other = beside_table format map text m layer f spelled first other
one_refusal format map text l m (coverage layer t f spelled is_table real fault) other = beside_cover format map text m layer t f spelled is_table real fault other
one_refusal format map text l m (classes c t v is_map is_table least) other = beside_classes format map text m c t v is_map is_table least other
one_refusal format map text l m (weights c t v sum is_map is_table least) other = beside_weights format map text m c t v sum is_map is_table least other

-- ---- texts that are accepted

pub loaded_not_refused : (format : Format) (map text line : List ℕ) (c : Checked) (t : Table) (p : Problem) → Loads format map text c t p → ¬ Refuses format map text line
loaded_not_refused format map text line c t p l = λ refused. clash line refused
  where
    clash : (line : List ℕ) → Refuses format map text line → ⊥
    clash line (map_text other is) = map_no_line format map other l.is_map.layer l.is_map.spelled is
    clash line (table_text layer f spelled real first) = table_no_fault text t f l.is_table first
    clash line (coverage layer u f spelled is_table real fault) = no_map format map layer f c spelled real fault l.is_map
    clash line (classes d u v is_map is_table least) =
        let map_is : d ≡ c = one_map format map d c is_map l.is_map in
        let table_is : u ≡ t = one_table_text text u t is_table l.is_table in
        let here : IsLeastUnknown c.areas t v = subst (λ x. IsLeastUnknown c.areas x v) table_is (subst (λ x. IsLeastUnknown x.areas u v) map_is least) in
        unknown_law c.areas t v p here l.is_problem
    clash line (weights d u v sum is_map is_table least) =
        let map_is : d ≡ c = one_map format map d c is_map l.is_map in
        let table_is : u ≡ t = one_table_text text u t is_table l.is_table in
        let here : IsLeastLight c.areas t v sum = subst (λ x. IsLeastLight c.areas x v sum) table_is (subst (λ x. IsLeastLight x.areas u v sum) map_is least) in
        light_law c.areas t v sum p here l.is_problem
