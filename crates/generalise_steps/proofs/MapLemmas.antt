-- A text spells one map at most in a format, or is refused by one line at most.
use Rattle.std.proofs.Common.{◌≡◌, ℕ, List, codes, sym, ◌∙◌, ap, subst}
use Rattle.plane_edge.specs.Rings.{Area}
use Rattle.plane_edge.specs.declared.frame.Frame.{Frame}
use Rattle.json_text.specs.Tree.{Json}
use Rattle.json_text.specs.Faults.{IsTextOf}
use Rattle.json_text.proofs.Characters.{characters}
use Rattle.json_text.proofs.LawLemmas.{one_tree_text, one_first_fault, tree_no_fault}
use Rattle.map_values.specs.Layers.{Layer}
use Rattle.grid_reader.proofs.LawLemmas.{one_grid_text, grid_no_fault}
use Rattle.grid_reader.proofs.LawLemmas as grid_laws
use Rattle.topo_reader.specs.Topology.{SpellsTopology}
use Rattle.topo_reader.specs.Faults as topologies
use Rattle.topo_reader.proofs.OneLayer as one_topology
use Rattle.topo_reader.proofs.Faulty as topology_laws
use Rattle.geo_reader.specs.Collections.{SpellsFeatures}
use Rattle.geo_reader.specs.Faults as features
use Rattle.geo_reader.proofs.LawLemmas as features_laws
use Rattle.generalise_steps.specs.FaultLines.{grid_line, json_line, topology_line, features_line}
use Rattle.generalise_steps.specs.MapTexts.{SpellsByValue, SpellsByGrid, SpellsMap, RefusesValue, RefusesGrid, RefusesMap, OneMap, OneLine, MapWithoutLine}
use Rattle.generalise_steps.specs.MapTexts.{no_value, no_map}
use Rattle.generalise_steps.specs.declared.map_format.Format.{Format}
use Rattle.generalise_steps.specs.declared.map_format.Format.TheVariants.{Grid, TopoJson, GeoJson}

-- ---- by values of JSON

-- one value of one text
one_value : (bytes : List ℕ) (t u : Json) → IsTextOf bytes t → IsTextOf bytes u → t ≡ u
one_value bytes t u h k = one_tree_text characters bytes t u h.spelled k.spelled

one_by_value : (Spells : Json → Layer → Type 0) → ((tree : Json) (l m : Layer) → Spells tree l → Spells tree m → l ≡ m)
    → (bytes : List ℕ) (l m : Layer) → SpellsByValue Spells bytes l → SpellsByValue Spells bytes m → l ≡ m
one_by_value Spells one bytes l m h k = one h.tree l m h.spelled (subst (λ t. Spells t m) (one_value bytes k.tree h.tree k.text h.text) k.spelled)

pub one_line_by_value : {F : Type 0} (place : List ℕ) (IsFault : Json → F → Type 0) (line_of : F → List ℕ) → ((tree : Json) (f g : F) → IsFault tree f → IsFault tree g → f ≡ g)
    → (bytes l m : List ℕ) → RefusesValue place IsFault line_of bytes l → RefusesValue place IsFault line_of bytes m → l ≡ m
one_line_by_value place IsFault line_of one bytes l m (no_value f h e) (no_value g k d) = e ∙ ap (json_line place) (one_first_fault bytes f g h k) ∙ sym d
one_line_by_value place IsFault line_of one bytes l m (no_value f h e) (no_map tree g t k d) = absurd (tree_no_fault bytes tree f t h)
one_line_by_value place IsFault line_of one bytes l m (no_map tree f t h e) (no_value g k d) = absurd (tree_no_fault bytes tree g t k)
one_line_by_value place IsFault line_of one bytes l m (no_map tree f t h e) (no_map other g u k d) =
    e ∙ ap line_of (one tree f g h (subst (λ x. IsFault x g) (one_value bytes other tree u t) k)) ∙ sym d

pub value_clash : {F : Type 0} (place : List ℕ) (Spells : Json → Layer → Type 0) (IsFault : Json → F → Type 0) (line_of : F → List ℕ)
    → ((tree : Json) (l : Layer) (f : F) → Spells tree l → ¬ IsFault tree f)
    → (bytes line : List ℕ) (l : Layer) → SpellsByValue Spells bytes l → RefusesValue place IsFault line_of bytes line → ⊥
value_clash place Spells IsFault line_of none bytes line l h (no_value f first e) = tree_no_fault bytes h.tree f h.text first
value_clash place Spells IsFault line_of none bytes line l h (no_map tree f t is e) =
    none h.tree l f h.spelled (subst (λ x. IsFault x f) (one_value bytes tree h.tree t h.text) is)

-- ---- by grids

same_layer : (l m : Layer) → l.areas ≡ m.areas → l.passed ≡ m.passed → l.frame ≡ m.frame → l ≡ m
same_layer l m a p f =
    ap (λ (x : List Area). record { areas = x; passed = l.passed; frame = l.frame }) a
    ∙ ap (λ (x : ℕ). record { areas = m.areas; passed = x; frame = l.frame }) p
    ∙ ap (λ (x : Frame). record { areas = m.areas; passed = m.passed; frame = x }) f

one_by_grid : (bytes : List ℕ) (l m : Layer) → SpellsByGrid bytes l → SpellsByGrid bytes m → l ≡ m
one_by_grid bytes l m h k =
    let one = one_grid_text bytes l.areas m.areas l.frame m.frame h.spelled k.spelled in
    same_layer l m one.0 (h.none_passed ∙ sym k.none_passed) one.1

one_line_by_grid : (bytes l m : List ℕ) → RefusesGrid bytes l → RefusesGrid bytes m → l ≡ m
one_line_by_grid bytes l m h k = h.line_is ∙ ap grid_line (grid_laws.one_first_fault bytes h.fault k.fault h.first k.first) ∙ sym k.line_is

grid_clash : (bytes line : List ℕ) (l : Layer) → SpellsByGrid bytes l → RefusesGrid bytes line → ⊥
grid_clash bytes line l h k = grid_no_fault bytes l.areas l.frame k.fault h.spelled k.first

-- ---- by each format

pub one_map_text : OneMap
one_map_text Grid bytes l m h k = one_by_grid bytes l m h k
one_map_text (TopoJson pick) bytes l m h k =
    one_by_value (λ tree x. SpellsTopology tree pick.class pick.object x) (λ tree x y. one_topology.one_layer tree pick.class pick.object x y) bytes l m h k
one_map_text (GeoJson class) bytes l m h k =
    one_by_value (λ tree x. SpellsFeatures tree class x) (λ tree x y. features_laws.one_layer tree class x y) bytes l m h k

pub one_map_line : OneLine
one_map_line Grid bytes l m h k = one_line_by_grid bytes l m h k
one_map_line (TopoJson pick) bytes l m h k =
    one_line_by_value (codes "map") (λ tree f. topologies.IsFirstFault tree pick.class pick.object f) (topology_line (codes "map")) (λ tree f g. topology_laws.one_fault tree pick.class pick.object f g) bytes l m h k
one_map_line (GeoJson class) bytes l m h k =
    one_line_by_value (codes "map") (λ tree f. features.IsFirstFault tree class f) features_line (λ tree f g. features_laws.one_fault tree class f g) bytes l m h k

pub map_no_line : MapWithoutLine
map_no_line Grid bytes line l h = λ k. grid_clash bytes line l h k
map_no_line (TopoJson pick) bytes line l h = λ k.
    value_clash (codes "map") (λ tree x. SpellsTopology tree pick.class pick.object x) (λ tree f. topologies.IsFirstFault tree pick.class pick.object f) (topology_line (codes "map"))
    (λ tree x f. topology_laws.layer_without_fault tree pick.class pick.object x f) bytes line l h k
map_no_line (GeoJson class) bytes line l h = λ k.
    value_clash (codes "map") (λ tree x. SpellsFeatures tree class x) (λ tree f. features.IsFirstFault tree class f) features_line
    (λ tree x f. features_laws.layer_without_fault tree class x f) bytes line l h k
