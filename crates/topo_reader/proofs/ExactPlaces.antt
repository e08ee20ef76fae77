-- Geometries break one rule first, or are areas.
use Rattle.std.proofs.Common.{◌≡◌, ◌∙◌, ◌⊎◌, ◌<◌, ◌≤◌, ◌+◌, refl, sym, ap, ap₂, subst, inl, inr, ℕ, nat_lt, List, [], ◌∷◌, ◌++◌, length, map, flat_map, arith}
use Rattle.std.specs.Prelude.{Some, nat_le}
use Rattle.std.specs.List.{AllByRecursion, AllZip}
use Rattle.std.proofs.lemmas.Bool.Decides.{nat_tests}
use Rattle.std.proofs.lemmas.List.{length-map}
use Rattle.json_text.proofs.Cases.{by_cases_of}
use Rattle.json_text.specs.Tree.{Json, Number, array}
use Rattle.map_values.specs.Classes.{HasClass}
use Rattle.map_values.specs.Measured.{IsMeasured, HaveManySteps}
use Rattle.map_values.proofs.ClassDecided.{has_class_or}
use Rattle.map_values.proofs.Decided.{all_or, partners_or}
use Rattle.map_values.proofs.Unique.{zip_one, one_class_text}
use Rattle.plane_edge.specs.Rings.{Area, ends_of, steps_of_ring}
use Rattle.plane_edge.specs.declared.frame.Limit.TheVariants.{Areas, Edges}
use Rattle.plane_edge.specs.declared.point.Point.{Point}
use Rattle.topo_reader.specs.PlaceFaults.{ring_tree, polygon_tree, HasRings, of_polygon, of_polygons, IsIndex, AreIndexes, AreClosed, BreaksPlace, IsAreaBehind}
use Rattle.topo_reader.specs.Rings.{SpellsPath, SpellsRing, SpellsPolygon, SpellsRings, polygon, polygons}
use Rattle.topo_reader.specs.Rules.{Unless, UnlessSome}
use Rattle.topo_reader.specs.declared.fault.TopoFault.{TopoFault}
use Rattle.topo_reader.specs.declared.fault.TopoFault.TheVariants.{NotPolygonal, NoClass, BadIndex, OpenRing, Limit}
use Rattle.topo_reader.proofs.Closed.{index_or, ring_closed_or, zip_mapped, parts_of_ring, TellsPath}
use Rattle.topo_reader.proofs.Edges.{rings_edges}
use Rattle.topo_reader.proofs.Exact.{Exact, IsOne, decision, exact_as, exact_some, exact_unless}
use Rattle.topo_reader.proofs.Forms.{rings_or, same_rings}
use Rattle.topo_reader.proofs.OneLayer.{one_ring}

-- ---- rings of polygons

-- what stands for all rings together stands for those of each polygon
pub split_zip : {X Y : Type 0} (R : X → Y → Type 0) (xs zs : List X) (ys : List Y) → AllZip R (xs ++ zs) ys → (cs bs : List Y) × AllZip R xs cs × AllZip R zs bs × (ys ≡ cs ++ bs)
split_zip R [] zs ys s = ([], ys, tt, s, refl)
split_zip R (x ∷ xs) zs [] s = absurd s
split_zip {X} {Y} R (x ∷ xs) zs (y ∷ ys) s = let more = split_zip R xs zs ys s.1 in (y ∷ more.0, more.1, (s.0, more.2), more.3, ap (λ (t : List Y). y ∷ t) more.4)

pub join_zip : {X Y : Type 0} (R : X → Y → Type 0) (xs zs : List X) (cs bs : List Y) → AllZip R xs cs → AllZip R zs bs → AllZip R (xs ++ zs) (cs ++ bs)
join_zip R [] zs [] bs s t = t
join_zip R [] zs (a ∷ cs) bs s t = absurd s
join_zip R (x ∷ xs) zs [] bs s t = absurd s
join_zip R (x ∷ xs) zs (a ∷ cs) bs s t = (s.0, join_zip R xs zs cs bs s.1 t)

abbrev Rings : Type 0
Rings = List (List (List ℕ))

polygon_of : (arcs : List (List Point)) (rings : Rings) (points : List (List Point)) → AreClosed arcs rings points → SpellsPolygon arcs (polygon_tree rings) points
polygon_of arcs rings points s = record { parts = map ring_tree rings; list = refl; each = zip_mapped (SpellsRing arcs) ring_tree rings points s }

polygons_of : (arcs : List (List Point)) (each : List Rings) (points : List (List Point)) → AreClosed arcs (flat_map (λ rings. rings) each) points
    → (lists : List (List (List Point))) × AllZip (SpellsPolygon arcs) (map polygon_tree each) lists × (points ≡ flat_map (λ rings. rings) lists)
polygons_of arcs [] [] s = ([], tt, refl)
polygons_of arcs [] (p ∷ ps) s = absurd s
polygons_of arcs (rings ∷ each) points s =
    let parts = split_zip (λ texts ring. SpellsRing arcs (ring_tree texts) ring) rings (flat_map (λ rings. rings) each) points s in
    let more = polygons_of arcs each parts.1 parts.3 in
    (parts.0 ∷ more.0, (polygon_of arcs rings parts.0 parts.2, more.1), parts.4 ∙ ap (λ (rest : List (List Point)). parts.0 ++ rest) more.2)

pub rings_spelled : (arcs : List (List Point)) (tree : Json) (rings : Rings) (points : List (List Point)) → HasRings tree rings → AreClosed arcs rings points → SpellsRings arcs tree points
rings_spelled arcs tree rings points (of_polygon type is) closed = polygon (polygon_tree rings) type is (polygon_of arcs rings points closed)
rings_spelled arcs tree rings points (of_polygons each type is joined) closed =
    let parts = polygons_of arcs each points (subst (λ (rings : Rings). AreClosed arcs rings points) joined closed) in
    polygons (map polygon_tree each) parts.0 type is parts.1 parts.2

-- ---- and back

texts_from : (arcs : List (List Point)) (trees : List Json) (paths : List (List Point)) → AllZip (SpellsPath arcs) trees paths → (texts : List (List ℕ)) × (trees ≡ map Number texts)
texts_from arcs [] [] s = ([], refl)
texts_from arcs [] (p ∷ ps) s = absurd s
texts_from arcs (t ∷ ts) [] s = absurd s
texts_from arcs (t ∷ ts) (p ∷ ps) s = let more = texts_from arcs ts ps s.1 in (s.0.number ∷ more.0, ap₂ (λ (a : Json) (b : List Json). a ∷ b) s.0.is more.1)

ring_from : (arcs : List (List Point)) (tree : Json) (ring : List Point) → SpellsRing arcs tree ring → (texts : List (List ℕ)) × (tree ≡ ring_tree texts)
ring_from arcs tree ring s = let texts = texts_from arcs s.indexes s.paths s.told in (texts.0, s.list ∙ ap array texts.1)

rings_from : (arcs : List (List Point)) (trees : List Json) (points : List (List Point)) → AllZip (SpellsRing arcs) trees points → (rings : Rings) × (trees ≡ map ring_tree rings) × AreClosed arcs rings points
rings_from arcs [] [] s = ([], refl, tt)
rings_from arcs [] (p ∷ ps) s = absurd s
rings_from arcs (t ∷ ts) [] s = absurd s
rings_from arcs (t ∷ ts) (p ∷ ps) s =
    let first = ring_from arcs t p s.0 in
    let more = rings_from arcs ts ps s.1 in
    (first.0 ∷ more.0, ap₂ (λ (a : Json) (b : List Json). a ∷ b) first.1 more.1, (subst (λ (tree : Json). SpellsRing arcs tree p) first.1 s.0, more.2))

polygon_from : (arcs : List (List Point)) (tree : Json) (points : List (List Point)) → SpellsPolygon arcs tree points → (rings : Rings) × (tree ≡ polygon_tree rings) × AreClosed arcs rings points
polygon_from arcs tree points s = let rings = rings_from arcs s.parts points s.each in (rings.0, s.list ∙ ap array rings.1, rings.2)

polygons_from : (arcs : List (List Point)) (trees : List Json) (lists : List (List (List Point))) → AllZip (SpellsPolygon arcs) trees lists
    → (each : List Rings) × (trees ≡ map polygon_tree each) × AreClosed arcs (flat_map (λ rings. rings) each) (flat_map (λ rings. rings) lists)
polygons_from arcs [] [] s = ([], refl, tt)
polygons_from arcs [] (p ∷ ps) s = absurd s
polygons_from arcs (t ∷ ts) [] s = absurd s
polygons_from arcs (t ∷ ts) (p ∷ ps) s =
    let first = polygon_from arcs t p s.0 in
    let more = polygons_from arcs ts ps s.1 in (
      first.0 ∷ more.0,
      ap₂ (λ (a : Json) (b : List Json). a ∷ b) first.1 more.1,
      join_zip (λ texts ring. SpellsRing arcs (ring_tree texts) ring) first.0 (flat_map (λ rings. rings) more.0) p (flat_map (λ rings. rings) ps) first.2 more.2,
    )

pub spelled_rings : (arcs : List (List Point)) (tree : Json) (points : List (List Point)) → SpellsRings arcs tree points → (rings : Rings) × HasRings tree rings × AreClosed arcs rings points
spelled_rings arcs tree points (polygon part type is each) =
    let rings = polygon_from arcs part points each in (rings.0, of_polygon type (is ∙ ap (λ (t : Json). Some t) rings.1), rings.2)
spelled_rings arcs tree points (polygons parts lists type is each joined) =
    let rings = polygons_from arcs parts lists each in (
      flat_map (λ rings. rings) rings.0,
      of_polygons rings.0 type (is ∙ ap (λ (ts : List Json). Some (array ts)) rings.1) refl,
      subst (λ (points : List (List Point)). AreClosed arcs (flat_map (λ rings. rings) rings.0) points) (sym joined) rings.2,
    )

-- ---- indexes

told_indexes : (arcs : List (List Point)) (texts : List (List ℕ)) (paths : List (List Point)) → AllZip (TellsPath arcs) texts paths → AllByRecursion (IsIndex arcs) texts
told_indexes arcs [] paths s = tt
told_indexes arcs (t ∷ ts) [] s = absurd s
told_indexes arcs (t ∷ ts) (p ∷ ps) s = ((p, s.0), told_indexes arcs ts ps s.1)

pub closed_indexes : (arcs : List (List Point)) (rings : Rings) (points : List (List Point)) → AreClosed arcs rings points → AreIndexes arcs rings
closed_indexes arcs [] points s = tt
closed_indexes arcs (t ∷ ts) [] s = absurd s
closed_indexes arcs (t ∷ ts) (p ∷ ps) s = let parts = parts_of_ring arcs t p s.0 in (told_indexes arcs t parts.paths parts.told, closed_indexes arcs ts ps s.1)

one_closed : (arcs : List (List Point)) (rings : Rings) → IsOne (List (List Point)) (AreClosed arcs rings)
one_closed arcs rings a b s t = zip_one (λ texts ring. SpellsRing arcs (ring_tree texts) ring) (λ texts. one_ring arcs (ring_tree texts)) rings a b s t

-- ---- one geometry

abbrev HasMany : List (List Point) → ℕ → TopoFault → Type 0
HasMany points steps fault = (fault ≡ Limit Edges) × HaveManySteps points steps

measured_or : (class : List ℕ) (points : List (List Point)) (steps : ℕ) → ((area : Area) × IsMeasured class points steps area) ⊎ ((f : TopoFault) × HasMany points steps f)
measured_or class points steps =
    let edges = rings_edges points in
    let count : length edges.edges ≡ length (flat_map steps_of_ring points) = sym (length-map edges.edges ends_of) ∙ ap length edges.are in
    by_cases_of (nat_le (steps + length (flat_map steps_of_ring points)) 2097152) _
    (λ e. inl (record { class = class; steps = edges.edges }, record { class_is = refl; steps_are = edges.are; few = (let low : steps + length (flat_map steps_of_ring points) ≤ 2097152 = grind (arith, nat_tests) in omega arith) }))
    (λ e. inr (Limit Edges, (refl, (let high : 2097152 < steps + length (flat_map steps_of_ring points) = grind (arith, nat_tests) in high))))

not_many : (class : List ℕ) (points : List (List Point)) (steps : ℕ) (area : Area) (f : TopoFault) → IsMeasured class points steps area → HasMany points steps f → ⊥
not_many class points steps area f m many =
    let count : length area.steps ≡ length (flat_map steps_of_ring points) = sym (length-map area.steps ends_of) ∙ ap length m.steps_are in
    let few = m.few in
    let more = many.1 in
    omega arith

exact_measured : (class : List ℕ) (points : List (List Point)) (steps : ℕ) → Exact Area (IsMeasured class points steps) (HasMany points steps)
exact_measured class points steps = record {
  some = measured_or class points steps;
  apart = λ area f good bad. not_many class points steps area f good bad;
  one = λ f g a b. a.0 ∙ sym b.0;
}

-- what an area is behind each rule
abbrev BehindRings : List (List Point) → List ℕ → ℕ → Rings → Area → Type 0
BehindRings arcs class steps rings area = AreIndexes arcs rings × ((points : List (List Point)) × AreClosed arcs rings points × IsMeasured class points steps area)

abbrev BehindClass : List (List Point) → List ℕ → ℕ → Json → Rings → Area → Type 0
BehindClass arcs name steps tree rings area = (class : List ℕ) × HasClass tree name class × BehindRings arcs class steps rings area

abbrev BehindAll : List (List Point) → List ℕ → ℕ → ℕ → Json → Area → Type 0
BehindAll arcs name count steps tree area = (rings : Rings) × HasRings tree rings × ((count < 65536) × BehindClass arcs name steps tree rings area)

abbrev FailsClosing : List (List Point) → ℕ → ℕ → Rings → TopoFault → Type 0
FailsClosing arcs at steps rings = UnlessSome (AreClosed arcs rings) (OpenRing at) (λ points. HasMany points steps)

abbrev FailsIndexes : List (List Point) → ℕ → ℕ → Rings → TopoFault → Type 0
FailsIndexes arcs at steps rings = Unless (AreIndexes arcs rings) (BadIndex at) (FailsClosing arcs at steps rings)

abbrev FailsClass : List (List Point) → List ℕ → ℕ → ℕ → Json → Rings → TopoFault → Type 0
FailsClass arcs name at steps tree rings = UnlessSome (HasClass tree name) (NoClass at) (λ class. FailsIndexes arcs at steps rings)

exact_rings : (arcs : List (List Point)) (class : List ℕ) (at steps : ℕ) (rings : Rings) → Exact Area (BehindRings arcs class steps rings) (FailsIndexes arcs at steps rings)
exact_rings arcs class at steps rings =
    exact_unless (AreIndexes arcs rings) (BadIndex at) Area (λ area. (points : List (List Point)) × AreClosed arcs rings points × IsMeasured class points steps area) (FailsClosing arcs at steps rings)
    (all_or (AllByRecursion (IsIndex arcs)) (all_or (IsIndex arcs) (index_or arcs)) rings)
    (λ indexes. exact_some (List (List Point)) (AreClosed arcs rings) (OpenRing at) Area (λ points area. IsMeasured class points steps area) (λ points. HasMany points steps)
    (decision (List (List Point)) (AreClosed arcs rings) (partners_or (λ texts ring. SpellsRing arcs (ring_tree texts) ring) (ring_closed_or arcs) rings)) (one_closed arcs rings)
    (λ points closed. exact_measured class points steps))

exact_class : (arcs : List (List Point)) (name : List ℕ) (at steps : ℕ) (tree : Json) (rings : Rings) → Exact Area (BehindClass arcs name steps tree rings) (FailsClass arcs name at steps tree rings)
exact_class arcs name at steps tree rings =
    exact_some (List ℕ) (HasClass tree name) (NoClass at) Area (λ class area. BehindRings arcs class steps rings area) (λ class. FailsIndexes arcs at steps rings)
    (decision (List ℕ) (HasClass tree name) (has_class_or tree name)) (one_class_text tree name) (λ class is. exact_rings arcs class at steps rings)

room_or : (count : ℕ) → (count < 65536) ⊎ ¬ (count < 65536)
room_or count = by_cases_of (nat_lt count 65536) _ (λ e. inl (grind (arith, nat_tests))) (λ e. inr (λ h. (let more : 65536 ≤ count = grind (arith, nat_tests) in omega arith)))

exact_all : (arcs : List (List Point)) (name : List ℕ) (at count steps : ℕ) (tree : Json) → Exact Area (BehindAll arcs name count steps tree) (BreaksPlace arcs name at count steps tree)
exact_all arcs name at count steps tree =
    exact_some Rings (HasRings tree) (NotPolygonal at) Area (λ rings area. (count < 65536) × BehindClass arcs name steps tree rings area)
    (λ rings. Unless (count < 65536) (Limit Areas) (FailsClass arcs name at steps tree rings)) (decision Rings (HasRings tree) (rings_or tree)) (same_rings tree)
    (λ rings is. exact_unless (count < 65536) (Limit Areas) Area (BehindClass arcs name steps tree rings) (FailsClass arcs name at steps tree rings) (room_or count)
    (λ room. exact_class arcs name at steps tree rings))

pub area_behind : (arcs : List (List Point)) (name : List ℕ) (count steps : ℕ) (tree : Json) (area : Area) → BehindAll arcs name count steps tree area → IsAreaBehind arcs name count steps tree area
area_behind arcs name count steps tree area s =
    let class = s.2.1 in
    let closed = class.2.1 in
    record {
      spelled = record {
        rings = closed.0;
        class_is = subst (λ (text : List ℕ). HasClass tree name text) (sym closed.2.class_is) class.1;
        rings_are = rings_spelled arcs tree s.0 closed.0 s.1 closed.1;
        steps_are = closed.2.steps_are;
      };
      room = s.2.0;
      few = closed.2.few;
    }

behind_area : (arcs : List (List Point)) (name : List ℕ) (count steps : ℕ) (tree : Json) (area : Area) → IsAreaBehind arcs name count steps tree area → BehindAll arcs name count steps tree area
behind_area arcs name count steps tree area s =
    let rings = spelled_rings arcs tree s.spelled.rings s.spelled.rings_are in
    (rings.0, rings.1, (s.room, (area.class, s.spelled.class_is, (closed_indexes arcs rings.0 s.spelled.rings rings.2, (s.spelled.rings, rings.2, record { class_is = refl; steps_are = s.spelled.steps_are; few = s.few })))))

pub exact_place : (arcs : List (List Point)) (name : List ℕ) (at count steps : ℕ) (tree : Json) → Exact Area (IsAreaBehind arcs name count steps tree) (BreaksPlace arcs name at count steps tree)
exact_place arcs name at count steps tree =
    exact_as Area (BehindAll arcs name count steps tree) (IsAreaBehind arcs name count steps tree) (BreaksPlace arcs name at count steps tree)
    (area_behind arcs name count steps tree) (behind_area arcs name count steps tree) (exact_all arcs name at count steps tree)
