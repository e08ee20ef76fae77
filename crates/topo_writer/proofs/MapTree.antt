-- The value that the text of a drawn map spells.
use Rattle.std.proofs.Common.{◌≡◌, ℕ, ◌+◌, Bool, List, [], ◌∷◌, ◌++◌, map, flat_map, ℤ, refl, ap, ap₂, ◌∙◌, append_assoc, append-nil}
use Rattle.std.specs.Prelude.{codes}
use Rattle.std.specs.Fmt.{decimal, signed_decimal}
use Rattle.json_text.specs.Strings.{escape}
use Rattle.json_text.specs.Tree.{Json, Number, Str, Items, items_of, Array, array, object}
use Rattle.json_text.proofs.CompactText.{compact, compact_items, compact_more_items}
use Rattle.plane_edge.specs.declared.frame.Frame.{Frame}
use Rattle.plane_edge.specs.declared.frame.Frame.TheVariants.{Plain, Scaled}
use Rattle.plane_edge.specs.declared.point.Point.{Point}
use Rattle.topo_reader.specs.Arcs.{is_relative}
use Rattle.arc_dissolve.specs.Shapes.{Shape, Regions}
use Rattle.topo_writer.specs.MapText.{commas, ring_text, polygon_text, geometry_text, more_geometries, geometries_text, positions_of, position_text, arc_text, transform_text, map_text}

abbrev pub number : ℤ → Json
number n = Number (signed_decimal n)

abbrev pub position_tree : ℤ × ℤ → Json
position_tree position = array (number position.0 ∷ number position.1 ∷ [])

abbrev pub arc_tree : Bool → List Point → Json
arc_tree relative arc = array (map position_tree (positions_of relative arc))

abbrev pub ring_tree : List ℤ → Json
ring_tree indexes = array (map number indexes)

abbrev pub polygon_tree : List (List ℤ) → Json
polygon_tree rings = array (map ring_tree rings)

abbrev pub geometry_of : List ℕ → List ℕ → Json → Json
geometry_of region class polygons =
    object (
    (codes "type", Str (codes "MultiPolygon"))
    ∷ (codes "id", Number region)
    ∷ (codes "properties", object ((codes "class", Str class) ∷ []))
    ∷ (codes "arcs", polygons)
    ∷ []
    )

abbrev pub geometry_tree : ℕ → Shape → Json
geometry_tree region shape = geometry_of (decimal region) shape.class (array (map polygon_tree shape.polygons))

-- the regions, the first of which has that number
abbrev pub geometry_trees : ℕ → List Shape → List Json
geometry_trees region [] = []
geometry_trees region (shape ∷ shapes) = geometry_tree region shape ∷ geometry_trees (region + 1) shapes

abbrev pub collection_of : Json → Json
collection_of geometries = object ((codes "type", Str (codes "GeometryCollection")) ∷ (codes "geometries", geometries) ∷ [])

abbrev pub objects_of : Json → Json
objects_of geometries = object ((codes "regions", collection_of geometries) ∷ [])

abbrev pub transform_of : List ℕ → List ℕ → List ℕ → List ℕ → Json
transform_of sx sy tx ty =
    object ((codes "scale", array (Number sx ∷ Number sy ∷ [])) ∷ (codes "translate", array (Number tx ∷ Number ty ∷ [])) ∷ [])

abbrev pub scaled_topology : Json → Json → Json → Json
scaled_topology transform geometries arcs =
    object (
    (codes "type", Str (codes "Topology"))
    ∷ (codes "transform", transform)
    ∷ (codes "objects", objects_of geometries)
    ∷ (codes "arcs", arcs)
    ∷ []
    )

abbrev pub topology_of : Frame → Json → Json → Json
topology_of Plain geometries arcs =
    object ((codes "type", Str (codes "Topology")) ∷ (codes "objects", objects_of geometries) ∷ (codes "arcs", arcs) ∷ [])
topology_of (Scaled sx sy tx ty) geometries arcs = scaled_topology (transform_of sx sy tx ty) geometries arcs

abbrev pub tree_of : Regions → Frame → Json
tree_of regions frame = topology_of frame (array (geometry_trees 0 regions.shapes)) (array (map (arc_tree (is_relative frame)) regions.arcs))

-- ---- its text

more_listed : {X : Type 0} (tree : X → Json) (text : X → List ℕ) → ((x : X) → compact (tree x) ≡ text x) → (xs : List X) → compact_more_items (items_of (map tree xs)) ≡ flat_map (λ x. 44 ∷ text x) xs
more_listed tree text e [] = refl
more_listed tree text e (x ∷ xs) = ap₂ (λ (a b : List ℕ). 44 ∷ (a ++ b)) (e x) (more_listed tree text e xs)

listed : {X : Type 0} (tree : X → Json) (text : X → List ℕ) → ((x : X) → compact (tree x) ≡ text x) → (xs : List X) → compact_items (items_of (map tree xs)) ≡ commas text xs
listed tree text e [] = refl
listed tree text e (x ∷ xs) = ap₂ (λ (a b : List ℕ). a ++ b) (e x) (more_listed tree text e xs)

bracketed_is : (a b : List ℕ) → a ≡ b → 91 ∷ (a ++ 93 ∷ []) ≡ 91 ∷ (b ++ 93 ∷ [])
bracketed_is a b e = ap (λ (t : List ℕ). 91 ∷ (t ++ 93 ∷ [])) e

position_is : (position : ℤ × ℤ) → compact (position_tree position) ≡ position_text position
position_is position = pieces (signed_decimal position.0) (signed_decimal position.1)
  where
    pieces : (x y : List ℕ) → 91 ∷ ((x ++ 44 ∷ (y ++ [])) ++ 93 ∷ []) ≡ 91 ∷ (x ++ 44 ∷ (y ++ 93 ∷ []))
    pieces x y = simp (append_assoc, append-nil)

arc_is : (relative : Bool) (arc : List Point) → compact (arc_tree relative arc) ≡ arc_text relative arc
arc_is relative arc = bracketed_is _ _ (listed position_tree position_text position_is (positions_of relative arc))

ring_is : (indexes : List ℤ) → compact (ring_tree indexes) ≡ ring_text indexes
ring_is indexes = bracketed_is _ _ (listed number signed_decimal (λ n. refl) indexes)

polygon_is : (rings : List (List ℤ)) → compact (polygon_tree rings) ≡ polygon_text rings
polygon_is rings = bracketed_is _ _ (listed ring_tree ring_text ring_is rings)

geometry_pieces : (region class : List ℕ) (items : Items) → compact (geometry_of region class (Array items))
    ≡ codes "{\"type\":\"MultiPolygon\",\"id\":" ++ region ++ codes ",\"properties\":{\"class\":\"" ++ escape class ++ codes "\"},\"arcs\":[" ++ compact_items items ++ codes "]}"
geometry_pieces region class items = simp (append_assoc, append-nil)

geometry_is : (region : ℕ) (shape : Shape) → compact (geometry_tree region shape) ≡ geometry_text region shape
unfolding geometry_text
geometry_is region shape =
    geometry_pieces (decimal region) shape.class (items_of (map polygon_tree shape.polygons))
    ∙ ap (λ (t : List ℕ). codes "{\"type\":\"MultiPolygon\",\"id\":" ++ decimal region ++ codes ",\"properties\":{\"class\":\"" ++ escape shape.class ++ codes "\"},\"arcs\":[" ++ t ++ codes "]}") (listed polygon_tree polygon_text polygon_is shape.polygons)

more_geometries_are : (region : ℕ) (shapes : List Shape) → compact_more_items (items_of (geometry_trees region shapes)) ≡ more_geometries region shapes
more_geometries_are region [] = refl
more_geometries_are region (shape ∷ shapes) = ap₂ (λ (a b : List ℕ). 44 ∷ (a ++ b)) (geometry_is region shape) (more_geometries_are (region + 1) shapes)

geometries_are : (shapes : List Shape) → compact_items (items_of (geometry_trees 0 shapes)) ≡ geometries_text shapes
geometries_are [] = refl
geometries_are (shape ∷ shapes) = ap₂ (λ (a b : List ℕ). a ++ b) (geometry_is 0 shape) (more_geometries_are 1 shapes)

transform_pieces : (sx sy tx ty : List ℕ) → compact (transform_of sx sy tx ty) ≡ codes "{\"scale\":[" ++ (sx ++ 44 ∷ sy) ++ codes "],\"translate\":[" ++ (tx ++ 44 ∷ ty) ++ codes "]}"
transform_pieces sx sy tx ty =
    members (array (Number sx ∷ Number sy ∷ [])) (array (Number tx ∷ Number ty ∷ []))
    ∙ ap₂ (λ (s t : List ℕ). codes "{\"scale\":" ++ s ++ codes ",\"translate\":" ++ t ++ codes "}") (pair_is sx sy) (pair_is tx ty)
    ∙ brackets (codes "{\"scale\":") (sx ++ 44 ∷ sy) (codes ",\"translate\":") (tx ++ 44 ∷ ty) (codes "}")
  where
    members : (s t : Json) → compact (object ((codes "scale", s) ∷ (codes "translate", t) ∷ [])) ≡ codes "{\"scale\":" ++ compact s ++ codes ",\"translate\":" ++ compact t ++ codes "}"
    members s t = simp (append_assoc, append-nil)

    pair_is : (x y : List ℕ) → compact (array (Number x ∷ Number y ∷ [])) ≡ 91 ∷ ((x ++ 44 ∷ y) ++ 93 ∷ [])
    pair_is x y = simp append-nil

    brackets : (a p b q c : List ℕ) → a ++ 91 ∷ (p ++ 93 ∷ []) ++ b ++ 91 ∷ (q ++ 93 ∷ []) ++ c ≡ (a ++ 91 ∷ []) ++ p ++ (93 ∷ b ++ 91 ∷ []) ++ q ++ 93 ∷ c
    brackets a p b q c = simp append_assoc

scaled_pieces : (transform : Json) (geometries arcs : Items) → compact (scaled_topology transform (Array geometries) (Array arcs)) ++ 10 ∷ []
    ≡ codes "{\"type\":\"Topology\",\"transform\":" ++ compact transform ++ codes ",\"objects\":{\"regions\":{\"type\":\"GeometryCollection\",\"geometries\":[" ++ compact_items geometries ++ codes "]}},\"arcs\":[" ++ compact_items arcs ++ codes "]}\n"
scaled_pieces transform geometries arcs = simp (append_assoc, append-nil)

regroup : (a b t c d g e x f : List ℕ) → (a ++ b) ++ t ++ (c ++ d) ++ g ++ e ++ x ++ f ≡ a ++ (b ++ t ++ c) ++ d ++ g ++ e ++ x ++ f
regroup a b t c d g e x f = simp append_assoc

regroup_numbers : (b q p r s u c : List ℕ) → b ++ (q ++ p ++ r ++ s ++ u) ++ c ≡ (b ++ q) ++ p ++ r ++ s ++ (u ++ c)
regroup_numbers b q p r s u c = simp append_assoc

transform_text_is : (sx sy tx ty : List ℕ) → codes "\"transform\":" ++ compact (transform_of sx sy tx ty) ++ codes "," ≡ transform_text (Scaled sx sy tx ty)
unfolding transform_text
transform_text_is sx sy tx ty =
    ap (λ (t : List ℕ). codes "\"transform\":" ++ t ++ codes ",") (transform_pieces sx sy tx ty)
    ∙ regroup_numbers (codes "\"transform\":") (codes "{\"scale\":[") (sx ++ 44 ∷ sy) (codes "],\"translate\":[") (tx ++ 44 ∷ ty) (codes "]}") (codes ",")

plain_pieces : (geometries arcs : Items) → compact (topology_of Plain (Array geometries) (Array arcs)) ++ 10 ∷ []
    ≡ codes "{\"type\":\"Topology\"," ++ [] ++ codes "\"objects\":{\"regions\":{\"type\":\"GeometryCollection\",\"geometries\":[" ++ compact_items geometries ++ codes "]}},\"arcs\":[" ++ compact_items arcs ++ codes "]}\n"
plain_pieces geometries arcs = simp (append_assoc, append-nil)

topology_pieces : (frame : Frame) (geometries arcs : Items) → compact (topology_of frame (Array geometries) (Array arcs)) ++ 10 ∷ []
    ≡ codes "{\"type\":\"Topology\"," ++ transform_text frame ++ codes "\"objects\":{\"regions\":{\"type\":\"GeometryCollection\",\"geometries\":[" ++ compact_items geometries ++ codes "]}},\"arcs\":[" ++ compact_items arcs ++ codes "]}\n"
unfolding transform_text
topology_pieces Plain geometries arcs = plain_pieces geometries arcs
topology_pieces (Scaled sx sy tx ty) geometries arcs =
    let g = compact_items geometries in
    let a = compact_items arcs in
    scaled_pieces (transform_of sx sy tx ty) geometries arcs
    ∙ regroup (codes "{\"type\":\"Topology\",") (codes "\"transform\":") (compact (transform_of sx sy tx ty)) (codes ",") (codes "\"objects\":{\"regions\":{\"type\":\"GeometryCollection\",\"geometries\":[") g (codes "]}},\"arcs\":[") a (codes "]}\n")
    ∙ ap (λ (t : List ℕ). codes "{\"type\":\"Topology\"," ++ t ++ codes "\"objects\":{\"regions\":{\"type\":\"GeometryCollection\",\"geometries\":[" ++ g ++ codes "]}},\"arcs\":[" ++ a ++ codes "]}\n") (transform_text_is sx sy tx ty)

pub text_is : (regions : Regions) (frame : Frame) → compact (tree_of regions frame) ++ 10 ∷ [] ≡ map_text regions frame
unfolding map_text
text_is regions frame =
    topology_pieces frame (items_of (geometry_trees 0 regions.shapes)) (items_of (map (arc_tree (is_relative frame)) regions.arcs))
    ∙ ap₂ (λ (g a : List ℕ). codes "{\"type\":\"Topology\"," ++ transform_text frame ++ codes "\"objects\":{\"regions\":{\"type\":\"GeometryCollection\",\"geometries\":[" ++ g ++ codes "]}},\"arcs\":[" ++ a ++ codes "]}\n")
    (geometries_are regions.shapes) (listed (arc_tree (is_relative frame)) (arc_text (is_relative frame)) (arc_is (is_relative frame)) regions.arcs)
