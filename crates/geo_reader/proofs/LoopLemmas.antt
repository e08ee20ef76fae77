-- Loops over trees: what the first so many of them say.
use Rattle.std.proofs.Common.{◌≡◌, ◌∙◌, refl, sym, ap, subst, ℕ, ◌+◌, ◌<◌, ◌≤◌, List, [], ◌∷◌, ◌++◌, length, flat_map, take, get_or, All, Bor, append-nil}
use Rattle.std.specs.Prelude.{Vec}
use Rattle.std.specs.declared.alloc.Global.{Global}
use Rattle.std.specs.List.{AllByRecursion, AllZip}
use Rattle.std.proofs.lemmas.Grind.{flat_map-append}
use Rattle.std.proofs.lemmas.List.{take_more, take_all, map-append, append_assoc}
use Rattle.std.proofs.lemmas.List.Elements.{recursion_from_All, All-from_recursion, All-get_or}
use Rattle.agg_base.specs.Lists.{lists_of}
use Rattle.json_text.specs.Tree.{Json, array}
use Rattle.json_text.specs.Values.{json_of, list_of}
use Rattle.json_text.specs.declared.tree.Tree.{Tree}
use Rattle.plane_edge.specs.declared.point.Point.{Point}
use Rattle.map_values.proofs.Values.{one_array}
use Rattle.geo_reader.specs.Features.{HasPositions, HasPolygon}
use Rattle.geo_reader.specs.Areas.{SpellsPoint, SpellPoints, SpellRings, IsClosed}
use Rattle.geo_reader.specs.Held.{rings_in, AppendsRings, HavePolygons, HasAppended, HasFlattened}
use Rattle.geo_reader.specs.Rules.{IsWhole, AreWhole, IsNear, AreNear}
use Rattle.geo_reader.proofs.Parts.{zip_join}

-- ---- all of a list

trees_of : (P : Json → Type 0) (trees : List Tree) → AllByRecursion (λ tree. P (json_of tree)) trees → AllByRecursion P (list_of trees)
trees_of P [] s = tt
trees_of P (tree ∷ trees) s = (s.0, trees_of P trees s.1)

of_trees : (P : Json → Type 0) (trees : List Tree) → AllByRecursion P (list_of trees) → AllByRecursion (λ tree. P (json_of tree)) trees
of_trees P [] s = tt
of_trees P (tree ∷ trees) s = (s.0, of_trees P trees s.1)

-- what holds of all trees holds of the values that they stand for
pub all_values : (P : Json → Type 0) (trees : List Tree) → All (λ tree. P (json_of tree)) trees → AllByRecursion P (list_of trees)
all_values P trees all = trees_of P trees (recursion_from_All (λ tree. P (json_of tree)) trees all)

pub all_trees : (P : Json → Type 0) (trees : List Tree) → AllByRecursion P (list_of trees) → All (λ tree. P (json_of tree)) trees
all_trees P trees all = All-from_recursion (λ tree. P (json_of tree)) trees (of_trees P trees all)

held_rings : (P : Json → Type 0) (rings : List (Bor (List Tree))) → AllByRecursion (AllByRecursion P) (rings_in rings) → AllByRecursion (λ ring. All (λ tree. P (json_of tree)) ring.now) rings
held_rings P [] s = tt
held_rings P (ring ∷ rings) s = (all_trees P ring.now s.0, held_rings P rings s.1)

whole_held : (rings : List (Bor (List Tree))) → AllByRecursion (λ ring. AllByRecursion IsWhole (list_of ring.now)) rings → AreWhole (rings_in rings)
whole_held [] s = tt
whole_held (ring ∷ rings) s = (s.0, whole_held rings s.1)

held_whole : (rings : List (Bor (List Tree))) → AreWhole (rings_in rings) → AllByRecursion (λ ring. AllByRecursion IsWhole (list_of ring.now)) rings
held_whole [] s = tt
held_whole (ring ∷ rings) s = (s.0, held_whole rings s.1)

pub all_rings : (rings : List (Bor (List Tree))) → All (λ ring. AllByRecursion IsWhole (list_of ring.now)) rings → AreWhole (rings_in rings)
all_rings rings all = whole_held rings (recursion_from_All (λ ring. AllByRecursion IsWhole (list_of ring.now)) rings all)

pub rings_all : (rings : List (Bor (List Tree))) → AreWhole (rings_in rings) → All (λ ring. AllByRecursion IsWhole (list_of ring.now)) rings
rings_all rings all = All-from_recursion (λ ring. AllByRecursion IsWhole (list_of ring.now)) rings (held_whole rings all)

outlines_held : (outlines : List (Vec Point Global)) → AllByRecursion (λ outline. IsClosed outline.items) outlines → AllByRecursion IsClosed (lists_of outlines)
outlines_held [] s = tt
outlines_held (outline ∷ outlines) s = (s.0, outlines_held outlines s.1)

held_outlines : (outlines : List (Vec Point Global)) → AllByRecursion IsClosed (lists_of outlines) → AllByRecursion (λ outline. IsClosed outline.items) outlines
held_outlines [] s = tt
held_outlines (outline ∷ outlines) s = (s.0, held_outlines outlines s.1)

pub all_outlines : (outlines : List (Vec Point Global)) → All (λ outline. IsClosed outline.items) outlines → AllByRecursion IsClosed (lists_of outlines)
all_outlines outlines all = outlines_held outlines (recursion_from_All (λ outline. IsClosed outline.items) outlines all)

pub outlines_all : (outlines : List (Vec Point Global)) → AllByRecursion IsClosed (lists_of outlines) → All (λ outline. IsClosed outline.items) outlines
outlines_all outlines all = All-from_recursion (λ outline. IsClosed outline.items) outlines (held_outlines outlines all)

-- ---- one more of a list

-- one more tree of the first so many
pub one_more : (trees : List Tree) (i : ℕ) (tree : Tree) → i < length trees → tree ≡ get_or trees i tree → list_of (take (i + 1) trees) ≡ list_of (take i trees) ++ json_of tree ∷ []
one_more trees i tree inside is =
    ap list_of (take_more trees i tree inside) ∙ map-append json_of (take i trees) (get_or trees i tree ∷ []) ∙ ap (λ (t : Tree). list_of (take i trees) ++ json_of t ∷ []) (sym is)

all_join : (P : Json → Type 0) (xs : List Json) (x : Json) → AllByRecursion P xs → P x → AllByRecursion P (xs ++ x ∷ [])
all_join P [] x s last = (last, tt)
all_join P (y ∷ ys) x s last = (s.0, all_join P ys x s.1 last)

-- one more of which it holds
pub all_more : (P : Json → Type 0) (trees : List Tree) (i : ℕ) (tree : Tree) → i < length trees → tree ≡ get_or trees i tree → AllByRecursion P (list_of (take i trees)) → P (json_of tree) → AllByRecursion P (list_of (take (i + 1) trees))
all_more P trees i tree inside is all last =
    subst (λ (values : List Json). AllByRecursion P values) (sym (one_more trees i tree inside is)) (all_join P (list_of (take i trees)) (json_of tree) all last)

-- it holds of all
pub all_of_front : (P : Json → Type 0) (trees : List Tree) (i : ℕ) → length trees ≤ i → AllByRecursion P (list_of (take i trees)) → AllByRecursion P (list_of trees)
all_of_front P trees i over all = subst (λ (front : List Tree). AllByRecursion P (list_of front)) (take_all i trees over) all

pub zip_more : {Y : Type 0} (R : Json → Y → Type 0) (trees : List Tree) (i : ℕ) (tree : Tree) (ys : List Y) (y : Y) → i < length trees → tree ≡ get_or trees i tree → AllZip R (list_of (take i trees)) ys → R (json_of tree) y → AllZip R (list_of (take (i + 1) trees)) (ys ++ y ∷ [])
zip_more R trees i tree ys y inside is zip last =
    subst (λ (values : List Json). AllZip R values (ys ++ y ∷ [])) (sym (one_more trees i tree inside is)) (zip_join R (list_of (take i trees)) (json_of tree ∷ []) ys (y ∷ []) zip (last, tt))

-- one more point
pub point_more : (ring : List Tree) (i : ℕ) (tree : Tree) (points : List Point) (p : Point) → i < length ring → tree ≡ get_or ring i tree → SpellPoints (list_of (take i ring)) points → SpellsPoint (json_of tree) p → SpellPoints (list_of (take (i + 1) ring)) (points ++ p ∷ [])
point_more ring i tree points p inside is = zip_more SpellsPoint ring i tree points p inside is

-- one more ring of points
pub outline_more : (rings : List (Bor (List Tree))) (i : ℕ) (ring : Bor (List Tree)) (outlines : List (Vec Point Global)) (outline : Vec Point Global) → i < length rings → ring ≡ get_or rings i ring → SpellRings (rings_in (take i rings)) (lists_of outlines)
    → SpellPoints (list_of ring.now) outline.items → SpellRings (rings_in (take (i + 1) rings)) (lists_of (outlines ++ outline ∷ []))
outline_more rings i ring outlines outline inside is zip last =
    let more : rings_in (take (i + 1) rings) ≡ rings_in (take i rings) ++ list_of ring.now ∷ [] = ap rings_in (take_more rings i ring inside) ∙ map-append (λ (r : Bor (List Tree)). list_of r.now) (take i rings) (get_or rings i ring ∷ []) ∙ ap (λ (r : Bor (List Tree)). rings_in (take i rings) ++ list_of r.now ∷ []) (sym is) in
    let longer : lists_of (outlines ++ outline ∷ []) ≡ lists_of outlines ++ outline.items ∷ [] = map-append (λ (v : Vec Point Global). v.items) outlines (outline ∷ []) in
    subst (λ (values : List (List Json)). SpellRings values (lists_of (outlines ++ outline ∷ []))) (sym more)
    (subst (λ (lists : List (List Point)). SpellRings (rings_in (take i rings) ++ list_of ring.now ∷ []) lists) (sym longer)
    (zip_join SpellPoints (rings_in (take i rings)) (list_of ring.now ∷ []) (lists_of outlines) (outline.items ∷ []) zip (last, tt)))

-- one more ring of a polygon
pub ring_more : (parts : List Tree) (i : ℕ) (tree : Tree) (old : List (List Json)) (rings : List (Bor (List Tree))) (ring : Bor (List Tree)) → i < length parts → tree ≡ get_or parts i tree → HasAppended (list_of (take i parts)) old (rings_in rings)
    → HasPositions (json_of tree) (list_of ring.now) → HasAppended (list_of (take (i + 1) parts)) old (rings_in (rings ++ ring ∷ []))
ring_more parts i tree old rings ring inside is s last = record {
  more = s.more ++ list_of ring.now ∷ [];
  each = zip_more HasPositions parts i tree s.more (list_of ring.now) inside is s.each last;
  now_are = map-append (λ (r : Bor (List Tree)). list_of r.now) rings (ring ∷ []) ∙ ap (λ (lists : List (List Json)). lists ++ list_of ring.now ∷ []) s.now_are ∙ append_assoc old s.more (list_of ring.now ∷ []);
}

-- one more polygon
pub polygon_more : (parts : List Tree) (i : ℕ) (tree : Tree) (old new : List (Bor (List Tree))) → i < length parts → tree ≡ get_or parts i tree → HasFlattened (list_of (take i parts)) (rings_in old) → AppendsRings (json_of tree) (rings_in old) (rings_in new)
    → HasFlattened (list_of (take (i + 1) parts)) (rings_in new)
polygon_more parts i tree old new inside is s last = record {
  each = s.each ++ last.0 ∷ [];
  polygons = zip_more HasPolygon parts i tree s.each last.0 inside is s.polygons last.1;
  flat = last.2 ∙ ap (λ (lists : List (List Json)). lists ++ last.0) s.flat ∙ ap (λ (lists : List (List Json)). flat_map (λ rings. rings) s.each ++ lists) (sym (append-nil last.0)) ∙ sym (flat_map-append (λ (rings : List (List Json)). rings) s.each (last.0 ∷ []));
}

pub none_appended : (old : List (List Json)) → HasAppended [] old old
none_appended old = record { more = []; each = tt; now_are = sym (append-nil old) }

pub none_flattened : HasFlattened [] []
none_flattened = record { each = []; polygons = tt; flat = refl }

-- all rings of a polygon
pub polygon_appended : (polygon : Json) (parts : List Tree) (old new : List (List Json)) → polygon ≡ array (list_of parts) → HasAppended (list_of parts) old new → AppendsRings polygon old new
polygon_appended polygon parts old new is s = (s.more, record { parts = list_of parts; list = is; each = s.each }, s.now_are)

-- all polygons
pub all_flattened : (several : Json) (parts : List Tree) (rings : List (List Json)) → several ≡ array (list_of parts) → HasFlattened (list_of parts) rings → HavePolygons several rings
all_flattened several parts rings is s = record { parts = list_of parts; each = s.each; list = is; polygons = s.polygons; flat = s.flat }

pub no_parts : (polygon : Json) → ((trees : List Json) → ¬ (polygon ≡ array trees)) → (rings : List (List Json)) → ¬ HasPolygon polygon rings
no_parts polygon not rings has = not has.parts has.list

pub no_polygons : (several : Json) → ((trees : List Json) → ¬ (several ≡ array trees)) → (rings : List (List Json)) → ¬ HavePolygons several rings
no_polygons several not rings have = not have.parts have.list

-- ---- what one of a list lacks

pub value_at : (P : Json → Type 0) (trees : List Tree) (i : ℕ) (tree : Tree) → i < length trees → tree ≡ get_or trees i tree → AllByRecursion P (list_of trees) → P (json_of tree)
value_at P trees i tree inside is all = subst (λ (t : Tree). P (json_of t)) (sym is) (All-get_or (λ t. P (json_of t)) trees i tree inside (all_trees P trees all))

partners_of : {X Y : Type 0} (R : X → Y → Type 0) (xs : List X) (ys : List Y) → AllZip R xs ys → AllByRecursion (λ x. (y : Y) × R x y) xs
partners_of R [] [] s = tt
partners_of R [] (y ∷ ys) s = tt
partners_of R (x ∷ xs) [] s = absurd s
partners_of R (x ∷ xs) (y ∷ ys) s = ((y, s.0), partners_of R xs ys s.1)

pub no_point : (ring : List Tree) (i : ℕ) (tree : Tree) → i < length ring → tree ≡ get_or ring i tree → ((p : Point) → ¬ SpellsPoint (json_of tree) p) → ¬ AllByRecursion IsNear (list_of ring)
no_point ring i tree inside is none all = let near = value_at IsNear ring i tree inside is all in none near.0 near.1

ring_at : (rings : List (Bor (List Tree))) (i : ℕ) (ring : Bor (List Tree)) → i < length rings → ring ≡ get_or rings i ring → AreNear (rings_in rings) → AllByRecursion IsNear (list_of ring.now)
ring_at rings i ring inside is all =
    all_values IsNear ring.now
    (subst (λ (r : Bor (List Tree)). All (λ tree. IsNear (json_of tree)) r.now) (sym is)
    (All-get_or (λ (r : Bor (List Tree)). All (λ tree. IsNear (json_of tree)) r.now) rings i ring inside (All-from_recursion (λ (r : Bor (List Tree)). All (λ tree. IsNear (json_of tree)) r.now) rings (held_rings IsNear rings all))))

pub no_outline : (rings : List (Bor (List Tree))) (i : ℕ) (ring : Bor (List Tree)) → i < length rings → ring ≡ get_or rings i ring → ¬ AllByRecursion IsNear (list_of ring.now) → ¬ AreNear (rings_in rings)
no_outline rings i ring inside is none all = none (ring_at rings i ring inside is all)

pub no_ring : (polygon : Json) (parts : List Tree) (i : ℕ) (tree : Tree) → polygon ≡ array (list_of parts) → i < length parts → tree ≡ get_or parts i tree → ((ring : List Json) → ¬ HasPositions (json_of tree) ring) → (rings : List (List Json)) → ¬ HasPolygon polygon rings
no_ring polygon parts i tree list inside is none rings has =
    let same = one_array polygon has.parts (list_of parts) has.list list in
    let zip = subst (λ (trees : List Json). AllZip HasPositions trees rings) same has.each in
    let ring = value_at (λ value. (ring : List Json) × HasPositions value ring) parts i tree inside is (partners_of HasPositions (list_of parts) rings zip) in
    none ring.0 ring.1

pub no_polygon : (several : Json) (parts : List Tree) (i : ℕ) (tree : Tree) → several ≡ array (list_of parts) → i < length parts → tree ≡ get_or parts i tree → ((rings : List (List Json)) → ¬ HasPolygon (json_of tree) rings)
    → (rings : List (List Json)) → ¬ HavePolygons several rings
no_polygon several parts i tree list inside is none rings have =
    let same = one_array several have.parts (list_of parts) have.list list in
    let zip = subst (λ (trees : List Json). AllZip HasPolygon trees have.each) same have.polygons in
    let polygon = value_at (λ value. (rings : List (List Json)) × HasPolygon value rings) parts i tree inside is (partners_of HasPolygon (list_of parts) have.each zip) in
    none polygon.0 polygon.1
