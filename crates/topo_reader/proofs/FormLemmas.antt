-- Lists of numbers, of rings and of polygons, one value at a time.
use Rattle.std.proofs.Common.{◌≡◌, ◌∙◌, refl, sym, ap, ap₂, ℕ, List, [], ◌∷◌, ◌++◌, map, flat_map, append-nil, append_assoc}
use Rattle.std.specs.Prelude.{Some, codes}
use Rattle.std.proofs.lemmas.List.{map_push, map-append}
use Rattle.json_text.specs.Tree.{Json, Number, array, member_of}
use Rattle.map_values.proofs.Values.{one_answer, one_array}
use Rattle.map_values.specs.Members.{HasType}
use Rattle.topo_reader.specs.Indexes.{ring_numbers, HasPolygons, one, several}
use Rattle.topo_reader.specs.PlaceFaults.{ring_tree, polygon_tree, HasRings, of_polygon, of_polygons}
use Rattle.topo_reader.proofs.OneLayer.{other_types}

-- ---- forms

-- of values that all have a form each has it
pub form_inside : {T : Type 0} (form : T → Json) (before : List Json) (tree : Json) (after : List Json) (parts : List T) → before ++ tree ∷ after ≡ map form parts → (part : T) × (tree ≡ form part)
form_inside form before tree after [] is = absurd (no_end before is)
  where
    no_end : (xs : List Json) → ¬ (xs ++ tree ∷ after ≡ [])
    no_end [] same = let never : tree ∷ after ≡ [] = same in cc
    no_end (x ∷ xs) same = let never : x ∷ (xs ++ tree ∷ after) ≡ [] = same in cc
form_inside form [] tree after (part ∷ parts) is = (part, (let same : tree ∷ after ≡ form part ∷ map form parts = is in cc))
form_inside form (x ∷ xs) tree after (part ∷ parts) is = form_inside form xs tree after parts (let same : x ∷ (xs ++ tree ∷ after) ≡ form part ∷ map form parts = is in cc)

-- ---- numbers

-- the values are numbers
abbrev pub AreNumbers : List Json → Type 0
AreNumbers trees = (texts : List (List ℕ)) × (trees ≡ map Number texts)

pub numbers_next : (trees more : List Json) (tree : Json) (text : List ℕ) → AreNumbers trees → tree ≡ Number text → more ≡ trees ++ tree ∷ [] → AreNumbers more
numbers_next trees more tree text s is more_is =
    (s.0 ++ text ∷ [], more_is ∙ ap₂ (λ (ts : List Json) (t : Json). ts ++ t ∷ []) s.1 is ∙ sym (map_push Number s.0 text))

-- ---- rings

-- the rings of a polygon behind those before
pub record HaveRings (trees : List Json) (old new : List (List Json)) : Type 0 where
  pub texts : List (List (List ℕ))
  pub trees_are : trees ≡ map ring_tree texts
  pub new_is : new ≡ old ++ ring_numbers texts

pub rings_none : (old : List (List Json)) → HaveRings [] old old
rings_none old = record { texts = []; trees_are = refl; new_is = sym (append-nil old) }

pub rings_next : (trees more : List Json) (old now next : List (List Json)) (tree : Json) (ring : List Json) (texts : List (List ℕ)) → HaveRings trees old now → tree ≡ ring_tree texts → ring ≡ map Number texts → more ≡ trees ++ tree ∷ []
    → next ≡ now ++ ring ∷ [] → HaveRings more old next
rings_next trees more old now next tree ring texts s is ring_is more_is next_is = record {
  texts = s.texts ++ texts ∷ [];
  trees_are = more_is ∙ ap₂ (λ (ts : List Json) (t : Json). ts ++ t ∷ []) s.trees_are is ∙ sym (map_push ring_tree s.texts texts);
  new_is = next_is ∙ ap₂ (λ (rs : List (List Json)) (r : List Json). rs ++ r ∷ []) s.new_is ring_is ∙ append_assoc old (ring_numbers s.texts) (map Number texts ∷ [])
      ∙ ap (λ (rs : List (List Json)). old ++ rs) (sym (map_push (λ (t : List (List ℕ)). map Number t) s.texts texts));
}

-- ---- polygons

pub record HavePolygons (trees : List Json) (rings : List (List Json)) : Type 0 where
  pub each : List (List (List (List ℕ)))
  pub trees_are : trees ≡ map polygon_tree each
  pub rings_are : rings ≡ ring_numbers (flat_map (λ rings. rings) each)

flat_push : (each : List (List (List (List ℕ)))) (texts : List (List (List ℕ))) → flat_map (λ rings. rings) (each ++ texts ∷ []) ≡ flat_map (λ rings. rings) each ++ texts
flat_push [] texts = append-nil texts
flat_push (t ∷ ts) texts = ap (λ (rest : List (List (List ℕ))). t ++ rest) (flat_push ts texts) ∙ sym (append_assoc t (flat_map (λ rings. rings) ts) texts)

pub polygons_next : (trees next : List Json) (old new : List (List Json)) (tree : Json) (texts : List (List (List ℕ))) → HavePolygons trees old → tree ≡ polygon_tree texts → new ≡ old ++ ring_numbers texts → next ≡ trees ++ tree ∷ []
    → HavePolygons next new
polygons_next trees next old new tree texts s is new_is next_is = record {
  each = s.each ++ texts ∷ [];
  trees_are = next_is ∙ ap₂ (λ (ts : List Json) (t : Json). ts ++ t ∷ []) s.trees_are is ∙ sym (map_push polygon_tree s.each texts);
  rings_are = new_is ∙ ap (λ (rs : List (List Json)). rs ++ ring_numbers texts) s.rings_are ∙ sym (map-append (λ (t : List (List ℕ)). map Number t) (flat_map (λ rings. rings) s.each) texts)
      ∙ ap ring_numbers (sym (flat_push s.each texts));
}

-- what was read of all polygons
abbrev pub ReadRings : Json → List (List Json) → Type 0
ReadRings tree rings = (texts : List (List (List ℕ))) × HasRings tree texts × (rings ≡ ring_numbers texts)

one_alone : (tree polygon : Json) (each : List (List (List (List ℕ)))) (rings : List (List Json)) → HasType tree (codes "Polygon") → member_of tree (codes "arcs") ≡ Some polygon → polygon ∷ [] ≡ map polygon_tree each
    → rings ≡ ring_numbers (flat_map (λ rings. rings) each) → ReadRings tree rings
one_alone tree polygon [] rings type is same are = absurd (let never : polygon ∷ [] ≡ [] = same in cc)
one_alone tree polygon (a ∷ b ∷ bs) rings type is same are = absurd (let never : polygon ∷ [] ≡ polygon_tree a ∷ polygon_tree b ∷ map polygon_tree bs = same in cc)
one_alone tree polygon (a ∷ []) rings type is same are =
    let form : polygon ≡ polygon_tree a = let list : polygon ∷ [] ≡ polygon_tree a ∷ [] = same in cc in
    (a, of_polygon type (is ∙ ap (λ (t : Json). Some t) form), are ∙ ap ring_numbers (append-nil a))

pub rings_read : (tree : Json) (polygons : List Json) (rings : List (List Json)) → HasPolygons tree polygons → HavePolygons polygons rings → ReadRings tree rings
rings_read tree polygons rings (one polygon type is alone) s = one_alone tree polygon s.each rings type is (sym alone ∙ s.trees_are) s.rings_are
rings_read tree polygons rings (several type is) s =
    (flat_map (λ rings. rings) s.each, of_polygons s.each type (is ∙ ap (λ (ts : List Json). Some (array ts)) s.trees_are) refl, s.rings_are)

-- one of the values is no polygon
pub rings_missed : (tree : Json) (polygons before : List Json) (polygon : Json) (after : List Json) (texts : List (List (List ℕ))) → HasPolygons tree polygons → polygons ≡ before ++ polygon ∷ after
    → ((texts : List (List (List ℕ))) → ¬ (polygon ≡ polygon_tree texts)) → ¬ HasRings tree texts
rings_missed tree polygons before polygon after texts (one other type is alone) cut none (of_polygon type_2 is_2) =
    let same = one_answer (member_of tree (codes "arcs")) other (polygon_tree texts) is is_2 in
    let found = form_inside polygon_tree before polygon after (texts ∷ []) (sym cut ∙ alone ∙ ap (λ (t : Json). t ∷ []) same) in
    none found.0 found.1
rings_missed tree polygons before polygon after texts (one other type is alone) cut none (of_polygons each type_2 is_2 flat) = other_types (member_of tree (codes "type")) type type_2
rings_missed tree polygons before polygon after texts (several type is) cut none (of_polygon type_2 is_2) = other_types (member_of tree (codes "type")) type_2 type
rings_missed tree polygons before polygon after texts (several type is) cut none (of_polygons each type_2 is_2 flat) =
    let same = one_array (array polygons) polygons (map polygon_tree each) refl (one_answer (member_of tree (codes "arcs")) (array polygons) (array (map polygon_tree each)) is is_2) in
    let found = form_inside polygon_tree before polygon after each (sym cut ∙ same) in
    none found.0 found.1

-- ---- values of no form

pub no_ring_inside : (before : List Json) (tree : Json) (after : List Json) (polygon : Json) (trees : List Json) (texts : List (List (List ℕ))) → polygon ≡ array trees → trees ≡ before ++ tree ∷ after
    → ((texts : List (List ℕ)) → ¬ (tree ≡ ring_tree texts)) → ¬ (polygon ≡ polygon_tree texts)
no_ring_inside before tree after polygon trees texts is cut none form =
    let found = form_inside ring_tree before tree after texts (sym cut ∙ one_array polygon trees (map ring_tree texts) is form) in none found.0 found.1

-- of these values one is no number
pub no_number_inside : (before : List Json) (tree : Json) (after trees : List Json) → trees ≡ before ++ tree ∷ after → ((text : List ℕ) → ¬ (tree ≡ Number text)) → ¬ AreNumbers trees
no_number_inside before tree after trees cut none s = let found = form_inside Number before tree after s.0 (sym cut ∙ s.1) in none found.0 found.1

-- a list of values that are no numbers is no ring
pub no_ring : (tree : Json) (trees : List Json) (texts : List (List ℕ)) → tree ≡ array trees → ¬ AreNumbers trees → ¬ (tree ≡ ring_tree texts)
no_ring tree trees texts is none form = none (texts, one_array tree trees (map Number texts) is form)
