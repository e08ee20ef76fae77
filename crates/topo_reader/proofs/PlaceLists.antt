-- Geometries one after another.
use Rattle.std.proofs.Common.{◌≡◌, ◌∙◌, ◌⊎◌, ◌+◌, refl, sym, ap, subst, inl, inr, ℕ, true, false, List, [], ◌∷◌, ◌++◌, length, arith, append-nil, length-append}
use Rattle.std.specs.Prelude.{not}
use Rattle.std.specs.List.{AllZip}
use Rattle.std.proofs.lemmas.List.Elements.{filter-append}
use Rattle.std.proofs.lemmas.List.Sums.{sum_by-append}
use Rattle.std.proofs.lemmas.Slice.Zip.{all_zipped_more}
use Rattle.json_text.proofs.Cases.{by_cases_of}
use Rattle.json_text.specs.Tree.{Json}
use Rattle.map_values.proofs.Unique.{zip_one}
use Rattle.plane_edge.specs.Rings.{Area, step_count}
use Rattle.plane_edge.specs.declared.point.Point.{Point}
use Rattle.topo_reader.specs.PlaceFaults.{BreaksPlace, IsAreaBehind, SpellAreas, IsPlaceFault}
use Rattle.topo_reader.specs.Topology.{SpellsArea, is_passed}
use Rattle.topo_reader.specs.declared.fault.TopoFault.{TopoFault}
use Rattle.topo_reader.proofs.Exact.{Exact, IsOne}
use Rattle.topo_reader.proofs.ExactLists.{AtItem, AreSteps, exact_list}
use Rattle.topo_reader.proofs.ExactPlaces.{exact_place, split_zip}
use Rattle.topo_reader.proofs.OneLayer.{one_area, kept}

-- ---- one more geometry

kept_more : (before after : List Json) → kept (before ++ after) ≡ kept before ++ kept after
kept_more before after = filter-append (λ place. not (is_passed place)) before after

kept_passed : (tree : Json) → is_passed tree ≡ true → kept (tree ∷ []) ≡ []
kept_passed tree is = rw is refl

kept_counted : (tree : Json) → is_passed tree ≡ false → kept (tree ∷ []) ≡ tree ∷ []
kept_counted tree is = rw is refl

pub steps_more : (areas more : List Area) → step_count (areas ++ more) ≡ step_count areas + step_count more
steps_more areas more = sum_by-append (λ a. length a.steps) areas more

-- a geometry that is passed over
pub areas_passed : (arcs : List (List Point)) (name : List ℕ) (before : List Json) (areas : List Area) (tree : Json) → SpellAreas arcs name before areas → is_passed tree ≡ true
    → SpellAreas arcs name (before ++ tree ∷ []) areas
areas_passed arcs name before areas tree s is =
    let same : kept before ≡ kept (before ++ tree ∷ []) = sym (kept_more before (tree ∷ []) ∙ ap (λ (ts : List Json). kept before ++ ts) (kept_passed tree is) ∙ append-nil (kept before)) in
    record { each = subst (λ (ts : List Json). AllZip (SpellsArea arcs name) ts areas) same s.each; few_areas = s.few_areas; few_steps = s.few_steps }

-- a geometry that is an area
pub areas_pushed : (arcs : List (List Point)) (name : List ℕ) (before : List Json) (areas : List Area) (tree : Json) (area : Area) → SpellAreas arcs name before areas → is_passed tree ≡ false
    → IsAreaBehind arcs name (length areas) (step_count areas) tree area → SpellAreas arcs name (before ++ tree ∷ []) (areas ++ area ∷ [])
areas_pushed arcs name before areas tree area s is a =
    let same : kept before ++ tree ∷ [] ≡ kept (before ++ tree ∷ []) = sym (kept_more before (tree ∷ []) ∙ ap (λ (ts : List Json). kept before ++ ts) (kept_counted tree is)) in
    let room = a.room in
    let few = a.few in
    let longer : length (areas ++ area ∷ []) ≡ length areas + length (area ∷ []) = length-append areas (area ∷ []) in
    let more : step_count (areas ++ area ∷ []) ≡ step_count areas + step_count (area ∷ []) = steps_more areas (area ∷ []) in
    record {
      each = subst (λ (ts : List Json). AllZip (SpellsArea arcs name) ts (areas ++ area ∷ [])) same (all_zipped_more (SpellsArea arcs name) (kept before) areas tree area s.each a.spelled);
      few_areas = omega arith;
      few_steps = omega arith;
    }

-- ---- the areas of the first geometries

areas_back : (arcs : List (List Point)) (name : List ℕ) (before after : List Json) (areas : List Area) → SpellAreas arcs name (before ++ after) areas → (front : List Area) × SpellAreas arcs name before front
areas_back arcs name before after areas s =
    let each = subst (λ (ts : List Json). AllZip (SpellsArea arcs name) ts areas) (kept_more before after) s.each in
    let parts = split_zip (SpellsArea arcs name) (kept before) (kept after) areas each in
    let few_areas = s.few_areas in
    let few_steps = s.few_steps in
    let long : length areas ≡ length parts.0 + length parts.1 = ap length parts.4 ∙ length-append parts.0 parts.1 in
    let steps : step_count areas ≡ step_count parts.0 + step_count parts.1 = ap (λ (cs : List Area). step_count cs) parts.4 ∙ steps_more parts.0 parts.1 in
    (parts.0, record { each = parts.2; few_areas = omega arith; few_steps = omega arith })

one_areas : (arcs : List (List Point)) (name : List ℕ) (places : List Json) → IsOne (List Area) (SpellAreas arcs name places)
one_areas arcs name places a b s t = zip_one (SpellsArea arcs name) (one_area arcs name) (kept places) a b s.each t.each

abbrev LastArea : List (List Point) → List ℕ → Json → List Area → List Area → Type 0
LastArea arcs name tree before areas = (area : Area) × SpellsArea arcs name tree area × (areas ≡ before ++ area ∷ [])

one_last : (arcs : List (List Point)) (name : List ℕ) (tree : Json) (front back areas : List Area) → AllZip (SpellsArea arcs name) (tree ∷ []) back → areas ≡ front ++ back → LastArea arcs name tree front areas
one_last arcs name tree front [] areas s is = absurd s
one_last arcs name tree front (area ∷ []) areas s is = (area, s.0, is)
one_last arcs name tree front (area ∷ b ∷ bs) areas s is = absurd s.1

last_area : (arcs : List (List Point)) (name : List ℕ) (before : List Json) (areas more : List Area) (tree : Json) → SpellAreas arcs name before areas → SpellAreas arcs name (before ++ tree ∷ []) more
    → is_passed tree ≡ false → (area : Area) × IsAreaBehind arcs name (length areas) (step_count areas) tree area
last_area arcs name before areas more tree s t is =
    let each = subst (λ (ts : List Json). AllZip (SpellsArea arcs name) ts more) (kept_more before (tree ∷ []) ∙ ap (λ (ts : List Json). kept before ++ ts) (kept_counted tree is)) t.each in
    let parts = split_zip (SpellsArea arcs name) (kept before) (tree ∷ []) more each in
    let same : parts.0 ≡ areas = zip_one (SpellsArea arcs name) (one_area arcs name) (kept before) parts.0 areas parts.2 s.each in
    let last = one_last arcs name tree areas parts.1 more parts.3 (parts.4 ∙ ap (λ (cs : List Area). cs ++ parts.1) same) in
    let few_areas = t.few_areas in
    let few_steps = t.few_steps in
    let long : length more ≡ length areas + length (last.0 ∷ []) = ap length last.2 ∙ length-append areas (last.0 ∷ []) in
    let steps : step_count more ≡ step_count areas + step_count (last.0 ∷ []) = ap (λ (cs : List Area). step_count cs) last.2 ∙ steps_more areas (last.0 ∷ []) in
    (last.0, record { spelled = last.1; room = omega arith; few = omega arith })

-- ---- all geometries

abbrev BreaksBehind : List (List Point) → List ℕ → List Json → List Area → Json → TopoFault → Type 0
BreaksBehind arcs name before areas tree fault = (is_passed tree ≡ false) × BreaksPlace arcs name (length before) (length areas) (step_count areas) tree fault

abbrev NextOr : List (List Point) → List ℕ → List Json → List Area → Json → Type 0
NextOr arcs name before areas tree = ((more : List Area) × SpellAreas arcs name (before ++ tree ∷ []) more) ⊎ ((f : TopoFault) × BreaksBehind arcs name before areas tree f)

next_counted : (arcs : List (List Point)) (name : List ℕ) (before : List Json) (areas : List Area) (tree : Json) → SpellAreas arcs name before areas → is_passed tree ≡ false → NextOr arcs name before areas tree
next_counted arcs name before areas tree s is = elim ((exact_place arcs name (length before) (length areas) (step_count areas) tree).some) as (λ _. NextOr arcs name before areas tree) [
  | inl area ↦ inl (areas ++ area.0 ∷ [], areas_pushed arcs name before areas tree area.0 s is area.1)
  | inr bad ↦ inr (bad.0, (is, bad.1))
]

place_steps : (arcs : List (List Point)) (name : List ℕ) → AreSteps Json (List Area) (SpellAreas arcs name) (BreaksBehind arcs name)
place_steps arcs name = record {
  begin = ([], record { each = tt; few_areas = omega arith; few_steps = omega arith });
  next = λ before areas tree s. by_cases_of (is_passed tree) (NextOr arcs name before areas tree)
      (λ is. inl (areas, areas_passed arcs name before areas tree s is)) (λ is. next_counted arcs name before areas tree s is);
  back = λ before after areas s. areas_back arcs name before after areas s;
  same = λ places. one_areas arcs name places;
  apart = λ before areas more tree f s t bad.
      (let last = last_area arcs name before areas more tree s t bad.0 in (exact_place arcs name (length before) (length areas) (step_count areas) tree).apart last.0 f last.1 bad.1);
  one = λ before areas tree f g s a b. (exact_place arcs name (length before) (length areas) (step_count areas) tree).one f g a.1 b.1;
}

fault_of : (arcs : List (List Point)) (name : List ℕ) (places : List Json) (f : TopoFault) → AtItem Json (List Area) (SpellAreas arcs name) (BreaksBehind arcs name) places f → IsPlaceFault arcs name places f
fault_of arcs name places f a =
    record { before = a.before; tree = a.item; after = a.after; areas = a.state; places_are = a.parts; right = a.right; counted = a.broken.0; broken = a.broken.1 }

item_of : (arcs : List (List Point)) (name : List ℕ) (places : List Json) (f : TopoFault) → IsPlaceFault arcs name places f → AtItem Json (List Area) (SpellAreas arcs name) (BreaksBehind arcs name) places f
item_of arcs name places f a =
    record { before = a.before; item = a.tree; after = a.after; state = a.areas; parts = a.places_are; right = a.right; broken = (a.counted, a.broken) }

pub exact_places : (arcs : List (List Point)) (name : List ℕ) (places : List Json) → Exact (List Area) (SpellAreas arcs name places) (IsPlaceFault arcs name places)
exact_places arcs name places = exact_fault (exact_list Json (List Area) (SpellAreas arcs name) (BreaksBehind arcs name) (place_steps arcs name) places)
  where
    some_fault : ((areas : List Area) × SpellAreas arcs name places areas) ⊎ ((f : TopoFault) × AtItem Json (List Area) (SpellAreas arcs name) (BreaksBehind arcs name) places f)
        → ((areas : List Area) × SpellAreas arcs name places areas) ⊎ ((f : TopoFault) × IsPlaceFault arcs name places f)
    some_fault (inl good) = inl good
    some_fault (inr bad) = inr (bad.0, fault_of arcs name places bad.0 bad.1)

    exact_fault : Exact (List Area) (SpellAreas arcs name places) (AtItem Json (List Area) (SpellAreas arcs name) (BreaksBehind arcs name) places) → Exact (List Area) (SpellAreas arcs name places) (IsPlaceFault arcs name places)
    exact_fault e = record {
      some = some_fault e.some;
      apart = λ areas f good bad. e.apart areas f good (item_of arcs name places f bad);
      one = λ f g a b. e.one f g (item_of arcs name places f a) (item_of arcs name places g b);
    }
