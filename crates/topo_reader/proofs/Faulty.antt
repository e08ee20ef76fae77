-- A value spells a map or has one first fault, and never both.
use Rattle.std.proofs.Common.{◌≡◌, ◌⊎◌, refl, sym, ap, inl, inr, subst, ℕ, List}
use Rattle.std.specs.Prelude.{Option, Some, None, count_by}
use Rattle.std.specs.List.{AllZip}
use Rattle.json_text.specs.Tree.{Json, Null, Truth, Number, Str, Array, Object, object, member_of}
use Rattle.map_values.specs.Layers.{Layer}
use Rattle.map_values.proofs.Unique.{zip_one}
use Rattle.plane_edge.specs.Rings.{Area}
use Rattle.plane_edge.specs.declared.frame.Frame.{Frame}
use Rattle.plane_edge.specs.declared.point.Point.{Point}
use Rattle.topo_reader.specs.Arcs.{SpellsFrame, is_relative, SpellsArc}
use Rattle.topo_reader.specs.ArcFaults.{IsArcFault}
use Rattle.topo_reader.specs.Faults.{Head, IsTopology, BreaksPicked, BreaksBody, IsFirstFault, OneFault, LayerWithoutFault, LayerOrFault}
use Rattle.topo_reader.specs.PlaceFaults.{SpellAreas, IsPlaceFault}
use Rattle.topo_reader.specs.Rules.{UnlessSome}
use Rattle.topo_reader.specs.Topology.{IsPicked, ArePlaces, is_passed, SpellsTopology}
use Rattle.topo_reader.specs.declared.fault.TopoFault.{TopoFault}
use Rattle.topo_reader.specs.declared.fault.TopoFault.TheVariants.{NotTopology, NoObject, NotPolygonal}
use Rattle.topo_reader.proofs.Decide.{all_pairs}
use Rattle.topo_reader.proofs.DecideHead.{head_or, one_head, picked_or, places_or}
use Rattle.topo_reader.proofs.Exact.{Exact, decision, exact_as, exact_some, exact_both}
use Rattle.topo_reader.proofs.ExactArcs.{exact_arcs}
use Rattle.topo_reader.proofs.PlaceLists.{exact_places}
use Rattle.topo_reader.proofs.OneLayer.{one_arc, one_picked, one_places}

-- ---- what a map is behind each rule

pub record IsLayer (frame : Frame) (arcs : List (List Point)) (class : List ℕ) (places : List Json) (layer : Layer) : Type 0 where
  pub areas : SpellAreas arcs class places layer.areas
  pub passed : layer.passed ≡ count_by is_passed places
  pub frame_is : layer.frame ≡ frame

abbrev pub BehindArcs : Frame → List ℕ → Json → List (List Point) → Layer → Type 0
BehindArcs frame class picked arcs layer = (places : List Json) × ArePlaces picked places × IsLayer frame arcs class places layer

abbrev pub BehindPicked : Head → List ℕ → Json → Layer → Type 0
BehindPicked head class picked layer = (arcs : List (List Point)) × AllZip (SpellsArc (is_relative head.frame)) head.parts arcs × BehindArcs head.frame class picked arcs layer

abbrev pub BehindHead : List ℕ → Option (List ℕ) → Head → Layer → Type 0
BehindHead class named head layer = (picked : Json) × IsPicked head.objects named picked × BehindPicked head class picked layer

abbrev pub BehindAll : Json → List ℕ → Option (List ℕ) → Layer → Type 0
BehindAll tree class named layer = (head : Head) × IsTopology tree head × BehindHead class named head layer

-- ---- the rules from the last to the first

layer_some : (frame : Frame) (arcs : List (List Point)) (class : List ℕ) (places : List Json) → ((areas : List Area) × SpellAreas arcs class places areas) ⊎ ((f : TopoFault) × IsPlaceFault arcs class places f)
    → ((layer : Layer) × IsLayer frame arcs class places layer) ⊎ ((f : TopoFault) × IsPlaceFault arcs class places f)
layer_some frame arcs class places (inl areas) =
    inl (record { areas = areas.0; passed = count_by is_passed places; frame = frame }, record { areas = areas.1; passed = refl; frame_is = refl })
layer_some frame arcs class places (inr bad) = inr bad

exact_layer : (frame : Frame) (arcs : List (List Point)) (class : List ℕ) (places : List Json) → Exact Layer (IsLayer frame arcs class places) (IsPlaceFault arcs class places)
exact_layer frame arcs class places =
    let e = exact_places arcs class places in
    record {
      some = layer_some frame arcs class places e.some;
      apart = λ layer f good bad. e.apart layer.areas f good.areas bad;
      one = e.one;
    }

exact_picked : (frame : Frame) (arcs : List (List Point)) (class : List ℕ) (picked : Json) → Exact Layer (BehindArcs frame class picked arcs) (BreaksPicked arcs class picked)
exact_picked frame arcs class picked =
    exact_some (List Json) (ArePlaces picked) (NotPolygonal 0) Layer (λ places layer. IsLayer frame arcs class places layer) (λ places. IsPlaceFault arcs class places)
    (decision (List Json) (ArePlaces picked) (places_or picked)) (one_places picked) (λ places are. exact_layer frame arcs class places)

exact_body : (head : Head) (class : List ℕ) (picked : Json) → Exact Layer (BehindPicked head class picked) (BreaksBody head class picked)
exact_body head class picked =
    exact_both (List (List Point)) Layer (AllZip (SpellsArc (is_relative head.frame)) head.parts) (IsArcFault (is_relative head.frame) head.parts)
    (λ arcs layer. BehindArcs head.frame class picked arcs layer) (λ arcs. BreaksPicked arcs class picked) (exact_arcs (is_relative head.frame) head.parts)
    (λ a b s t. zip_one (SpellsArc (is_relative head.frame)) (one_arc (is_relative head.frame)) head.parts a b s t) (λ arcs are. exact_picked head.frame arcs class picked)

exact_head : (head : Head) (class : List ℕ) (named : Option (List ℕ)) → Exact Layer (BehindHead class named head) (UnlessSome (IsPicked head.objects named) NoObject (λ picked. BreaksBody head class picked))
exact_head head class named =
    exact_some Json (IsPicked head.objects named) NoObject Layer (λ picked layer. BehindPicked head class picked layer) (λ picked. BreaksBody head class picked)
    (decision Json (IsPicked head.objects named) (picked_or head.objects named)) (one_picked head.objects named) (λ picked is. exact_body head class picked)

exact_all : (tree : Json) (class : List ℕ) (named : Option (List ℕ)) → Exact Layer (BehindAll tree class named) (IsFirstFault tree class named)
exact_all tree class named =
    exact_some Head (IsTopology tree) NotTopology Layer (λ head layer. BehindHead class named head layer)
    (λ head. UnlessSome (IsPicked head.objects named) NoObject (λ picked. BreaksBody head class picked))
    (decision Head (IsTopology tree) (head_or tree)) (one_head tree) (λ head is. exact_head head class named)

-- ---- the same in one record

member_object : (objects tree : Json) (name : List ℕ) → member_of objects name ≡ Some tree → (pairs : List (List ℕ × Json)) × (objects ≡ object pairs)
member_object Null tree name is = absurd (let never : None ≡ Some tree = is in cc)
member_object (Truth b) tree name is = absurd (let never : None ≡ Some tree = is in cc)
member_object (Number text) tree name is = absurd (let never : None ≡ Some tree = is in cc)
member_object (Str text) tree name is = absurd (let never : None ≡ Some tree = is in cc)
member_object (Array items) tree name is = absurd (let never : None ≡ Some tree = is in cc)
member_object (Object members) tree name is = let all = all_pairs members in (all.0, ap Object all.1)

picked_object : (objects picked : Json) (named : Option (List ℕ)) → IsPicked objects named picked → (pairs : List (List ℕ × Json)) × (objects ≡ object pairs)
picked_object objects picked (Some name) is = member_object objects picked name is
picked_object objects picked None is = (is.1.0, is.1.1)

pub topology_of : (tree : Json) (class : List ℕ) (named : Option (List ℕ)) (layer : Layer) → BehindAll tree class named layer → SpellsTopology tree class named layer
topology_of tree class named layer s =
    let head = s.0 in
    let is = s.1 in
    let picked = s.2 in
    let arcs = picked.2 in
    let places = arcs.2 in
    let last = places.2 in
    record {
      objects = head.objects;
      picked = picked.0;
      places = places.0;
      parts = head.parts;
      arcs = arcs.0;
      type_is = is.type_is;
      frame_is = subst (λ (frame : Frame). SpellsFrame tree frame) (sym last.frame_is) is.frame_is;
      objects_are = is.objects_are;
      picked_is = picked.1;
      parts_are = is.parts_are;
      arcs_are = subst (λ (frame : Frame). AllZip (SpellsArc (is_relative frame)) head.parts arcs.0) (sym last.frame_is) arcs.1;
      places_are = places.1;
      areas_are = last.areas.each;
      passed_is = last.passed;
      few_areas = last.areas.few_areas;
      few_steps = last.areas.few_steps;
    }

of_topology : (tree : Json) (class : List ℕ) (named : Option (List ℕ)) (layer : Layer) → SpellsTopology tree class named layer → BehindAll tree class named layer
of_topology tree class named layer s =
    let object = picked_object s.objects s.picked named s.picked_is in (
      record { objects = s.objects; parts = s.parts; frame = layer.frame },
      record { members = object.0; type_is = s.type_is; objects_are = s.objects_are; object_is = object.1; parts_are = s.parts_are; frame_is = s.frame_is },
      (
        s.picked,
        s.picked_is,
        (
          s.arcs,
          s.arcs_are,
          (
            s.places,
            s.places_are,
            record { areas = record { each = s.areas_are; few_areas = s.few_areas; few_steps = s.few_steps }; passed = s.passed_is; frame_is = refl },
          ),
        ),
      ),
    )

exact_topology : (tree : Json) (class : List ℕ) (named : Option (List ℕ)) → Exact Layer (SpellsTopology tree class named) (IsFirstFault tree class named)
exact_topology tree class named =
    exact_as Layer (BehindAll tree class named) (SpellsTopology tree class named) (IsFirstFault tree class named) (topology_of tree class named) (of_topology tree class named) (exact_all tree class named)

-- ---- the laws

pub one_fault : OneFault
one_fault tree class named f g s t = (exact_topology tree class named).one f g s t

pub layer_without_fault : LayerWithoutFault
layer_without_fault tree class named l f s t = (exact_topology tree class named).apart l f s t

pub layer_or_fault : LayerOrFault
layer_or_fault tree class named = (exact_topology tree class named).some
