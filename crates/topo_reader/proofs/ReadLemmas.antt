-- What reading a topology answers.
use Rattle.std.proofs.Common.{◌≡◌, ◌⊎◌, ◌≤◌, refl, sym, subst, inl, inr, ℕ, Bool, List, [], ◌∷◌, ◌++◌, length, Result, Ok, Err}
use Rattle.std.specs.Prelude.{Option, Some, None, codes, count_by, IfOk, IfErr}
use Rattle.std.specs.List.{AllZip}
use Rattle.std.proofs.lemmas.Slice.Zip.{all_zipped_more}
use Rattle.json_text.specs.Lengths.{AreListsWithin}
use Rattle.json_text.specs.Tree.{Json, array}
use Rattle.map_values.specs.Layers.{Layer}
use Rattle.plane_edge.specs.Rings.{Area}
use Rattle.plane_edge.specs.declared.coverage.Coverage.{Coverage}
use Rattle.plane_edge.specs.declared.point.Point.{Point}
use Rattle.topo_reader.specs.Arcs.{is_relative, SpellsArc}
use Rattle.topo_reader.specs.ArcFaults.{BreaksArc, IsArcFault}
use Rattle.topo_reader.specs.Faults.{Head, IsTopology, IsFirstFault, IsFaultOf}
use Rattle.topo_reader.specs.Outcomes.{layer_of, Reads, FailsBy}
use Rattle.topo_reader.specs.PlaceFaults.{SpellAreas, IsPlaceFault}
use Rattle.topo_reader.specs.Rules.{UnlessMemory}
use Rattle.topo_reader.specs.Thinned.{IsThinned, ForArcs}
use Rattle.topo_reader.specs.Topology.{IsPicked, ArePlaces, collection, alone, is_passed, SpellsTopology}
use Rattle.topo_reader.specs.declared.fault.TopoFault.{TopoFault}
use Rattle.topo_reader.specs.declared.fault.TopoFault.TheVariants.{NotTopology, NoObject, BadArc, NotWhole, NotPolygonal, NoClass, BadIndex, OpenRing, Limit, Memory}
use Rattle.topo_reader.proofs.AreaLemmas.{unless}
use Rattle.topo_reader.proofs.Faulty.{topology_of, one_fault, layer_without_fault}
use Rattle.topo_reader.proofs.OneLayer.{one_layer}
use Rattle.topo_reader.proofs.Within.{member_within, list_within}

-- ---- lists are short

pub parts_within : (n : ℕ) (tree : Json) (head : Head) → AreListsWithin n tree → IsTopology tree head → length head.parts ≤ n
parts_within n tree head short is = list_within n head.parts (member_within n tree (array head.parts) (codes "arcs") short is.parts_are)

picked_within : (n : ℕ) (objects picked : Json) (named : Option (List ℕ)) → AreListsWithin n objects → IsPicked objects named picked → AreListsWithin n picked
picked_within n objects picked (Some name) short is = member_within n objects picked name short is
picked_within n objects picked None short is = member_within n objects picked is.0 short is.2

list_of_places : (n : ℕ) (picked : Json) (places : List Json) → 1 ≤ n → AreListsWithin n picked → ArePlaces picked places → length places ≤ n
list_of_places n picked places some short (collection type is) = list_within n places (member_within n picked (array places) (codes "geometries") short is)
list_of_places n picked places some short (alone other is) = subst (λ (ts : List Json). length ts ≤ n) (sym is) some

pub places_within : (n : ℕ) (tree : Json) (head : Head) (named : Option (List ℕ)) (picked : Json) (places : List Json) → 1 ≤ n → AreListsWithin n tree → IsTopology tree head → IsPicked head.objects named picked → ArePlaces picked places
    → length places ≤ n
places_within n tree head named picked places some short is picked_is are =
    list_of_places n picked places some (picked_within n head.objects picked named (member_within n tree head.objects (codes "objects") short is.objects_are) picked_is) are

-- ---- rule by rule

pub not_topology : (tree : Json) (class : List ℕ) (named : Option (List ℕ)) → ((head : Head) → ¬ IsTopology tree head) → IsFaultOf tree class named NotTopology
not_topology tree class named none = inl (none, refl)

pub no_object : (tree : Json) (class : List ℕ) (named : Option (List ℕ)) (head : Head) → IsTopology tree head → ((picked : Json) → ¬ IsPicked head.objects named picked) → IsFaultOf tree class named NoObject
no_object tree class named head is none = inr (head, is, inl (none, refl))

pub arc_fault : (tree : Json) (class : List ℕ) (named : Option (List ℕ)) (head : Head) (picked : Json) (f : TopoFault) → IsTopology tree head → IsPicked head.objects named picked
    → UnlessMemory f (IsArcFault (is_relative head.frame) head.parts f) → IsFaultOf tree class named f
arc_fault tree class named head picked f is picked_is = unless f (IsArcFault (is_relative head.frame) head.parts f) (IsFirstFault tree class named f) (λ broken. inr (head, is, inr (picked, picked_is, inl broken)))

-- arcs that were read
abbrev pub AreArcs : Bool → List Json → List (List Point) → Type 0
AreArcs relative parts thins = (paths : List (List Point)) × AllZip (SpellsArc relative) parts paths × AllZip IsThinned paths thins

pub no_places : (tree : Json) (class : List ℕ) (named : Option (List ℕ)) (head : Head) (picked : Json) (thins : List (List Point)) → IsTopology tree head → IsPicked head.objects named picked → AreArcs (is_relative head.frame) head.parts thins
    → ((places : List Json) → ¬ ArePlaces picked places) → IsFaultOf tree class named (NotPolygonal 0)
no_places tree class named head picked thins is picked_is arcs none = inr (head, is, inr (picked, picked_is, inr (arcs.0, arcs.1, inl (none, refl))))

pub place_fault : (tree : Json) (class : List ℕ) (named : Option (List ℕ)) (head : Head) (picked : Json) (thins : List (List Point)) (places : List Json) (f : TopoFault) → IsTopology tree head → IsPicked head.objects named picked
    → AreArcs (is_relative head.frame) head.parts thins → ArePlaces picked places → UnlessMemory f (ForArcs thins (λ paths. IsPlaceFault paths class places f)) → IsFaultOf tree class named f
place_fault tree class named head picked thins places f is picked_is arcs are =
    unless f (ForArcs thins (λ paths. IsPlaceFault paths class places f)) (IsFirstFault tree class named f)
    (λ broken. inr (head, is, inr (picked, picked_is, inr (arcs.0, arcs.1, inr (places, are, broken arcs.0 arcs.2)))))

pub map_found : (tree : Json) (class : List ℕ) (named : Option (List ℕ)) (head : Head) (picked : Json) (thins : List (List Point)) (places : List Json) (areas : List Area) (passed : ℕ) → IsTopology tree head → IsPicked head.objects named picked
    → AreArcs (is_relative head.frame) head.parts thins → ArePlaces picked places → ForArcs thins (λ paths. SpellAreas paths class places areas) → passed ≡ count_by is_passed places
    → SpellsTopology tree class named (record { areas = areas; passed = passed; frame = head.frame })
map_found tree class named head picked thins places areas passed is picked_is arcs are found count =
    topology_of tree class named (record { areas = areas; passed = passed; frame = head.frame })
    (head, is, (picked, picked_is, (arcs.0, arcs.1, (places, are, record { areas = found arcs.0 arcs.2; passed = count; frame_is = refl }))))

-- ---- the answer is the one

-- a fault is the first one, or want of memory
first_or_memory : (tree : Json) (class : List ℕ) (named : Option (List ℕ)) (f : TopoFault) → IsFaultOf tree class named f → IsFirstFault tree class named f ⊎ (f ≡ Memory)
first_or_memory tree class named Memory s = inr refl
first_or_memory tree class named NotTopology s = inl s
first_or_memory tree class named NoObject s = inl s
first_or_memory tree class named (BadArc arc) s = inl s
first_or_memory tree class named (NotWhole arc) s = inl s
first_or_memory tree class named (NotPolygonal place) s = inl s
first_or_memory tree class named (NoClass place) s = inl s
first_or_memory tree class named (BadIndex place) s = inl s
first_or_memory tree class named (OpenRing place) s = inl s
first_or_memory tree class named (Limit limit) s = inl s

pub reads_layer : (tree : Json) (class : List ℕ) (named : Option (List ℕ)) (result : Result Coverage TopoFault) (layer : Layer) → IfOk result (λ c. SpellsTopology tree class named (layer_of c)) → IfErr result (λ f. IsFaultOf tree class named f)
    → SpellsTopology tree class named layer → Reads layer result
reads_layer tree class named (Ok c) layer found fault spelled = one_layer tree class named (layer_of c) layer found spelled
reads_layer tree class named (Err f) layer found fault spelled =
    elim (first_or_memory tree class named f fault) [ inl first ↦ absurd (layer_without_fault tree class named layer f spelled first) | inr memory ↦ memory ]

pub fails_by : (tree : Json) (class : List ℕ) (named : Option (List ℕ)) (result : Result Coverage TopoFault) (f : TopoFault) → IfOk result (λ c. SpellsTopology tree class named (layer_of c)) → IfErr result (λ f. IsFaultOf tree class named f)
    → IsFirstFault tree class named f → FailsBy f result
fails_by tree class named (Ok c) f found fault first = layer_without_fault tree class named (layer_of c) f found first
fails_by tree class named (Err g) f found fault first =
    elim (first_or_memory tree class named g fault) [ inl other ↦ inl (one_fault tree class named g f other first) | inr memory ↦ inr memory ]

-- ---- arcs one after another

pub arcs_none : (relative : Bool) → AreArcs relative [] []
arcs_none relative = ([], tt, tt)

pub arcs_more : (relative : Bool) (parts more : List Json) (thins next : List (List Point)) (tree : Json) (points thin : List Point) → AreArcs relative parts thins → SpellsArc relative tree points → IsThinned points thin
    → more ≡ parts ++ tree ∷ [] → next ≡ thins ++ thin ∷ [] → AreArcs relative more next
arcs_more relative parts more thins next tree points thin s spelled thinned more_is next_is =
    let paths = s.0 ++ points ∷ [] in (
      paths,
      subst (λ (ts : List Json). AllZip (SpellsArc relative) ts paths) (sym more_is) (all_zipped_more (SpellsArc relative) parts s.0 tree points s.1 spelled),
      subst (λ (ls : List (List Point)). AllZip IsThinned paths ls) (sym next_is) (all_zipped_more IsThinned s.0 thins points thin s.2 thinned),
    )

pub arc_broken : (relative : Bool) (parts before : List Json) (tree : Json) (after : List Json) (thins : List (List Point)) (at : ℕ) (f : TopoFault) → AreArcs relative before thins → parts ≡ before ++ tree ∷ after → length before ≡ at
    → UnlessMemory f (BreaksArc relative at tree f) → UnlessMemory f (IsArcFault relative parts f)
arc_broken relative parts before tree after thins at f s cut here =
    unless f (BreaksArc relative at tree f) (IsArcFault relative parts f)
    (λ broken. record { before = before; tree = tree; after = after; arcs = s.0; parts_are = cut; right = s.1; broken = subst (λ (n : ℕ). BreaksArc relative n tree f) (sym here) broken })
