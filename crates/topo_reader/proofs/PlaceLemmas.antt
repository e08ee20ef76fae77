-- Geometries that were read so far.
use Rattle.std.proofs.Common.{◌≡◌, ◌∙◌, ◌<◌, ◌≤◌, ◌+◌, refl, sym, ap, subst, ℕ, Bool, true, false, List, [], ◌∷◌, ◌++◌, length, cond, arith}
use Rattle.std.specs.Prelude.{count_by}
use Rattle.std.proofs.lemmas.List.{length_push}
use Rattle.std.proofs.lemmas.List.Sums.{sum_by_push, count_by-le-length}
use Rattle.agg_base.specs.declared.limits.TheConstants.{AREAS, STEPS}
use Rattle.json_text.specs.Tree.{Json}
use Rattle.plane_edge.proofs.EvenLists.{count-append, count-cons}
use Rattle.plane_edge.specs.Rings.{Area, step_count}
use Rattle.plane_edge.specs.declared.point.Point.{Point}
use Rattle.topo_reader.specs.PlaceFaults.{BreaksPlace, IsAreaBehind, SpellAreas, IsPlaceFault}
use Rattle.topo_reader.specs.Rules.{UnlessMemory}
use Rattle.topo_reader.specs.Thinned.{ForArcs}
use Rattle.topo_reader.specs.Topology.{is_passed}
use Rattle.topo_reader.specs.declared.fault.TopoFault.{TopoFault}
use Rattle.topo_reader.proofs.AreaLemmas.{unless}
use Rattle.topo_reader.proofs.PlaceLists.{areas_passed, areas_pushed}

pub record HasRead (thins : List (List Point)) (name : List ℕ) (places : List Json) (areas : List Area) (steps passed : ℕ) : Type 0 where
  pub found : ForArcs thins (λ arcs. SpellAreas arcs name places areas)
  pub few_areas : length areas ≤ AREAS
  pub steps_are : steps ≡ step_count areas
  pub few_steps : steps ≤ STEPS
  pub passed_is : passed ≡ count_by is_passed places

pub read_none : (thins : List (List Point)) (name : List ℕ) → HasRead thins name [] [] 0 0
read_none thins name = record {
  found = λ arcs s. record { each = tt; few_areas = omega arith; few_steps = omega arith };
  few_areas = omega arith;
  steps_are = refl;
  few_steps = omega arith;
  passed_is = refl;
}

count_more : (places : List Json) (tree : Json) (b : Bool) → is_passed tree ≡ b → count_by is_passed (places ++ tree ∷ []) ≡ count_by is_passed places + (cond b 1 0 + 0)
count_more places tree b is =
    count-append is_passed places (tree ∷ []) ∙ ap (λ (n : ℕ). count_by is_passed places + n) (count-cons is_passed tree [] ∙ ap (λ (c : Bool). cond c 1 0 + 0) is)

-- a geometry that is passed over
pub read_passed : (thins : List (List Point)) (name : List ℕ) (places : List Json) (areas : List Area) (steps passed : ℕ) (tree : Json) → HasRead thins name places areas steps passed → is_passed tree ≡ true
    → HasRead thins name (places ++ tree ∷ []) areas steps (passed + 1)
read_passed thins name places areas steps passed tree s is = record {
  found = λ arcs t. areas_passed arcs name places areas tree (s.found arcs t) is;
  few_areas = s.few_areas;
  steps_are = s.steps_are;
  few_steps = s.few_steps;
  passed_is = (let count = count_more places tree true is in let before = s.passed_is in omega arith);
}

-- a geometry that is an area
pub read_area : (thins : List (List Point)) (name : List ℕ) (places : List Json) (areas : List Area) (steps passed : ℕ) (tree : Json) (area : Area) → HasRead thins name places areas steps passed → is_passed tree ≡ false
    → ForArcs thins (λ arcs. IsAreaBehind arcs name (length areas) steps tree area) → length areas < AREAS → steps + length area.steps ≤ STEPS → HasRead thins name (places ++ tree ∷ []) (areas ++ area ∷ []) (steps + length area.steps) passed
read_area thins name places areas steps passed tree area s is found room few = record {
  found = λ arcs t. areas_pushed arcs name places areas tree area (s.found arcs t) is (subst (λ (n : ℕ). IsAreaBehind arcs name (length areas) n tree area) s.steps_are (found arcs t));
  few_areas = (let more = length_push areas area in omega arith);
  steps_are = ap (λ (n : ℕ). n + length area.steps) s.steps_are ∙ sym (sum_by_push (λ a. length a.steps) areas area);
  few_steps = few;
  passed_is = (let count = count_more places tree false is in let before = s.passed_is in omega arith);
}

pub few_passed : (thins : List (List Point)) (name : List ℕ) (places : List Json) (areas : List Area) (steps passed : ℕ) → HasRead thins name places areas steps passed → passed ≤ length places
few_passed thins name places areas steps passed s = let count = count_by-le-length is_passed places in let is = s.passed_is in omega arith

-- a geometry that breaks a rule
pub read_fault : (thins : List (List Point)) (name : List ℕ) (places before : List Json) (tree : Json) (after : List Json) (areas : List Area) (steps passed at : ℕ) (f : TopoFault) → HasRead thins name before areas steps passed → places ≡ before ++ tree ∷ after
    → length before ≡ at → is_passed tree ≡ false → UnlessMemory f (ForArcs thins (λ arcs. BreaksPlace arcs name at (length areas) steps tree f)) → UnlessMemory f (ForArcs thins (λ arcs. IsPlaceFault arcs name places f))
read_fault thins name places before tree after areas steps passed at f s cut here is =
    unless f (ForArcs thins (λ arcs. BreaksPlace arcs name at (length areas) steps tree f)) (ForArcs thins (λ arcs. IsPlaceFault arcs name places f))
    (λ broken arcs t. record {
      before = before;
      tree = tree;
      after = after;
      areas = areas;
      places_are = cut;
      right = s.found arcs t;
      counted = is;
      broken = subst (λ (n : ℕ). BreaksPlace arcs name (length before) (length areas) n tree f) s.steps_are
          (subst (λ (n : ℕ). BreaksPlace arcs name n (length areas) steps tree f) (sym here) (broken arcs t));
    })

-- ---- the next geometry

pub passed_next : (thins : List (List Point)) (name : List ℕ) (places more : List Json) (areas : List Area) (steps passed : ℕ) (tree : Json) → HasRead thins name places areas steps passed → true ≡ is_passed tree → more ≡ places ++ tree ∷ []
    → HasRead thins name more areas steps (passed + 1)
passed_next thins name places more areas steps passed tree s is more_is =
    subst (λ (ts : List Json). HasRead thins name ts areas steps (passed + 1)) (sym more_is) (read_passed thins name places areas steps passed tree s (sym is))

pub area_next : (thins : List (List Point)) (name : List ℕ) (places more : List Json) (areas new : List Area) (steps count next passed : ℕ) (tree : Json) (area : Area) → HasRead thins name places areas steps passed → false ≡ is_passed tree
    → count ≡ length areas → ForArcs thins (λ arcs. IsAreaBehind arcs name count steps tree area) → count < AREAS → steps + length area.steps ≤ STEPS → more ≡ places ++ tree ∷ [] → new ≡ areas ++ area ∷ []
    → next ≡ steps + length area.steps → HasRead thins name more new next passed
area_next thins name places more areas new steps count next passed tree area s is count_is found room few more_is new_is next_is =
    let behind = subst (λ (n : ℕ). ForArcs thins (λ arcs. IsAreaBehind arcs name n steps tree area)) count_is found in
    let low = subst (λ (n : ℕ). n < AREAS) count_is room in
    let pushed = read_area thins name places areas steps passed tree area s (sym is) behind low few in
    subst (λ (ts : List Json). HasRead thins name ts new next passed) (sym more_is)
    (subst (λ (bs : List Area). HasRead thins name (places ++ tree ∷ []) bs next passed) (sym new_is)
    (subst (λ (n : ℕ). HasRead thins name (places ++ tree ∷ []) (areas ++ area ∷ []) n passed) (sym next_is) pushed))

pub counted_fault : (thins : List (List Point)) (name : List ℕ) (areas : List Area) (at count steps : ℕ) (tree : Json) (f : TopoFault) → count ≡ length areas → UnlessMemory f (ForArcs thins (λ arcs. BreaksPlace arcs name at count steps tree f))
    → UnlessMemory f (ForArcs thins (λ arcs. BreaksPlace arcs name at (length areas) steps tree f))
counted_fault thins name areas at count steps tree f is = subst (λ (n : ℕ). UnlessMemory f (ForArcs thins (λ arcs. BreaksPlace arcs name at n steps tree f))) is
