-- The loop over features.
use Rattle.std.proofs.Common.{◌≡◌, ◌∙◌, refl, sym, ap, subst, ℕ, ◌+◌, ◌<◌, ◌≤◌, Bool, true, false, List, [], ◌∷◌, ◌++◌, length, take, drop, get_or, arith, cond}
use Rattle.std.specs.Prelude.{count_by}
use Rattle.std.proofs.lemmas.List.{length-map, map-append, length-take, length-take-le, take-append-drop, take_all, drop_more}
use Rattle.agg_base.specs.declared.limits.TheConstants.{STEPS}
use Rattle.std.proofs.lemmas.List.Sums.{sum_by-append, sum_by-cons, count_by-le-length}
use Rattle.json_text.specs.Tree.{Json}
use Rattle.json_text.specs.Values.{json_of, list_of}
use Rattle.json_text.specs.declared.tree.Tree.{Tree}
use Rattle.plane_edge.specs.Rings.{Area, step_count}
use Rattle.geo_reader.specs.Features.{IsFeature, is_passed}
use Rattle.geo_reader.specs.Adds.{AddsArea}
use Rattle.geo_reader.specs.Collections.{SpellAreas}
use Rattle.geo_reader.specs.Faults.{FailsAtFeature}
use Rattle.geo_reader.specs.Held.{HasRead}
use Rattle.geo_reader.specs.Outcomes.{UnlessMemory}
use Rattle.geo_reader.specs.Rules.{BreaksFirst}
use Rattle.geo_reader.specs.declared.fault.GeoFault.{GeoFault}
use Rattle.geo_reader.proofs.LoopLemmas.{one_more}
use Rattle.geo_reader.proofs.OneArea.{with_rings_not_passed}
use Rattle.geo_reader.proofs.Parts.{no_areas, passed_more, area_more}
use Rattle.geo_reader.proofs.ReaderLemmas.{unless}

-- one more is counted, or is not
count_yes : (p : Json → Bool) (xs : List Json) (x : Json) → p x ≡ true → count_by p (xs ++ x ∷ []) ≡ count_by p xs + 1
count_yes p xs x is =
    let total = sum_by-append (λ (y : Json). cond {A = ℕ} (p y) 1 0) xs (x ∷ []) in
    let last = sum_by-cons (λ (y : Json). cond {A = ℕ} (p y) 1 0) x [] in
    let one : cond {A = ℕ} (p x) 1 0 ≡ 1 = ap (λ (b : Bool). cond {A = ℕ} b 1 0) is in
    omega arith

count_no : (p : Json → Bool) (xs : List Json) (x : Json) → p x ≡ false → count_by p (xs ++ x ∷ []) ≡ count_by p xs
count_no p xs x is =
    let total = sum_by-append (λ (y : Json). cond {A = ℕ} (p y) 1 0) xs (x ∷ []) in
    let last = sum_by-cons (λ (y : Json). cond {A = ℕ} (p y) 1 0) x [] in
    let none : cond {A = ℕ} (p x) 1 0 ≡ 0 = ap (λ (b : Bool). cond {A = ℕ} b 1 0) is in
    omega arith

count_front : (features : List Tree) (i : ℕ) → i ≤ length features → length (list_of (take i features)) ≡ i
count_front features i inside = length-map (take i features) json_of ∙ length-take-le i features inside

cut_at : (features : List Tree) (i : ℕ) (tree : Tree) → i < length features → tree ≡ get_or features i tree → features ≡ take i features ++ tree ∷ drop (i + 1) features
cut_at features i tree inside is =
    sym (take-append-drop i features) ∙ ap (λ (rest : List Tree). take i features ++ rest) (drop_more features i tree inside ∙ ap (λ (t : Tree). t ∷ drop (i + 1) features) (sym is))

pub read_none : (name : List ℕ) → HasRead name [] [] 0 0
read_none name = record { areas_are = no_areas name; steps_are = refl; passed_are = refl }

all_steps : (areas : List Area) (area : Area) (steps together : ℕ) → together ≡ steps + length area.steps → steps ≡ step_count areas → together ≡ step_count (areas ++ area ∷ [])
all_steps areas area steps together is before =
    let total = sum_by-append (λ (a : Area). length a.steps) areas (area ∷ []) in
    let last = sum_by-cons (λ (a : Area). length a.steps) area [] in omega arith

pub read_passed : (name : List ℕ) (features : List Tree) (i : ℕ) (tree : Tree) (areas : List Area) (steps passed : ℕ) → i < length features → tree ≡ get_or features i tree → HasRead name (list_of (take i features)) areas steps passed
    → IsFeature (json_of tree) × (is_passed (json_of tree) ≡ true) → HasRead name (list_of (take (i + 1) features)) areas steps (passed + 1)
read_passed name features i tree areas steps passed inside is s last =
    let same = one_more features i tree inside is in
    record {
      areas_are = subst (λ (values : List Json). SpellAreas name values areas) (sym same) (passed_more name (list_of (take i features)) areas (json_of tree) s.areas_are last.0 last.1);
      steps_are = s.steps_are;
      passed_are = ap (λ (n : ℕ). n + 1) s.passed_are ∙ sym (count_yes is_passed (list_of (take i features)) (json_of tree) last.1) ∙ ap (λ (values : List Json). count_by is_passed values) (sym same);
    }

-- one more area, which is the last of those now
pub read_area : (name : List ℕ) (features : List Tree) (i : ℕ) (tree : Tree) (areas grown : List Area) (area : Area) (steps passed count together : ℕ) → i < length features → tree ≡ get_or features i tree
    → HasRead name (list_of (take i features)) areas steps passed → count ≡ length areas → AddsArea name count steps (json_of tree) area → grown ≡ areas ++ area ∷ [] → together ≡ steps + length area.steps
    → HasRead name (list_of (take (i + 1) features)) grown together passed
read_area name features i tree areas grown area steps passed count together inside is s count_is adds grown_is together_is =
    let same = one_more features i tree inside is in
    let there = with_rings_not_passed (json_of tree) adds.spelled.positions adds.spelled.geometry in
    let added : AddsArea name (length areas) (step_count areas) (json_of tree) area
    = subst (λ (n : ℕ). AddsArea name (length areas) n (json_of tree) area) s.steps_are (subst (λ (n : ℕ). AddsArea name n steps (json_of tree) area) count_is adds) in
    subst (λ (areas : List Area). HasRead name (list_of (take (i + 1) features)) areas together passed) (sym grown_is) (record {
      areas_are = subst (λ (values : List Json). SpellAreas name values (areas ++ area ∷ [])) (sym same) (area_more name (list_of (take i features)) areas (json_of tree) area s.areas_are added);
      steps_are = all_steps areas area steps together together_is s.steps_are;
      passed_are = s.passed_are ∙ sym (count_no is_passed (list_of (take i features)) (json_of tree) there) ∙ ap (λ (values : List Json). count_by is_passed values) (sym same);
    })

-- no more are passed over than there are features
pub passed_within : (name : List ℕ) (features : List Tree) (i : ℕ) (areas : List Area) (steps passed : ℕ) → HasRead name (list_of (take i features)) areas steps passed → passed ≤ length features
passed_within name features i areas steps passed s =
    let most = count_by-le-length is_passed (list_of (take i features)) in
    let count = length-map (take i features) json_of in
    let front = length-take i features in
    let is = s.passed_are in omega arith

-- the steps so far are within the limit
pub few_steps_read : (name : List ℕ) (features : List Json) (areas : List Area) (steps passed : ℕ) → HasRead name features areas steps passed → steps ≤ STEPS
few_steps_read name features areas steps passed s = let few = s.areas_are.few_steps in let is = s.steps_are in omega arith

-- all features are read
pub read_all : (name : List ℕ) (features : List Tree) (i : ℕ) (areas : List Area) (steps passed : ℕ) → length features ≤ i → HasRead name (list_of (take i features)) areas steps passed → HasRead name (list_of features) areas steps passed
read_all name features i areas steps passed over s = subst (λ (front : List Tree). HasRead name (list_of front) areas steps passed) (take_all i features over) s

fails_here : (name : List ℕ) (features : List Tree) (i : ℕ) (tree : Tree) (areas : List Area) (steps passed : ℕ) (f : GeoFault) → i < length features → tree ≡ get_or features i tree → HasRead name (list_of (take i features)) areas steps passed
    → BreaksFirst name (length areas) steps i (json_of tree) f → FailsAtFeature name (list_of features) f
fails_here name features i tree areas steps passed f inside is s broken = record {
  before = list_of (take i features);
  feature = json_of tree;
  after = list_of (drop (i + 1) features);
  areas = areas;
  parts = ap list_of (cut_at features i tree inside is) ∙ map-append json_of (take i features) (tree ∷ drop (i + 1) features);
  spelled = s.areas_are;
  broken = subst (λ (n : ℕ). BreaksFirst name (length areas) n (length (list_of (take i features))) (json_of tree) f) s.steps_are
      (subst (λ (n : ℕ). BreaksFirst name (length areas) steps n (json_of tree) f) (sym (count_front features i (omega (arith, inside)))) broken);
}

pub fails_at : (name : List ℕ) (features : List Tree) (i : ℕ) (tree : Tree) (areas : List Area) (steps passed count : ℕ) (f : GeoFault) → i < length features → tree ≡ get_or features i tree → HasRead name (list_of (take i features)) areas steps passed
    → count ≡ length areas → UnlessMemory f (BreaksFirst name count steps i (json_of tree) f) → UnlessMemory f (FailsAtFeature name (list_of features) f)
fails_at name features i tree areas steps passed count f inside is s count_is =
    unless f (BreaksFirst name count steps i (json_of tree) f) (FailsAtFeature name (list_of features) f)
    (λ broken. fails_here name features i tree areas steps passed f inside is s (subst (λ (n : ℕ). BreaksFirst name n steps i (json_of tree) f) count_is broken))
