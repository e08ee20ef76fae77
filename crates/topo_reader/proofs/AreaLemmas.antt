-- What reading the rings of a geometry answers.
use Rattle.std.proofs.Common.{◌≡◌, ◌∙◌, ◌<◌, ◌≤◌, ◌+◌, ◌-◌, ◌^◌, refl, sym, ap, ap₂, subst, inl, inr, ℕ, true, false, List, [], ◌∷◌, ◌++◌, length, flat_map, arith, Result, Ok, Err}
use Rattle.std.specs.Prelude.{Vec, IfOk, IfErr, IsErrAnd}
use Rattle.std.specs.declared.alloc.Global.{Global}
use Rattle.std.specs.List.{AllByRecursion, AllZip}
use Rattle.std.proofs.lemmas.List.{length-append, length-map}
use Rattle.std.proofs.lemmas.List.Sums.{sum_by-cons}
use Rattle.agg_base.specs.Lists.{lists_of}
use Rattle.agg_base.specs.declared.limits.TheConstants.{AREAS, STEPS, TEXT_BYTES}
use Rattle.agg_base.specs.declared.numeral.Whole.{Whole}
use Rattle.json_text.proofs.Cases.{by_cases_of, false_true}
use Rattle.json_text.specs.Tree.{Json}
use Rattle.map_values.specs.Classes.{HasClass}
use Rattle.map_values.specs.Measured.{IsMeasured, HaveManySteps}
use Rattle.plane_edge.specs.Paths.{points_along}
use Rattle.plane_edge.specs.Rings.{Area, steps_of_ring}
use Rattle.plane_edge.specs.declared.frame.Limit.TheVariants.{Areas, Edges}
use Rattle.plane_edge.specs.declared.point.Point.{Point}
use Rattle.topo_reader.specs.Indexes.{ring_numbers, AreInRange, are_indexes, paths_told, CanClose, ring_steps, all_steps, rings_along}
use Rattle.topo_reader.specs.PlaceFaults.{HasRings, BreaksPlace, IsAreaBehind}
use Rattle.topo_reader.specs.RingRules.{BreaksRings, IsAreaOf, ForRings}
use Rattle.topo_reader.specs.Rules.{UnlessMemory}
use Rattle.topo_reader.specs.Thinned.{IsThinned, ForArcs}
use Rattle.topo_reader.specs.declared.fault.TopoFault.{TopoFault}
use Rattle.topo_reader.specs.declared.fault.TopoFault.TheVariants.{NotTopology, NoObject, BadArc, NotWhole, NotPolygonal, NoClass, BadIndex, OpenRing, Limit, Memory}
use Rattle.topo_reader.proofs.ExactPlaces.{area_behind}
use Rattle.topo_reader.proofs.IndexLemmas.{AreRingAnswers, all_true, true_all, rings_indexes, rings_true, rings_closed, rings_close}
use Rattle.topo_reader.proofs.ThinLemmas.{zip_count, close_thin, close_thick, thin_ring, ring_count}

pub unless : (f : TopoFault) (P Q : Type 0) → (P → Q) → UnlessMemory f P → UnlessMemory f Q
unless Memory P Q follows s = s
unless NotTopology P Q follows s = follows s
unless NoObject P Q follows s = follows s
unless (BadArc arc) P Q follows s = follows s
unless (NotWhole arc) P Q follows s = follows s
unless (NotPolygonal place) P Q follows s = follows s
unless (NoClass place) P Q follows s = follows s
unless (BadIndex place) P Q follows s = follows s
unless (OpenRing place) P Q follows s = follows s
unless (Limit limit) P Q follows s = follows s

-- a fault that is err_from on
pub err_from : {T : Type 0} (r : Result T TopoFault) (f : TopoFault) (P : TopoFault → Type 0) → IsErrAnd r (λ g. g ≡ f) → P f → IfErr r P
err_from (Ok x) f P e p = tt
err_from (Err g) f P e p = subst P (sym e) p

pub err_weaker : {T : Type 0} (r : Result T TopoFault) (P Q : TopoFault → Type 0) → ((f : TopoFault) → P f → Q f) → IfErr r P → IfErr r Q
err_weaker (Ok x) P Q follows h = tt
err_weaker (Err f) P Q follows h = follows f h

pub ok_weaker : {T : Type 0} (r : Result T TopoFault) (P Q : T → Type 0) → ((x : T) → P x → Q x) → IfOk r P → IfOk r Q
ok_weaker (Ok x) P Q follows h = follows x h
ok_weaker (Err f) P Q follows h = tt

-- ---- the rings along thinned arcs

all_thick : (arcs thins : List (List Point)) → AllZip IsThinned arcs thins → (rings : List (List Whole)) → AllByRecursion (CanClose thins) rings → AllByRecursion (CanClose arcs) rings
all_thick arcs thins s [] all = tt
all_thick arcs thins s (r ∷ rs) all = (close_thick arcs thins s r all.0, all_thick arcs thins s rs all.1)

all_thin : (arcs thins : List (List Point)) → AllZip IsThinned arcs thins → (rings : List (List Whole)) → AllByRecursion (CanClose arcs) rings → AllByRecursion (CanClose thins) rings
all_thin arcs thins s [] all = tt
all_thin arcs thins s (r ∷ rs) all = (close_thin arcs thins s r all.0, all_thin arcs thins s rs all.1)

same_steps : (arcs thins : List (List Point)) → AllZip IsThinned arcs thins → (rings : List (List Whole)) → AllByRecursion (CanClose arcs) rings
    → flat_map steps_of_ring (rings_along thins rings) ≡ flat_map steps_of_ring (rings_along arcs rings)
same_steps arcs thins s [] all = refl
same_steps arcs thins s (r ∷ rs) all = ap₂ (λ (a b : List (Point × Point)). a ++ b) (thin_ring arcs thins s r all.0) (same_steps arcs thins s rs all.1)

step_total : (arcs thins : List (List Point)) → AllZip IsThinned arcs thins → (rings : List (List Whole)) → AllByRecursion (CanClose arcs) rings
    → length (flat_map steps_of_ring (rings_along arcs rings)) ≡ all_steps thins rings
step_total arcs thins s [] all = refl
step_total arcs thins s (r ∷ rs) all =
    length-append (steps_of_ring (points_along (paths_told arcs r))) (flat_map steps_of_ring (rings_along arcs rs))
    ∙ ap₂ (λ (m n : ℕ). m + n) (ring_count arcs thins s r all.0) (step_total arcs thins s rs all.1)
    ∙ sym (sum_by-cons (ring_steps thins) r rs)

in_range : (arcs thins : List (List Point)) → AllZip IsThinned arcs thins → (rings : List (List Whole)) → are_indexes (length thins) rings ≡ true → are_indexes (length arcs) rings ≡ true
in_range arcs thins s rings is = subst (λ (n : ℕ). are_indexes n rings ≡ true) (sym (zip_count IsThinned arcs thins s)) is

-- ---- the rules of rings

-- that holds of all arcs that are thinned to these, and of all texts of rings that spell these
abbrev pub ForAnswers : List (List Point) → List (List Whole) → (List (List Point) → List (List (List ℕ)) → Type 0) → Type 0
ForAnswers thins rings P = (arcs : List (List Point)) (texts : List (List (List ℕ))) → AllZip IsThinned arcs thins → AreRingAnswers texts rings → P arcs texts

pub index_fault : (thins : List (List Point)) (rings : List (List Whole)) (at steps : ℕ) → length thins < 2 ^ 63 → are_indexes (length thins) rings ≡ false → ForAnswers thins rings (λ arcs texts. BreaksRings arcs at steps texts (BadIndex at))
index_fault thins rings at steps few other arcs texts s answers =
    let same = zip_count IsThinned arcs thins s in
    let short : length arcs < 2 ^ 63 = subst (λ (n : ℕ). n < 2 ^ 63) (sym same) few in
    inl (λ indexes. false_true (sym other ∙ subst (λ (n : ℕ). are_indexes n rings ≡ true) same (rings_true arcs texts rings short answers indexes)), refl)

pub open_fault : (thins : List (List Point)) (rings : List (List Whole)) (at steps : ℕ) → length thins < 2 ^ 63 → are_indexes (length thins) rings ≡ true → ¬ AllByRecursion (CanClose thins) rings
    → ForAnswers thins rings (λ arcs texts. BreaksRings arcs at steps texts (OpenRing at))
open_fault thins rings at steps few is other arcs texts s answers =
    let short : length arcs < 2 ^ 63 = subst (λ (n : ℕ). n < 2 ^ 63) (sym (zip_count IsThinned arcs thins s)) few in
    inr (rings_indexes arcs texts rings answers (in_range arcs thins s rings is), inl (λ points closed. other (all_thin arcs thins s rings (rings_close arcs texts rings points short answers closed)), refl))

many_steps : (arcs thins : List (List Point)) (rings : List (List Whole)) (at steps : ℕ) (texts : List (List (List ℕ))) → AllZip IsThinned arcs thins → AreRingAnswers texts rings → are_indexes (length thins) rings ≡ true
    → AllByRecursion (CanClose thins) rings → HaveManySteps (rings_along arcs rings) steps → BreaksRings arcs at steps texts (Limit Edges)
many_steps arcs thins rings at steps texts s answers is all many =
    let within = in_range arcs thins s rings is in
    inr (rings_indexes arcs texts rings answers within, inr (rings_along arcs rings, rings_closed arcs texts rings answers within (all_thick arcs thins s rings all), (refl, many)))

-- more steps than are left
pub many_fault : (thins : List (List Point)) (rings : List (List Whole)) (at steps : ℕ) → are_indexes (length thins) rings ≡ true → AllByRecursion (CanClose thins) rings → steps ≤ STEPS → ¬ (all_steps thins rings ≤ STEPS - steps)
    → ForAnswers thins rings (λ arcs texts. BreaksRings arcs at steps texts (Limit Edges))
many_fault thins rings at steps is all few many arcs texts s answers =
    let total = step_total arcs thins s rings (all_thick arcs thins s rings all) in
    let more : STEPS - steps < all_steps thins rings = omega (arith, many) in
    many_steps arcs thins rings at steps texts s answers is all (omega (arith, total, more, few))

-- more steps than there may be, of the points along thinned arcs
pub long_fault : (thins : List (List Point)) (rings : List (List Whole)) (at steps : ℕ) → are_indexes (length thins) rings ≡ true → AllByRecursion (CanClose thins) rings → HaveManySteps (rings_along thins rings) steps
    → ForAnswers thins rings (λ arcs texts. BreaksRings arcs at steps texts (Limit Edges))
long_fault thins rings at steps is all many arcs texts s answers =
    many_steps arcs thins rings at steps texts s answers is all (subst (λ (ds : List (Point × Point)). STEPS < steps + length ds) (same_steps arcs thins s rings (all_thick arcs thins s rings all)) many)

pub area_found : (thins : List (List Point)) (rings : List (List Whole)) (class : List ℕ) (steps : ℕ) (area : Area) → are_indexes (length thins) rings ≡ true → AllByRecursion (CanClose thins) rings → IsMeasured class (rings_along thins rings) steps area
    → ForAnswers thins rings (λ arcs texts. IsAreaOf arcs class steps texts area)
area_found thins rings class steps area is all measured arcs texts s answers =
    let within = in_range arcs thins s rings is in
    let thick = all_thick arcs thins s rings all in
    record {
      points = rings_along arcs rings;
      indexes = rings_indexes arcs texts rings answers within;
      closed = rings_closed arcs texts rings answers within thick;
      measured = record { class_is = measured.class_is; steps_are = measured.steps_are ∙ same_steps arcs thins s rings thick; few = measured.few };
    }

-- points of the same steps
pub long_as : (points along : List (List Point)) (steps : ℕ) → flat_map steps_of_ring points ≡ flat_map steps_of_ring along → HaveManySteps points steps → HaveManySteps along steps
long_as points along steps same many = subst (λ (ds : List (Point × Point)). STEPS < steps + length ds) same many

pub measured_as : (class : List ℕ) (points along : List (List Point)) (steps : ℕ) (area : Area) → flat_map steps_of_ring points ≡ flat_map steps_of_ring along → IsMeasured class points steps area → IsMeasured class along steps area
measured_as class points along steps area same m = record { class_is = m.class_is; steps_are = m.steps_are ∙ same; few = m.few }

-- ---- the rules of a geometry

pub no_rings : (thins : List (List Point)) (name : List ℕ) (at count steps : ℕ) (tree : Json) → ((texts : List (List (List ℕ))) → ¬ HasRings tree texts) → ForArcs thins (λ arcs. BreaksPlace arcs name at count steps tree (NotPolygonal at))
no_rings thins name at count steps tree none arcs s = inl (none, refl)

pub many_areas : (thins : List (List Point)) (name : List ℕ) (at count steps : ℕ) (tree : Json) (texts : List (List (List ℕ))) → HasRings tree texts → AREAS ≤ count → ForArcs thins (λ arcs. BreaksPlace arcs name at count steps tree (Limit Areas))
many_areas thins name at count steps tree texts has many arcs s = inr (texts, has, inl (λ few. omega (arith, few, many), refl))

pub no_class : (thins : List (List Point)) (name : List ℕ) (at count steps : ℕ) (tree : Json) (texts : List (List (List ℕ))) → HasRings tree texts → count < AREAS → ((class : List ℕ) → ¬ HasClass tree name class)
    → ForArcs thins (λ arcs. BreaksPlace arcs name at count steps tree (NoClass at))
no_class thins name at count steps tree texts has room none arcs s = inr (texts, has, inr (room, inl (none, refl)))

pub rings_fault : (thins : List (List Point)) (rings : List (List Json)) (name class : List ℕ) (at count steps : ℕ) (tree : Json) (texts : List (List (List ℕ))) (f : TopoFault) → HasRings tree texts → rings ≡ ring_numbers texts → count < AREAS
    → HasClass tree name class → UnlessMemory f (ForRings thins rings (λ arcs texts. BreaksRings arcs at steps texts f)) → UnlessMemory f (ForArcs thins (λ arcs. BreaksPlace arcs name at count steps tree f))
rings_fault thins rings name class at count steps tree texts f has numbers room is =
    unless f (ForRings thins rings (λ arcs texts. BreaksRings arcs at steps texts f)) (ForArcs thins (λ arcs. BreaksPlace arcs name at count steps tree f))
    (λ broken arcs s. inr (texts, has, inr (room, inr (class, is, broken arcs texts s numbers))))

pub place_found : (thins : List (List Point)) (rings : List (List Json)) (name class : List ℕ) (count steps : ℕ) (tree : Json) (texts : List (List (List ℕ))) (area : Area) → HasRings tree texts → rings ≡ ring_numbers texts → count < AREAS
    → HasClass tree name class → ForRings thins rings (λ arcs texts. IsAreaOf arcs class steps texts area) → ForArcs thins (λ arcs. IsAreaBehind arcs name count steps tree area)
place_found thins rings name class count steps tree texts area has numbers room is found arcs s =
    let one = found arcs texts s numbers in
    area_behind arcs name count steps tree area (texts, has, (room, (class, is, (one.indexes, (one.points, one.closed, one.measured)))))

-- ---- vectors of arcs

pub few_lists : (arcs : List (Vec Point Global)) → length arcs ≤ TEXT_BYTES → length (lists_of arcs) < 2 ^ 63
few_lists arcs few = let same = length-map arcs (λ (v : Vec Point Global). v.items) in omega arith

pub all_within : (arcs : List (Vec Point Global)) (rings : List (List Whole)) → AllByRecursion (AreInRange (length arcs)) rings → are_indexes (length (lists_of arcs)) rings ≡ true
all_within arcs rings all = ap (λ (n : ℕ). are_indexes n rings) (length-map arcs (λ (v : Vec Point Global). v.items)) ∙ all_true (length arcs) rings all

pub some_out_of_range : (arcs : List (Vec Point Global)) (rings : List (List Whole)) → ¬ AllByRecursion (AreInRange (length arcs)) rings → are_indexes (length (lists_of arcs)) rings ≡ false
some_out_of_range arcs rings other =
    ap (λ (n : ℕ). are_indexes n rings) (length-map arcs (λ (v : Vec Point Global). v.items))
    ∙ by_cases_of (are_indexes (length arcs) rings) (are_indexes (length arcs) rings ≡ false) (λ is. absurd (other (true_all (length arcs) rings is))) (λ is. is)
