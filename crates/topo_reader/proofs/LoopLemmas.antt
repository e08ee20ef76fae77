-- The paths of rings, one index and one ring at a time.
use Rattle.std.proofs.Common.{◌≡◌, ◌∙◌, ◌<◌, ◌≤◌, ◌+◌, ◌-◌, ◌&&◌, min, refl, sym, ap, ap₂, subst, ℕ, zero, suc, Bool, true, false, List, [], ◌∷◌, ◌++◌, length, flat_map, take, drop, reverse, get_or, arith, append-nil, append_assoc, IsTrue, ◌↔◌}
use Rattle.std.specs.Prelude.{Option, Some, None, Vec, IfSome, IfNone}
use Rattle.std.specs.declared.alloc.Global.{Global}
use Rattle.std.specs.List.{AllByRecursion, list_all}
use Rattle.std.proofs.Math.Seq.{drop-cons, take-append_seam}
use Rattle.std.proofs.lemmas.List.{flat_map_more, length_push, take_all, get_or-take, reverse-append, reverse-reverse}
use Rattle.std.proofs.lemmas.List.Folds.{list_all_more}
use Rattle.std.proofs.lemmas.List.Sums.{sum_by_more, sum_by_more_le, sum_by-cons}
use Rattle.agg_base.specs.Lists.{lists_of}
use Rattle.agg_base.specs.declared.limits.TheConstants.{STEPS}
use Rattle.agg_base.specs.declared.numeral.Whole.{Whole}
use Rattle.map_values.proofs.Values.{some_same}
use Rattle.json_text.proofs.Cases.{false_true}
use Rattle.plane_edge.proofs.OrderLemmas.{same_points_equal, same_point_itself}
use Rattle.plane_edge.specs.Edges.{is_same_point}
use Rattle.plane_edge.specs.Paths.{first_of, last_of, AreJoined, points_along}
use Rattle.plane_edge.specs.Rings.{step_between, steps_of_ring}
use Rattle.plane_edge.specs.declared.point.Point.{Point}
use Rattle.topo_reader.specs.Indexes.{is_index, AreInRange, path_told, paths_told, begin_of, front_of, CanClose, ring_steps, all_steps, rings_along}
use Rattle.topo_reader.proofs.IndexLemmas.{both}
use Rattle.topo_reader.proofs.PathLemmas.{last_some, joined_push, joined_at, joined_same}
use Rattle.topo_reader.proofs.StepLemmas.{no_step}
use Rattle.topo_reader.proofs.TreeLists.{all_push, all_inside, taken_more, taken_at, mapped_more, mapped_at, mapped_all, pushed_lists}

-- ---- whether a ring closes

no_begin : (paths : List (List Point)) → begin_of paths ≡ None → ¬ ((0 < length paths) × ((b : Point) × AreJoined (Some b) paths (Some b)))
no_begin [] is c = let some = c.0 in absurd (omega arith)
no_begin (p ∷ ps) is c = let never : None ≡ Some c.1.0 = sym is ∙ c.1.1.0 in cc

pub begins_nowhere : (arcs : List (List Point)) (ring : List Whole) → begin_of (paths_told arcs ring) ≡ None → ¬ CanClose arcs ring
begins_nowhere arcs ring is c = no_begin (paths_told arcs ring) is c

closed_from : (paths : List (List Point)) (b : Point) → begin_of paths ≡ Some b → (0 < length paths) × ((b : Point) × AreJoined (Some b) paths (Some b)) → AreJoined (Some b) paths (Some b)
closed_from [] b is c = absurd (let never : None ≡ Some b = is in cc)
closed_from (p ∷ ps) b is c = subst (λ (q : Point). AreJoined (Some q) (p ∷ ps) (Some q)) (some_same c.1.0 b (sym c.1.1.0 ∙ is)) c.1.1

some_paths : (paths : List (List Point)) (b : Point) → begin_of paths ≡ Some b → 0 < length paths
some_paths [] b is = absurd (let never : None ≡ Some b = is in cc)
some_paths (p ∷ ps) b is = omega arith

pub close_more : (arcs : List (List Point)) (ring : List Whole) (i : ℕ) (w : Whole) (b at to : Point) → i < length ring → w ≡ get_or ring i w → AreJoined (Some b) (paths_told arcs (take i ring)) (Some at)
    → first_of (path_told arcs w) ≡ Some at → last_of (path_told arcs w) ≡ Some to → AreJoined (Some b) (paths_told arcs (take (i + 1) ring)) (Some to)
close_more arcs ring i w b at to low is joined first last =
    subst (λ (ps : List (List Point)). AreJoined (Some b) ps (Some to)) (sym (mapped_more (path_told arcs) ring i w low is)) (joined_push (Some b) (Some at) (Some to) (paths_told arcs (take i ring)) (path_told arcs w) joined first last)

pub open_at : (arcs : List (List Point)) (ring : List Whole) (i : ℕ) (w : Whole) (b at : Point) → i < length ring → w ≡ get_or ring i w → begin_of (paths_told arcs ring) ≡ Some b → AreJoined (Some b) (paths_told arcs (take i ring)) (Some at)
    → ¬ (first_of (path_told arcs w) ≡ Some at) → ¬ CanClose arcs ring
open_at arcs ring i w b at low is begin joined other c =
    let whole = subst (λ (ps : List (List Point)). AreJoined (Some b) ps (Some b)) (mapped_at (path_told arcs) ring i w low is) (closed_from (paths_told arcs ring) b begin c) in
    other (joined_at (Some b) (Some at) (Some b) (paths_told arcs (take i ring)) (path_told arcs w) (paths_told arcs (drop (i + 1) ring)) joined whole)

pub closes : (arcs : List (List Point)) (ring : List Whole) (i : ℕ) (b at : Point) → length ring ≤ i → begin_of (paths_told arcs ring) ≡ Some b → AreJoined (Some b) (paths_told arcs (take i ring)) (Some at) → (at ≡ b) ↔ CanClose arcs ring
closes arcs ring i b at long begin joined = (
  λ same. (some_paths (paths_told arcs ring) b begin, (b, subst (λ (q : Point). AreJoined (Some b) (paths_told arcs ring) (Some q)) same whole)),
  λ c. some_same at b (joined_same (Some b) (Some at) (Some b) (paths_told arcs ring) whole (closed_from (paths_told arcs ring) b begin c)),
)
  where
    whole : AreJoined (Some b) (paths_told arcs ring) (Some at)
    whole = subst (λ (ps : List (List Point)). AreJoined (Some b) ps (Some at)) (mapped_all (path_told arcs) ring i long) joined

-- ---- where a ring begins

pub begin_nowhere : (arcs : List (List Point)) (ring : List Whole) → length ring ≤ 0 → begin_of (paths_told arcs ring) ≡ None
begin_nowhere arcs [] none = refl
begin_nowhere arcs (w ∷ ws) none = absurd (omega arith)

pub begin_there : (arcs : List (List Point)) (ring : List Whole) (w : Whole) → 0 < length ring → w ≡ get_or ring 0 w → first_of (path_told arcs w) ≡ begin_of (paths_told arcs ring)
begin_there arcs [] w some is = absurd (omega arith)
begin_there arcs (v ∷ vs) w some is = ap (λ (u : Whole). first_of (path_told arcs u)) is

-- ---- indexes in range

all_true_at : (p : Whole → Bool) (ring : List Whole) (i : ℕ) (w : Whole) → i < length ring → list_all p ring ≡ true → p (get_or ring i w) ≡ true
all_true_at p [] i w low all = absurd (omega arith)
all_true_at p (v ∷ vs) zero w low all = (both (p v) (list_all p vs) all).0
all_true_at p (v ∷ vs) (suc i) w low all = all_true_at p vs i w (omega arith) (both (p v) (list_all p vs) all).1

pub range_there : (count : ℕ) (ring : List Whole) (i : ℕ) (w : Whole) → i < length ring → w ≡ get_or ring i w → AreInRange count ring → is_index count w ≡ true
range_there count ring i w low is all = ap (λ (v : Whole). is_index count v) is ∙ all_true_at (λ index. is_index count index) ring i w low all

pub range_more : (count : ℕ) (ring : List Whole) (i : ℕ) (w : Whole) → i < length ring → w ≡ get_or ring i w → AreInRange count (take i ring) → is_index count w ≡ true → AreInRange count (take (i + 1) ring)
range_more count ring i w low is all here =
    list_all_more (λ index. is_index count index) ring i w low ∙ ap₂ (λ (a b : Bool). a && b) all (ap (λ (v : Whole). is_index count v) (sym is) ∙ here)

pub range_done : (count : ℕ) (ring : List Whole) (i : ℕ) → length ring ≤ i → AreInRange count (take i ring) → AreInRange count ring
range_done count ring i long all = ap (λ (ws : List Whole). list_all (λ index. is_index count index) ws) (sym (take_all i ring long)) ∙ all

-- ---- what holds of all

pub all_more : {X : Type 0} (P : X → Type 0) (xs : List X) (i : ℕ) (x : X) → i < length xs → x ≡ get_or xs i x → AllByRecursion P (take i xs) → P x → AllByRecursion P (take (i + 1) xs)
all_more {X} P xs i x low is all here = subst (λ (ys : List X). AllByRecursion P ys) (sym (taken_more xs i x low is)) (all_push P (take i xs) x all here)

pub all_there : {X : Type 0} (P : X → Type 0) (xs : List X) (i : ℕ) (x : X) → i < length xs → x ≡ get_or xs i x → AllByRecursion P xs → P x
all_there {X} P xs i x low is all = all_inside P (take i xs) x (drop (i + 1) xs) (subst (λ (ys : List X). AllByRecursion P ys) (taken_at xs i x low is) all)

pub all_done : {X : Type 0} (P : X → Type 0) (xs : List X) (i : ℕ) → length xs ≤ i → AllByRecursion P (take i xs) → AllByRecursion P xs
all_done {X} P xs i long all = subst (λ (ys : List X). AllByRecursion P ys) (take_all i xs long) all

-- ---- steps

abbrev steps_told : List (List Point) → Whole → ℕ
steps_told arcs index = length (path_told arcs index) - 1

pub steps_more : (arcs : List (List Point)) (ring : List Whole) (i : ℕ) (w : Whole) → i < length ring → w ≡ get_or ring i w → ring_steps arcs (take (i + 1) ring) ≡ ring_steps arcs (take i ring) + (length (path_told arcs w) - 1)
steps_more arcs ring i w low is = sum_by_more (steps_told arcs) ring i w low ∙ ap (λ (v : Whole). ring_steps arcs (take i ring) + steps_told arcs v) (sym is)

pub steps_within : (arcs : List (List Point)) (ring : List Whole) (i : ℕ) (w : Whole) → i < length ring → w ≡ get_or ring i w → ring_steps arcs (take i ring) + (length (path_told arcs w) - 1) ≤ ring_steps arcs ring
steps_within arcs ring i w low is = subst (λ (v : Whole). ring_steps arcs (take i ring) + steps_told arcs v ≤ ring_steps arcs ring) (sym is) (sum_by_more_le (steps_told arcs) ring i w low)

pub steps_done : (arcs : List (List Point)) (ring : List Whole) (i : ℕ) → length ring ≤ i → ring_steps arcs (take i ring) ≡ ring_steps arcs ring
steps_done arcs ring i long = ap (λ (ws : List Whole). ring_steps arcs ws) (take_all i ring long)

pub total_more : (arcs : List (List Point)) (rings : List (List Whole)) (i : ℕ) (ring : List Whole) → i < length rings → ring ≡ get_or rings i ring → all_steps arcs (take (i + 1) rings) ≡ all_steps arcs (take i rings) + ring_steps arcs ring
total_more arcs rings i ring low is = sum_by_more (ring_steps arcs) rings i ring low ∙ ap (λ (r : List Whole). all_steps arcs (take i rings) + ring_steps arcs r) (sym is)

pub total_within : (arcs : List (List Point)) (rings : List (List Whole)) (i : ℕ) (ring : List Whole) → i < length rings → ring ≡ get_or rings i ring → all_steps arcs (take i rings) + ring_steps arcs ring ≤ all_steps arcs rings
total_within arcs rings i ring low is = subst (λ (r : List Whole). all_steps arcs (take i rings) + ring_steps arcs r ≤ all_steps arcs rings) (sym is) (sum_by_more_le (ring_steps arcs) rings i ring low)

pub total_done : (arcs : List (List Point)) (rings : List (List Whole)) (i : ℕ) → length rings ≤ i → all_steps arcs (take i rings) ≡ all_steps arcs rings
total_done arcs rings i long = ap (λ (rs : List (List Whole)). all_steps arcs rs) (take_all i rings long)

-- ---- points

pub none_of_few : (steps : ℕ) → min STEPS steps ≡ 0 → steps ≡ 0
none_of_few steps none = omega arith

-- the steps of a ring along its paths
abbrev pub steps_along : List (List Point) → List Whole → List (Point × Point)
steps_along arcs ring = steps_of_ring (points_along (paths_told arcs ring))

rests_none : (arcs : List (List Point)) (ring : List Whole) → ring_steps arcs ring ≡ 0 → flat_map (drop 1) (paths_told arcs ring) ≡ []
rests_none arcs [] none = refl
rests_none arcs (w ∷ ws) none =
    let total : ring_steps arcs (w ∷ ws) ≡ (length (path_told arcs w) - 1) + ring_steps arcs ws = sum_by-cons (steps_told arcs) w ws in
    ap₂ (λ (xs ys : List Point). xs ++ ys) (drop_rest (path_told arcs w) (omega arith)) (rests_none arcs ws (omega arith))
  where
    drop_rest : (path : List Point) → length path - 1 ≡ 0 → drop 1 path ≡ []
    drop_rest [] short = refl
    drop_rest (p ∷ []) short = refl
    drop_rest (p ∷ q ∷ qs) short = absurd (omega arith)

alone_none : (path : List Point) → length path - 1 ≡ 0 → steps_of_ring path ≡ []
alone_none [] short = refl
alone_none (p ∷ []) short = append-nil (step_between p p) ∙ no_step p
alone_none (p ∷ q ∷ qs) short = absurd (omega arith)

-- a ring whose paths have no steps has none
pub no_steps : (arcs : List (List Point)) (ring : List Whole) → ring_steps arcs ring ≡ 0 → steps_along arcs ring ≡ []
no_steps arcs [] none = refl
no_steps arcs (w ∷ ws) none =
    let total : ring_steps arcs (w ∷ ws) ≡ (length (path_told arcs w) - 1) + ring_steps arcs ws = sum_by-cons (steps_told arcs) w ws in
    ap (λ (rest : List Point). steps_of_ring (path_told arcs w ++ rest)) (rests_none arcs ws (omega arith))
    ∙ ap (λ (ps : List Point). steps_of_ring ps) (append-nil (path_told arcs w)) ∙ alone_none (path_told arcs w) (omega arith)

-- all steps are those of the rings, one after another
along_is : (arcs : List (List Point)) (rings : List (List Whole)) → flat_map steps_of_ring (rings_along arcs rings) ≡ flat_map (steps_along arcs) rings
along_is arcs [] = refl
along_is arcs (r ∷ rs) = ap (λ (ss : List (Point × Point)). steps_along arcs r ++ ss) (along_is arcs rs)

along_more : (arcs : List (List Point)) (rings : List (List Whole)) (i : ℕ) (ring : List Whole) → i < length rings → ring ≡ get_or rings i ring
    → flat_map steps_of_ring (rings_along arcs (take (i + 1) rings)) ≡ flat_map steps_of_ring (rings_along arcs (take i rings)) ++ steps_along arcs ring
along_more arcs rings i ring low is =
    ap (λ (rs : List (List Whole)). flat_map steps_of_ring (rings_along arcs rs)) (taken_more rings i ring low is)
    ∙ along_is arcs (take i rings ++ ring ∷ []) ∙ sym (flat_map_more (steps_along arcs) [] (take i rings) ring)
    ∙ ap (λ (ss : List (Point × Point)). ss ++ steps_along arcs ring) (sym (along_is arcs (take i rings)))

pub points_more : (arcs : List (List Point)) (rings : List (List Whole)) (i : ℕ) (ring : List Whole) (all next : List (Vec Point Global)) (points : Vec Point Global) → i < length rings → ring ≡ get_or rings i ring
    → flat_map steps_of_ring (lists_of all) ≡ flat_map steps_of_ring (rings_along arcs (take i rings)) → points.items ≡ points_along (paths_told arcs ring) → next ≡ all ++ points ∷ []
    → flat_map steps_of_ring (lists_of next) ≡ flat_map steps_of_ring (rings_along arcs (take (i + 1) rings))
points_more arcs rings i ring all next points low is all_are points_are next_is =
    ap (λ (ls : List (List Point)). flat_map steps_of_ring ls) (pushed_lists all next points next_is)
    ∙ sym (flat_map_more steps_of_ring [] (lists_of all) points.items)
    ∙ ap₂ (λ (ss : List (Point × Point)) (ps : List Point). ss ++ steps_of_ring ps) all_are points_are
    ∙ sym (along_more arcs rings i ring low is)

pub points_less : (arcs : List (List Point)) (rings : List (List Whole)) (i : ℕ) (ring : List Whole) (all : List (Vec Point Global)) → i < length rings → ring ≡ get_or rings i ring
    → flat_map steps_of_ring (lists_of all) ≡ flat_map steps_of_ring (rings_along arcs (take i rings)) → ring_steps arcs ring ≡ 0 → flat_map steps_of_ring (lists_of all) ≡ flat_map steps_of_ring (rings_along arcs (take (i + 1) rings))
points_less arcs rings i ring all low is all_are none =
    all_are ∙ sym (append-nil (flat_map steps_of_ring (rings_along arcs (take i rings))))
    ∙ ap (λ (ss : List (Point × Point)). flat_map steps_of_ring (rings_along arcs (take i rings)) ++ ss) (sym (no_steps arcs ring none))
    ∙ sym (along_more arcs rings i ring low is)

pub points_done : (arcs : List (List Point)) (rings : List (List Whole)) (i : ℕ) → length rings ≤ i → flat_map steps_of_ring (rings_along arcs (take i rings)) ≡ flat_map steps_of_ring (rings_along arcs rings)
points_done arcs rings i long = ap (λ (rs : List (List Whole)). flat_map steps_of_ring (rings_along arcs rs)) (take_all i rings long)

pub ring_more : (arcs : List (List Point)) (ring : List Whole) (i : ℕ) (w : Whole) (front points next : List Point) → i < length ring → w ≡ get_or ring i w → points ≡ front ++ flat_map (drop 1) (paths_told arcs (take i ring))
    → next ≡ points ++ drop 1 (path_told arcs w) → next ≡ front ++ flat_map (drop 1) (paths_told arcs (take (i + 1) ring))
ring_more arcs ring i w front points next low is points_are next_is =
    next_is
    ∙ ap (λ (ps : List Point). ps ++ drop 1 (path_told arcs w)) points_are
    ∙ flat_map_more (drop 1) front (paths_told arcs (take i ring)) (path_told arcs w)
    ∙ ap (λ (ps : List (List Point)). front ++ flat_map (drop 1) ps) (sym (mapped_more (path_told arcs) ring i w low is))

whole_ring : (paths : List (List Point)) → front_of paths ++ flat_map (drop 1) paths ≡ points_along paths
whole_ring [] = refl
whole_ring ([] ∷ ps) = refl
whole_ring ((p ∷ path) ∷ ps) = refl

pub ring_done : (arcs : List (List Point)) (ring : List Whole) (i : ℕ) → length ring ≤ i → front_of (paths_told arcs ring) ++ flat_map (drop 1) (paths_told arcs (take i ring)) ≡ points_along (paths_told arcs ring)
ring_done arcs ring i long = ap (λ (ps : List (List Point)). front_of (paths_told arcs ring) ++ flat_map (drop 1) ps) (mapped_all (path_told arcs) ring i long) ∙ whole_ring (paths_told arcs ring)

pub front_nothing : (paths : List (List Point)) → begin_of paths ≡ None → front_of paths ≡ []
front_nothing [] is = refl
front_nothing ([] ∷ ps) is = refl
front_nothing ((p ∷ path) ∷ ps) is = absurd (let never : Some p ≡ None = is in cc)

pub front_point : (paths : List (List Point)) (b : Point) → begin_of paths ≡ Some b → front_of paths ≡ b ∷ []
front_point [] b is = absurd (let never : None ≡ Some b = is in cc)
front_point ([] ∷ ps) b is = absurd (let never : None ≡ Some b = is in cc)
front_point ((p ∷ path) ∷ ps) b is = ap (λ (q : Point). q ∷ []) (some_same p b is)

-- ---- backwards

cons_back : (p : Point) (ps : List Point) → reverse (p ∷ ps) ≡ reverse ps ++ p ∷ []
cons_back p ps = reverse-append (p ∷ []) ps

back_rest : (r : List Point) → reverse (take (length (reverse r) - 1) (reverse r)) ≡ drop 1 r
back_rest [] = refl
back_rest (y ∷ ys) =
    let long : length (reverse ys ++ y ∷ []) - 1 ≡ length (reverse ys) = ap (λ (n : ℕ). n - 1) (length_push (reverse ys) y) ∙ omega arith in
    ap (λ (xs : List Point). reverse (take (length xs - 1) xs)) (cons_back y ys)
    ∙ ap (λ (n : ℕ). reverse (take n (reverse ys ++ y ∷ []))) long
    ∙ ap (λ (xs : List Point). reverse xs) (take-append_seam (reverse ys) (y ∷ []))
    ∙ reverse-reverse ys

-- all but the last point, backwards
pub back_done : (arc : List Point) → reverse (take (length arc - 1) arc) ≡ drop 1 (reverse arc)
back_done arc = sym (ap (λ (xs : List Point). reverse (take (length xs - 1) xs)) (reverse-reverse arc)) ∙ back_rest (reverse arc)

pub back_more : (arc before points next : List Point) (n : ℕ) (p : Point) → 0 < n → n ≤ length arc - 1 → p ≡ get_or arc (n - 1) p → length (take (length arc - 1) arc) ≡ length arc - 1
    → points ≡ before ++ reverse (drop n (take (length arc - 1) arc)) → next ≡ points ++ p ∷ [] → next ≡ before ++ reverse (drop (n - 1) (take (length arc - 1) arc))
back_more arc before points next n p some low is count points_are next_is =
    let rest = take (length arc - 1) arc in
    let place : suc (n - 1) ≡ n = omega arith in
    let cut : drop (n - 1) rest ≡ p ∷ drop n rest =
    drop-cons rest (n - 1) p (omega arith)
    ∙ ap (λ (q : Point). q ∷ drop (suc (n - 1)) rest) (get_or-take (length arc - 1) arc (n - 1) p (omega arith) ∙ sym is)
    ∙ ap (λ (k : ℕ). p ∷ drop k rest) place in
    next_is
    ∙ ap (λ (ps : List Point). ps ++ p ∷ []) points_are
    ∙ append_assoc before (reverse (drop n rest)) (p ∷ [])
    ∙ ap (λ (ps : List Point). before ++ ps) (sym (ap (λ (ps : List Point). reverse ps) cut ∙ cons_back p (drop n rest)))

pub back_end : (arc before points : List Point) (n : ℕ) → n ≡ 0 → points ≡ before ++ reverse (drop n (take (length arc - 1) arc)) → points ≡ before ++ drop 1 (reverse arc)
back_end arc before points n none is =
    is ∙ ap (λ (k : ℕ). before ++ reverse (drop k (take (length arc - 1) arc))) none ∙ ap (λ (ps : List Point). before ++ ps) (back_done arc)

-- ---- one step round a ring

pub end_some : (o : Option Point) (path : List Point) (from at : Point) → o ≡ last_of path → Some from ≡ first_of path → true ≡ is_same_point from at → IfSome o (λ to. (first_of path ≡ Some at) × (last_of path ≡ Some to))
end_some None path from at last first same = tt
end_some (Some to) path from at last first same = (sym first ∙ ap (λ (p : Point). Some p) (same_points_equal from at (sym same)), sym last)

pub end_none : (o : Option Point) (path : List Point) (from at : Point) → o ≡ last_of path → Some from ≡ first_of path → IfNone o (¬ (first_of path ≡ Some at))
end_none None path from at last first = λ is. (let end = last_some path from (sym first) in let never : None ≡ Some end.0 = last ∙ end.1 in cc)
end_none (Some to) path from at last first = tt

pub other_begin : (path : List Point) (from at : Point) → Some from ≡ first_of path → false ≡ is_same_point from at → ¬ (first_of path ≡ Some at)
other_begin path from at first other is = false_true (other ∙ subst (λ (p : Point). is_same_point from p ≡ true) (some_same from at (first ∙ is)) (same_point_itself from))

pub closes_where : (arcs : List (List Point)) (ring : List Whole) (i : ℕ) (b at : Point) (r : Bool) → length ring ≤ i → begin_of (paths_told arcs ring) ≡ Some b → AreJoined (Some b) (paths_told arcs (take i ring)) (Some at)
    → r ≡ is_same_point at b → IsTrue r ↔ CanClose arcs ring
closes_where arcs ring i b at true long begin joined is = (λ yes. (closes arcs ring i b at long begin joined).0 (same_points_equal at b (sym is)), λ c. refl)
closes_where arcs ring i b at false long begin joined is =
    (λ never. false_true never, λ c. false_true (is ∙ subst (λ (p : Point). is_same_point at p ≡ true) ((closes arcs ring i b at long begin joined).1 c) (same_point_itself at)))
