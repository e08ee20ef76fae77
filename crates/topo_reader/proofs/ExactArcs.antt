-- Arcs break one rule first, or are read.
use Rattle.std.proofs.Common.{◌≡◌, ◌∙◌, ◌⊎◌, ◌≤◌, ◌<◌, inl, inr, refl, sym, ap, subst, ℕ, Bool, if◌then◌else◌, List, [], ◌∷◌, ◌++◌, length, arith, ℤ, pos, ◌+ℤ◌}
use Rattle.std.specs.Prelude.{nat_le}
use Rattle.std.specs.List.{AllByRecursion, AllZip}
use Rattle.std.proofs.lemmas.Bool.Decides.{nat_tests}
use Rattle.std.proofs.lemmas.Slice.Zip.{all_zipped_more}
use Rattle.json_text.proofs.Cases.{by_cases_of}
use Rattle.json_text.specs.Tree.{Json}
use Rattle.map_values.proofs.Values.{one_array}
use Rattle.map_values.proofs.Unique.{zip_one, one_position}
use Rattle.plane_edge.specs.Coordinate.{IsCoordinate}
use Rattle.plane_edge.specs.declared.frame.Limit.TheVariants.{Coordinate}
use Rattle.plane_edge.specs.declared.point.Point.{Point}
use Rattle.topo_reader.specs.Arcs.{SpellsPoint, SpellPoints, SpellsArc}
use Rattle.topo_reader.specs.ArcFaults.{HasNumbers, HasWholeNumbers, IsArc, IsFar, HasFar, IsPastLimit, BreaksArc, IsArcFault}
use Rattle.topo_reader.specs.Rules.{Unless}
use Rattle.topo_reader.specs.declared.fault.TopoFault.{TopoFault}
use Rattle.topo_reader.specs.declared.fault.TopoFault.TheVariants.{BadArc, NotWhole, Limit}
use Rattle.map_values.proofs.Decided.{Decided, all_or, list_or, numbers_or, position_or, coordinate_or}
use Rattle.topo_reader.proofs.Exact.{Exact, IsOne, decision, exact_as, exact_some, exact_unless}
use Rattle.topo_reader.proofs.ExactLists.{AtItem, AreSteps, exact_list}
use Rattle.topo_reader.proofs.OneLayer.{one_point, one_arc}

-- ---- the form of an arc

abbrev FormOr : Json → Type 0
FormOr tree = Decided ((positions : List Json) × IsArc tree positions)

long_or : (n : ℕ) → Decided (2 ≤ n)
long_or n = by_cases_of (nat_le 2 n) _ (λ e. inl (grind (arith, nat_tests))) (λ e. inr (λ h. (let low : n < 2 = grind (arith, nat_tests) in omega arith)))

arc_form_or : (tree : Json) → FormOr tree
arc_form_or tree = elim (list_or tree) as (λ _. FormOr tree) [
  | inl is ↦ elim (long_or (length is.0)) as (λ _. FormOr tree) [
    | inl long ↦ elim (all_or HasNumbers numbers_or is.0) as (λ _. FormOr tree) [
      | inl each ↦ inl (is.0, record { list = is.1; long = long; each = each })
      | inr other ↦ inr (λ s. other (subst (λ (zs : List Json). AllByRecursion HasNumbers zs) (one_array tree s.0 is.0 s.1.list is.1) s.1.each))
    ]
    | inr short ↦ inr (λ s. short (subst (λ (zs : List Json). 2 ≤ length zs) (one_array tree s.0 is.0 s.1.list is.1) s.1.long))
  ]
  | inr other ↦ inr (λ s. other (s.0, s.1.list))
]

one_form : (tree : Json) → IsOne (List Json) (IsArc tree)
one_form tree a b s t = one_array tree a b s.list t.list

-- ---- points

abbrev PointsOr : Bool → ℤ → ℤ → List Json → Type 0
PointsOr relative x y trees = ((ps : List Point) × SpellPoints relative x y trees ps) ⊎ HasFar relative x y trees

point_or : (x y : ℤ) (tree : Json) → HasWholeNumbers tree → ((p : Point) × SpellsPoint x y tree p) ⊎ IsFar x y tree
point_or x y tree whole = go (coordinate_or (x +ℤ whole.0)) (coordinate_or (y +ℤ whole.1))
  where
    go : Decided (IsCoordinate (x +ℤ whole.0)) → Decided (IsCoordinate (y +ℤ whole.1)) → ((p : Point) × SpellsPoint x y tree p) ⊎ IsFar x y tree
    go (inl h) (inl k) = inl (record { x = x +ℤ whole.0; y = y +ℤ whole.1; x_in_range = h; y_in_range = k }, record { dx = whole.0; dy = whole.1; position = whole.2; x_is = refl; y_is = refl })
    go (inr none) k = inr (record { dx = whole.0; dy = whole.1; position = whole.2; beyond = λ s. none s.0 })
    go (inl h) (inr none) = inr (record { dx = whole.0; dy = whole.1; position = whole.2; beyond = λ s. none s.1 })

points_more : (relative : Bool) (x y : ℤ) (tree : Json) (trees : List Json) (p : Point) → SpellsPoint x y tree p
    → PointsOr relative (if relative then p.x else pos 0) (if relative then p.y else pos 0) trees → PointsOr relative x y (tree ∷ trees)
points_more relative x y tree trees p here (inl more) = inl (p ∷ more.0, (here, more.1))
points_more relative x y tree trees p here (inr far) = inr (inr (p, here, far))

points_or : (relative : Bool) (x y : ℤ) (trees : List Json) → AllByRecursion HasWholeNumbers trees → PointsOr relative x y trees
points_or relative x y [] whole = inl ([], tt)
points_or relative x y (tree ∷ trees) whole = elim (point_or x y tree whole.0) as (λ _. PointsOr relative x y (tree ∷ trees)) [
  | inl here ↦ points_more relative x y tree trees here.0 here.1 (points_or relative (if relative then here.0.x else pos 0) (if relative then here.0.y else pos 0) trees whole.1)
  | inr far ↦ inr (inl far)
]

not_far : (x y : ℤ) (tree : Json) (p : Point) → SpellsPoint x y tree p → ¬ IsFar x y tree
not_far x y tree p s far =
    let same = one_position tree s.dx s.dy far.dx far.dy s.position far.position in
    let across = subst IsCoordinate (s.x_is ∙ ap (λ (d : ℤ). x +ℤ d) same.0) p.x_in_range in
    let up = subst IsCoordinate (s.y_is ∙ ap (λ (d : ℤ). y +ℤ d) same.1) p.y_in_range in
    far.beyond (across, up)

none_far : (relative : Bool) (x y : ℤ) (trees : List Json) (ps : List Point) → SpellPoints relative x y trees ps → ¬ HasFar relative x y trees
none_far relative x y [] ps s far = far
none_far relative x y (tree ∷ trees) [] s far = s
none_far relative x y (tree ∷ trees) (p ∷ ps) s (inl far) = not_far x y tree p s.0 far
none_far relative x y (tree ∷ trees) (p ∷ ps) s (inr later) =
    let same : later.0 ≡ p = one_point x y tree later.0 p later.1 s.0 in
    none_far relative (if relative then p.x else pos 0) (if relative then p.y else pos 0) trees ps s.1
    (subst (λ (q : Point). HasFar relative (if relative then q.x else pos 0) (if relative then q.y else pos 0) trees) same later.2)

-- ---- one arc

exact_points : (relative : Bool) (positions : List Json) → AllByRecursion HasWholeNumbers positions → Exact (List Point) (SpellPoints relative (pos 0) (pos 0) positions) (IsPastLimit relative positions)
exact_points relative positions whole = record {
  some = go (points_or relative (pos 0) (pos 0) positions whole);
  apart = λ ps f good bad. none_far relative (pos 0) (pos 0) positions ps good bad.1;
  one = λ f g a b. a.0 ∙ sym b.0;
}
  where
    go : PointsOr relative (pos 0) (pos 0) positions → ((ps : List Point) × SpellPoints relative (pos 0) (pos 0) positions ps) ⊎ ((f : TopoFault) × IsPastLimit relative positions f)
    go (inl is) = inl is
    go (inr far) = inr (Limit Coordinate, (refl, far))

abbrev ArcParts : Bool → Json → List Point → Type 0
ArcParts relative tree points = (positions : List Json) × IsArc tree positions × (AllByRecursion HasWholeNumbers positions × SpellPoints relative (pos 0) (pos 0) positions points)

arc_of : (relative : Bool) (tree : Json) (points : List Point) → ArcParts relative tree points → SpellsArc relative tree points
arc_of relative tree points s = record { positions = s.0; list = s.1.list; long = s.1.long; points = s.2.1 }

have_numbers : (relative : Bool) (x y : ℤ) (trees : List Json) (ps : List Point) → SpellPoints relative x y trees ps → AllByRecursion HasNumbers trees × AllByRecursion HasWholeNumbers trees
have_numbers relative x y [] ps s = (tt, tt)
have_numbers relative x y (tree ∷ trees) [] s = absurd s
have_numbers relative x y (tree ∷ trees) (p ∷ ps) s =
    let position = s.0.position in
    let more = have_numbers relative (if relative then p.x else pos 0) (if relative then p.y else pos 0) trees ps s.1 in
    (((position.first, position.second, record { more = position.more; list = position.list }), more.0), ((s.0.dx, s.0.dy, position), more.1))

parts_of : (relative : Bool) (tree : Json) (points : List Point) → SpellsArc relative tree points → ArcParts relative tree points
parts_of relative tree points s =
    let numbers = have_numbers relative (pos 0) (pos 0) s.positions points s.points in
    (s.positions, record { list = s.list; long = s.long; each = numbers.0 }, (numbers.1, s.points))

pub exact_arc : (relative : Bool) (at : ℕ) (tree : Json) → Exact (List Point) (SpellsArc relative tree) (BreaksArc relative at tree)
exact_arc relative at tree =
    exact_as (List Point) (ArcParts relative tree) (SpellsArc relative tree) (BreaksArc relative at tree) (arc_of relative tree) (parts_of relative tree)
    (exact_some (List Json) (IsArc tree) (BadArc at) (List Point) (λ positions points. AllByRecursion HasWholeNumbers positions × SpellPoints relative (pos 0) (pos 0) positions points)
    (λ positions. Unless (AllByRecursion HasWholeNumbers positions) (NotWhole at) (IsPastLimit relative positions)) (decision (List Json) (IsArc tree) (arc_form_or tree)) (one_form tree)
    (λ positions form. exact_unless (AllByRecursion HasWholeNumbers positions) (NotWhole at) (List Point) (SpellPoints relative (pos 0) (pos 0) positions) (IsPastLimit relative positions)
    (all_or HasWholeNumbers position_or positions) (λ whole. exact_points relative positions whole)))

-- ---- all arcs

abbrev pub BreaksBehind : Bool → List Json → List (List Point) → Json → TopoFault → Type 0
BreaksBehind relative before arcs tree fault = BreaksArc relative (length before) tree fault

abbrev pub ReadArcs : Bool → List Json → List (List Point) → Type 0
ReadArcs relative = AllZip (SpellsArc relative)

-- partners of the first part of a list
pub zip_back : {X Y : Type 0} (R : X → Y → Type 0) (xs zs : List X) (ys : List Y) → AllZip R (xs ++ zs) ys → (ws : List Y) × AllZip R xs ws
zip_back R [] zs ys s = ([], tt)
zip_back R (x ∷ xs) zs [] s = absurd s
zip_back R (x ∷ xs) zs (y ∷ ys) s = let more = zip_back R xs zs ys s.1 in (y ∷ more.0, (s.0, more.1))

-- the partner of the last
pub zip_last : {X Y : Type 0} (R : X → Y → Type 0) (xs : List X) (x : X) (ys : List Y) → AllZip R (xs ++ x ∷ []) ys → (y : Y) × R x y
zip_last R [] x [] s = absurd s
zip_last R [] x (y ∷ ys) s = (y, s.0)
zip_last R (w ∷ xs) x [] s = absurd s
zip_last R (w ∷ xs) x (y ∷ ys) s = zip_last R xs x ys s.1

next_arc : (relative : Bool) (before : List Json) (arcs : List (List Point)) (tree : Json) → ReadArcs relative before arcs
    → ((arc : List Point) × SpellsArc relative tree arc) ⊎ ((f : TopoFault) × BreaksArc relative (length before) tree f)
    → ((more : List (List Point)) × ReadArcs relative (before ++ tree ∷ []) more) ⊎ ((f : TopoFault) × BreaksBehind relative before arcs tree f)
next_arc relative before arcs tree right (inl arc) = inl (arcs ++ arc.0 ∷ [], all_zipped_more (SpellsArc relative) before arcs tree arc.0 right arc.1)
next_arc relative before arcs tree right (inr bad) = inr bad

arc_steps : (relative : Bool) → AreSteps Json (List (List Point)) (ReadArcs relative) (BreaksBehind relative)
arc_steps relative = record {
  begin = ([], tt);
  next = λ before arcs tree right. next_arc relative before arcs tree right ((exact_arc relative (length before) tree).some);
  back = λ before after arcs right. zip_back (SpellsArc relative) before after arcs right;
  same = λ parts. zip_one (SpellsArc relative) (one_arc relative) parts;
  apart = λ before arcs more tree f right longer broken. (let last = zip_last (SpellsArc relative) before tree more longer in (exact_arc relative (length before) tree).apart last.0 f last.1 broken);
  one = λ before arcs tree f g right a b. (exact_arc relative (length before) tree).one f g a b;
}

fault_of : (relative : Bool) (parts : List Json) (f : TopoFault) → AtItem Json (List (List Point)) (ReadArcs relative) (BreaksBehind relative) parts f → IsArcFault relative parts f
fault_of relative parts f a = record { before = a.before; tree = a.item; after = a.after; arcs = a.state; parts_are = a.parts; right = a.right; broken = a.broken }

item_of : (relative : Bool) (parts : List Json) (f : TopoFault) → IsArcFault relative parts f → AtItem Json (List (List Point)) (ReadArcs relative) (BreaksBehind relative) parts f
item_of relative parts f a = record { before = a.before; item = a.tree; after = a.after; state = a.arcs; parts = a.parts_are; right = a.right; broken = a.broken }

pub exact_arcs : (relative : Bool) (parts : List Json) → Exact (List (List Point)) (AllZip (SpellsArc relative) parts) (IsArcFault relative parts)
exact_arcs relative parts = exact_fault (exact_list Json (List (List Point)) (ReadArcs relative) (BreaksBehind relative) (arc_steps relative) parts)
  where
    some_fault : ((arcs : List (List Point)) × ReadArcs relative parts arcs) ⊎ ((f : TopoFault) × AtItem Json (List (List Point)) (ReadArcs relative) (BreaksBehind relative) parts f)
        → ((arcs : List (List Point)) × ReadArcs relative parts arcs) ⊎ ((f : TopoFault) × IsArcFault relative parts f)
    some_fault (inl good) = inl good
    some_fault (inr bad) = inr (bad.0, fault_of relative parts bad.0 bad.1)

    exact_fault : Exact (List (List Point)) (ReadArcs relative parts) (AtItem Json (List (List Point)) (ReadArcs relative) (BreaksBehind relative) parts) → Exact (List (List Point)) (ReadArcs relative parts) (IsArcFault relative parts)
    exact_fault e = record {
      some = some_fault e.some;
      apart = λ arcs f good bad. e.apart arcs f good (item_of relative parts f bad);
      one = λ f g a b. e.one f g (item_of relative parts f a) (item_of relative parts g b);
    }
