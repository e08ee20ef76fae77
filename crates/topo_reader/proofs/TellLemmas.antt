-- The arc that an index tells, in its own order or backwards.
use Rattle.std.proofs.Common.{◌≡◌, ◌∙◌, nat_lt, refl, sym, ap, ℕ, Bool, true, false, List, [], length, drop, reverse, ℤ}
use Rattle.std.specs.Prelude.{Option, Some, None, Vec, slice_get, unwrap_or}
use Rattle.std.specs.Option.{option_map}
use Rattle.std.specs.declared.alloc.Global.{Global}
use Rattle.std.proofs.lemmas.List.{length-reverse}
use Rattle.std.proofs.lemmas.Option.{slice_get-map}
use Rattle.agg_base.specs.Lists.{lists_of}
use Rattle.agg_base.specs.declared.numeral.Whole.TheVariants.{Is}
use Rattle.plane_edge.specs.Paths.{first_of, last_of}
use Rattle.plane_edge.specs.declared.point.Point.{Point}
use Rattle.topo_reader.specs.Indexes.{is_index, index_of, in_direction, arc_number, path_told}
use Rattle.topo_reader.proofs.PathLemmas.{first_reverse, last_reverse}

below_is : (forward : Bool) (i count : ℕ) → is_index count (Is (index_of forward i)) ≡ nat_lt i count
below_is true i count = refl
below_is false i count = refl

pub index_below : (index : ℤ) (forward : Bool) (i count : ℕ) → index ≡ index_of forward i → nat_lt i count ≡ is_index count (Is index)
index_below index forward i count is = sym (ap (λ (n : ℤ). is_index count (Is n)) is ∙ below_is forward i count)

told_is : (arcs : List (List Point)) (forward : Bool) (i : ℕ) → path_told arcs (Is (index_of forward i)) ≡ in_direction forward (arc_number arcs i)
told_is arcs true i = refl
told_is arcs false i = refl

pub index_told : (arcs : List (List Point)) (index : ℤ) (forward : Bool) (i : ℕ) (points : List Point) → index ≡ index_of forward i → points ≡ arc_number arcs i → path_told arcs (Is index) ≡ in_direction forward points
index_told arcs index forward i points is points_are =
    ap (λ (n : ℤ). path_told arcs (Is n)) is ∙ told_is arcs forward i ∙ ap (λ (ps : List Point). in_direction forward ps) (sym points_are)

-- the arc that a slice of vectors has in that place
pub arc_there : (arcs : List (Vec Point Global)) (i : ℕ) (arc : Vec Point Global) → slice_get arcs i ≡ Some arc → arc.items ≡ arc_number (lists_of arcs) i
arc_there arcs i arc is =
    sym (ap (λ (o : Option (List Point)). unwrap_or o []) (slice_get-map (λ (v : Vec Point Global). v.items) arcs i ∙ ap (λ (o : Option (Vec Point Global)). option_map (λ v. v.items) o) is))

pub arc_absent : (arcs : List (Vec Point Global)) (i : ℕ) → slice_get arcs i ≡ None → [] ≡ arc_number (lists_of arcs) i
arc_absent arcs i is =
    sym (ap (λ (o : Option (List Point)). unwrap_or o []) (slice_get-map (λ (v : Vec Point Global). v.items) arcs i ∙ ap (λ (o : Option (Vec Point Global)). option_map (λ v. v.items) o) is))

-- ---- points in a direction

at_way : {Y : Type 0} (f : List Point → Y) (path points : List Point) (forward way : Bool) → path ≡ in_direction forward points → forward ≡ way → f path ≡ f (in_direction way points)
at_way f path points forward way is same = ap f (is ∙ ap (λ (b : Bool). in_direction b points) same)

pub first_forward : (path points : List Point) (forward : Bool) → path ≡ in_direction forward points → forward ≡ true → first_of path ≡ first_of points
first_forward path points forward is same = at_way (λ ps. first_of ps) path points forward true is same

pub first_back : (path points : List Point) (forward : Bool) → path ≡ in_direction forward points → forward ≡ false → first_of path ≡ last_of points
first_back path points forward is same = at_way (λ ps. first_of ps) path points forward false is same ∙ first_reverse points

pub last_forward : (path points : List Point) (forward : Bool) → path ≡ in_direction forward points → forward ≡ true → last_of path ≡ last_of points
last_forward path points forward is same = at_way (λ ps. last_of ps) path points forward true is same

pub last_back : (path points : List Point) (forward : Bool) → path ≡ in_direction forward points → forward ≡ false → last_of path ≡ first_of points
last_back path points forward is same = at_way (λ ps. last_of ps) path points forward false is same ∙ last_reverse points

long_as : (forward : Bool) (points : List Point) → length (in_direction forward points) ≡ length points
long_as true points = refl
long_as false points = length-reverse points

pub told_length : (path points : List Point) (forward : Bool) → path ≡ in_direction forward points → length path ≡ length points
told_length path points forward is = ap (λ (ps : List Point). length ps) is ∙ long_as forward points

pub rest_forward : (path points : List Point) (forward : Bool) → path ≡ in_direction forward points → forward ≡ true → drop 1 path ≡ drop 1 points
rest_forward path points forward is same = at_way (λ ps. drop 1 ps) path points forward true is same

pub rest_back : (path points : List Point) (forward : Bool) → path ≡ in_direction forward points → forward ≡ false → drop 1 path ≡ drop 1 (reverse points)
rest_back path points forward is same = at_way (λ ps. drop 1 ps) path points forward false is same
