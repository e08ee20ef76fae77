-- Positions, numbers and the ends of rings.
use Rattle.std.proofs.Common.{◌≡◌, ◌∙◌, refl, sym, ap, subst, ℕ, zero, suc, ◌-◌, ◌<◌, ◌≤◌, true, false, List, [], ◌∷◌, length, get_or, ℤ, pos, Some, None, arith}
use Rattle.std.specs.Prelude.{Option, IfNone, slice_get, FitsSigned, negsuc}
use Rattle.std.specs.Int.{w64}
use Rattle.std.proofs.lemmas.Int.{ints}
use Rattle.agg_base.specs.Numbers.{SpellsWhole}
use Rattle.agg_base.proofs.WholeText.{one_whole}
use Rattle.json_text.proofs.Cases.{false_true}
use Rattle.json_text.specs.Tree.{Json}
use Rattle.plane_edge.specs.Coordinate.{IsCoordinate}
use Rattle.plane_edge.specs.Edges.{is_same_point}
use Rattle.plane_edge.specs.Paths.{first_of, last_of}
use Rattle.plane_edge.specs.declared.point.Point.{Point}
use Rattle.plane_edge.proofs.OrderLemmas.{same_point_itself, same_points_equal}
use Rattle.map_values.specs.Positions.{BeginsWithNumbers}
use Rattle.map_values.proofs.Decided.{texts_of}
use Rattle.map_values.proofs.Values.{some_same}
use Rattle.geo_reader.specs.Areas.{SpellsPoint, IsClosed}
use Rattle.geo_reader.specs.Rules.{IsWhole}

-- ---- whole positions

pub two_wholes : (tree : Json) (a b : List ℕ) → BeginsWithNumbers tree a b → (n : ℤ) × SpellsWhole a n → (n : ℤ) × SpellsWhole b n → IsWhole tree
two_wholes tree a b s x y = (x.0, y.0, record { first = a; second = b; more = s.more; list = s.list; x_is = x.1; y_is = y.1 })

pub first_part : (tree : Json) (a b : List ℕ) → BeginsWithNumbers tree a b → ¬ ((n : ℤ) × SpellsWhole a n) → ¬ IsWhole tree
first_part tree a b s not is = not (is.0, (texts_of tree a b is.0 is.1 s is.2).0)

pub second_part : (tree : Json) (a b : List ℕ) → BeginsWithNumbers tree a b → ¬ ((n : ℤ) × SpellsWhole b n) → ¬ IsWhole tree
second_part tree a b s not is = not (is.1, (texts_of tree a b is.0 is.1 s is.2).1)

pub no_numbers : (tree : Json) → ((a b : List ℕ) → ¬ BeginsWithNumbers tree a b) → ¬ IsWhole tree
no_numbers tree none is = none is.2.first is.2.second (record { more = is.2.more; list = is.2.list })

-- ---- values

pub not_never : (text : List ℕ) → ((n : ℤ) → ¬ SpellsWhole text n) → (n : ℤ) → SpellsWhole text n → ¬ FitsSigned w64 n
not_never text never n spells fits = never n spells

pub beyond_never : (text : List ℕ) (m : ℤ) → SpellsWhole text m → ¬ FitsSigned w64 m → (n : ℤ) → SpellsWhole text n → ¬ FitsSigned w64 n
beyond_never text m is wide n spells fits = wide (subst (FitsSigned w64) (one_whole text n m spells is) fits)

-- ---- points

pub point_spelled : (tree : Json) (a b : List ℕ) (x y : ℤ) (p : Point) → BeginsWithNumbers tree a b → SpellsWhole a x → SpellsWhole b y → (p.x ≡ x) × (p.y ≡ y) → SpellsPoint tree p
point_spelled tree a b x y p s x_is y_is same =
    record { first = a; second = b; more = s.more; list = s.list; x_is = subst (SpellsWhole a) (sym same.0) x_is; y_is = subst (SpellsWhole b) (sym same.1) y_is }

pub no_place : (tree : Json) → ((a b : List ℕ) → ¬ BeginsWithNumbers tree a b) → (p : Point) → ¬ SpellsPoint tree p
no_place tree none p s = none s.first s.second (record { more = s.more; list = s.list })

-- a coordinate has 64 bits
fits_coordinate : (z : ℤ) → IsCoordinate z → FitsSigned w64 z
fits_coordinate (pos n) is = let most = is.most in record { sfits = omega (arith, ints) }
fits_coordinate (negsuc n) is = let least = is.least in record { sfits = omega (arith, ints) }

pub no_first : (tree : Json) (a b : List ℕ) → BeginsWithNumbers tree a b → ((n : ℤ) → SpellsWhole a n → ¬ FitsSigned w64 n) → (p : Point) → ¬ SpellsPoint tree p
no_first tree a b s none p is = none p.x (texts_of tree a b p.x p.y s is).0 (fits_coordinate p.x p.x_in_range)

pub no_second : (tree : Json) (a b : List ℕ) → BeginsWithNumbers tree a b → ((n : ℤ) → SpellsWhole b n → ¬ FitsSigned w64 n) → (p : Point) → ¬ SpellsPoint tree p
no_second tree a b s none p is = none p.y (texts_of tree a b p.x p.y s is).1 (fits_coordinate p.y p.y_in_range)

pub far_place : (tree : Json) (a b : List ℕ) (x y : ℤ) → BeginsWithNumbers tree a b → SpellsWhole a x → SpellsWhole b y → ¬ (IsCoordinate x × IsCoordinate y) → (p : Point) → ¬ SpellsPoint tree p
far_place tree a b x y s x_is y_is far p is =
    let texts = texts_of tree a b p.x p.y s is in
    far (subst IsCoordinate (one_whole a p.x x texts.0 x_is) p.x_in_range, subst IsCoordinate (one_whole b p.y y texts.1 y_is) p.y_in_range)

-- a point that is not there
pub no_point_answer : (r : Option Point) (tree : Json) → ((p : Point) → ¬ SpellsPoint tree p) → IfNone r ((p : Point) → ¬ SpellsPoint tree p)
no_point_answer None tree none = none
no_point_answer (Some p) tree none = tt

pub far_answer : (r : Option Point) (tree : Json) (a b : List ℕ) (x y : ℤ) → BeginsWithNumbers tree a b → SpellsWhole a x → SpellsWhole b y → (u v : ℤ) → u ≡ x → v ≡ y → IfNone r (¬ (IsCoordinate u × IsCoordinate v)) → IfNone r ((p : Point) → ¬ SpellsPoint tree p)
far_answer None tree a b x y s x_is y_is u v u_is v_is far = far_place tree a b x y s x_is y_is (λ near. far (subst IsCoordinate (sym u_is) near.0, subst IsCoordinate (sym v_is) near.1))
far_answer (Some p) tree a b x y s x_is y_is u v u_is v_is far = tt

-- ---- ends of rings

slice_there : (points : List Point) (i : ℕ) (d : Point) → i < length points → slice_get points i ≡ Some (get_or points i d)
slice_there [] i d inside = absurd (omega arith)
slice_there (p ∷ points) zero d inside = refl
slice_there (p ∷ points) (suc i) d inside = slice_there points i d (omega arith)

first_is : (points : List Point) (p : Point) → 4 ≤ length points → p ≡ get_or points 0 p → first_of points ≡ Some p
first_is points p long is = slice_there points 0 p (omega arith) ∙ ap (λ (r : Point). Some r) (sym is)

last_is : (points : List Point) (p : Point) → 4 ≤ length points → p ≡ get_or points (length points - 1) p → last_of points ≡ Some p
last_is points p long is = slice_there points (length points - 1) p (omega arith) ∙ ap (λ (r : Point). Some r) (sym is)

pub closed_ring : (points : List Point) (p q : Point) → 4 ≤ length points → p ≡ get_or points 0 p → q ≡ get_or points (length points - 1) q → is_same_point p q ≡ true → IsClosed points
closed_ring points p q long first last same =
    record { long = long; closed = first_is points p long first ∙ ap (λ (r : Point). Some r) (same_points_equal p q same) ∙ sym (last_is points q long last) }

pub open_ring : (points : List Point) (p q : Point) → 4 ≤ length points → p ≡ get_or points 0 p → q ≡ get_or points (length points - 1) q → is_same_point p q ≡ false → ¬ IsClosed points
open_ring points p q long first last other is =
    let same = some_same p q (sym (first_is points p long first) ∙ is.closed ∙ last_is points q long last) in
    false_true (sym other ∙ ap (λ (r : Point). is_same_point p r) (sym same) ∙ same_point_itself p)

pub short_ring : (points : List Point) → length points < 4 → ¬ IsClosed points
short_ring points short is = let long = is.long in omega arith
