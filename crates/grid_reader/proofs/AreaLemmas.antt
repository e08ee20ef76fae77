-- The sides of cells, and how many they are.
use Rattle.std.proofs.Common.{◌≡◌, ℕ, ◌+◌, ◌*◌, ◌<◌, ◌≤◌, refl, ap, sym, ◌∙◌, arith, subst, true, false, if◌then◌else◌, List, [], ◌∷◌, ◌++◌, length, map, flat_map, Result, Ok, Err, IfOk, length-append, sum_by, take}
use Rattle.std.proofs.lemmas.List.{length-map, get_or_push, take_more}
use Rattle.std.proofs.lemmas.List.Sums.{sum_by_push}
use Rattle.std.proofs.Math.ListN.{get_or-append}
use Rattle.plane_edge.specs.declared.edge.Edge.{Edge}
use Rattle.plane_edge.specs.declared.point.Point.{Point}
use Rattle.plane_edge.specs.Edges.{is_same_point}
use Rattle.plane_edge.specs.Rings.{Area, step_count, ends_of, in_order, step_between, path_from, steps_of_ring}
use Rattle.grid_reader.specs.Grid.{Grid}
use Rattle.grid_reader.specs.Areas.{place_of, corners_of, area_at, AreSides}
use Rattle.grid_reader.specs.Members.{IsAreaOf, list_at}
use Rattle.grid_reader.proofs.PatchLemmas.{split_last}

-- what two facts of an answer give
pub if_ok_both : {X E : Type 0} (r : Result X E) (P Q R : X → Type 0) → IfOk r P → IfOk r Q → ((x : X) → P x → Q x → R x) → IfOk r R
if_ok_both (Ok x) P Q R p q f = f x p q
if_ok_both (Err e) P Q R p q f = tt

map_map : {X Y Z : Type 0} (f : X → Y) (g : Y → Z) (xs : List X) → map g (map f xs) ≡ map (λ x. g (f x)) xs
map_map f g [] = refl
map_map f g (x ∷ xs) = ap (λ ys. g (f x) ∷ ys) (map_map f g xs)

flat_map_map : {X Y Z : Type 0} (f : X → Y) (g : Y → List Z) (xs : List X) → flat_map g (map f xs) ≡ flat_map (λ x. g (f x)) xs
flat_map_map f g [] = refl
flat_map_map f g (x ∷ xs) = ap (λ ys. g (f x) ++ ys) (flat_map_map f g xs)

-- rings with the corners of cells give their sides
pub sides_from : {R : Type 0} (points : R → List Point) (rings : List R) (g : Grid) (cells : List ℕ) (steps : List Edge)
    → map (λ r. map place_of (points r)) rings ≡ map (λ i. corners_of g i) cells → map ends_of steps ≡ flat_map (λ r. steps_of_ring (points r)) rings → AreSides g cells steps
sides_from points rings g cells steps h k = record {
  rings = map points rings;
  rings_are = map_map points (λ ring. map place_of ring) rings ∙ h;
  steps_are = k ∙ sym (flat_map_map points steps_of_ring rings);
}

step_few : (a b : Point) → length (step_between a b) ≤ 1
step_few a b = elim (is_same_point a b) as (λ c. length (if c then [] else in_order a b ∷ []) ≤ 1) [ true ↦ omega arith | false ↦ omega arith ]

path_few : (a : Point) (bs : List Point) → length (path_from a bs) ≤ length bs
path_few a [] = omega arith
path_few a (b ∷ bs) = omega (arith, length-append (step_between a b) (path_from b bs), step_few a b, path_few b bs)

ring_few : (ring : List Point) → length (steps_of_ring ring) ≤ length ring
ring_few [] = omega arith
ring_few (p ∷ ps) = omega (arith, path_few p (ps ++ p ∷ []), length-append ps (p ∷ []))

rings_few : (g : Grid) (rings : List (List Point)) (cells : List ℕ) → map (λ ring. map place_of ring) rings ≡ map (λ i. corners_of g i) cells → length (flat_map steps_of_ring rings) ≤ 4 * length cells
rings_few g [] [] h = omega arith
rings_few g [] (i ∷ cells) h = omega arith
rings_few g (r ∷ rings) [] h = absurd (let k : (map place_of r ∷ map (λ ring. map place_of ring) rings) ≡ [] = h in cc)
rings_few g (r ∷ rings) (i ∷ cells) h =
    let k : (map place_of r ∷ map (λ ring. map place_of ring) rings) ≡ (corners_of g i ∷ map (λ j. corners_of g j) cells) = h in
    let first : map place_of r ≡ corners_of g i = cc in
    let more : map (λ ring. map place_of ring) rings ≡ map (λ j. corners_of g j) cells = cc in
    let four : length r ≡ 4 = sym (length-map r place_of) ∙ ap length first in
    omega (arith, length-append (steps_of_ring r) (flat_map steps_of_ring rings), ring_few r, rings_few g rings cells more)

-- cells have four sides each
pub sides_few : (g : Grid) (cells : List ℕ) (steps : List Edge) → AreSides g cells steps → length steps ≤ 4 * length cells
sides_few g cells steps sides =
    let all : length steps ≡ length (flat_map steps_of_ring sides.rings) = sym (length-map steps ends_of) ∙ ap length sides.steps_are in
    omega (arith, rings_few g sides.rings cells sides.rings_are)

-- one more area
pub area_pushed : (g : Grid) (xs : List (List ℕ)) (areas news : List Area) (k : ℕ) (area : Area) → news ≡ areas ++ area ∷ [] → length areas ≡ k → k < length xs
    → IsAreaOf g (list_at xs k) area → ((p : ℕ) → p < k → IsAreaOf g (list_at xs p) (area_at areas p)) → (p : ℕ) → p < k + 1 → IsAreaOf g (list_at xs p) (area_at news p)
area_pushed g xs areas news k area is long h this before p low =
    subst (λ (zs : List Area). IsAreaOf g (list_at xs p) (area_at zs p)) (sym is)
    (split_last k p (IsAreaOf g (list_at xs p) (area_at (areas ++ area ∷ []) p)) low
    (λ b. subst (λ (o : Area). IsAreaOf g (list_at xs p) o) (sym (get_or-append areas (area ∷ []) (record { class = []; steps = [] }) p (omega arith))) (before p b))
    (λ (e : p ≡ k). subst (λ (m : ℕ). IsAreaOf g (list_at xs m) (area_at (areas ++ area ∷ []) m)) (sym e)
    (subst (λ (o : Area). IsAreaOf g (list_at xs k) o) (sym (get_or_push areas area (record { class = []; steps = [] }) k long)) this)))

pub steps_pushed : (xs : List (List ℕ)) (areas news : List Area) (k : ℕ) (area : Area) → news ≡ areas ++ area ∷ [] → k < length xs
    → length area.steps ≤ 4 * length (list_at xs k) → step_count areas ≤ 4 * sum_by (λ cells. length cells) (take k xs) → step_count news ≤ 4 * sum_by (λ cells. length cells) (take (k + 1) xs)
steps_pushed xs areas news k area is h few before =
    let all : step_count news ≡ step_count areas + length area.steps = ap step_count is ∙ sum_by_push (λ a. length a.steps) areas area in
    let more : sum_by (λ cells. length cells) (take (k + 1) xs) ≡ sum_by (λ cells. length cells) (take k xs) + length (list_at xs k)
    = ap (sum_by (λ (cells : List ℕ). length cells)) (take_more xs k [] h) ∙ sum_by_push (λ cells. length cells) (take k xs) (list_at xs k) in
    omega arith
