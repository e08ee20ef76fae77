-- A grid has one list of areas.
use Rattle.std.proofs.Common.{◌≡◌, ℕ, zero, suc, ◌+◌, ◌<◌, ap, ap₂, sym, ◌∙◌, refl, arith, subst, List, [], ◌∷◌, ◌++◌, length, map, flat_map, Option, Some, ℤ, add-one}
use Rattle.std.specs.List.{filter}
use Rattle.std.proofs.lemmas.List.{ext_get_or}
use Rattle.plane_edge.specs.declared.edge.Edge.{Edge}
use Rattle.plane_edge.specs.declared.point.Point.{Point}
use Rattle.plane_edge.specs.Rings.{Area, ends_of, steps_of_ring}
use Rattle.plane_edge.proofs.EqualLemmas.{points_equal, edges_equal}
use Rattle.grid_reader.specs.Grid.{Grid}
use Rattle.grid_reader.specs.Areas.{place_of, is_number, members, area_at, AreSides, AreAreas}
use Rattle.grid_reader.proofs.MemberLemmas.{members_more}
use Rattle.grid_reader.proofs.OneNumbering.{one_number, one_count}

map_injective : {A B : Type 0} (f : A → B) → ((x y : A) → f x ≡ f y → x ≡ y) → (xs ys : List A) → map f xs ≡ map f ys → xs ≡ ys
map_injective f one [] [] e = refl
map_injective f one [] (y ∷ ys) e = absurd (let never : [] ≡ f y ∷ map f ys = e in cc)
map_injective f one (x ∷ xs) [] e = absurd (let never : f x ∷ map f xs ≡ [] = e in cc)
map_injective f one (x ∷ xs) (y ∷ ys) e =
    let whole : f x ∷ map f xs ≡ f y ∷ map f ys = e in
    let first : f x ≡ f y = cc in
    let rest : map f xs ≡ map f ys = cc in
    ap₂ (λ (z : _) (zs : _). z ∷ zs) (one x y first) (map_injective f one xs ys rest)

one_place : (p q : Point) → place_of p ≡ place_of q → p ≡ q
one_place p q e = points_equal p q (ap (λ (z : ℤ × ℤ). z.0) e) (ap (λ (z : ℤ × ℤ). z.1) e)

one_ring : (a b : List Point) → map place_of a ≡ map place_of b → a ≡ b
one_ring a b e = map_injective place_of one_place a b e

one_edge : (e f : Edge) → ends_of e ≡ ends_of f → e ≡ f
one_edge e f s =
    let low : e.low ≡ f.low = ap (λ (z : Point × Point). z.0) s in
    let high : e.high ≡ f.high = ap (λ (z : Point × Point). z.1) s in
    edges_equal e f (record { low_x = ap (λ (p : Point). p.x) low; low_y = ap (λ (p : Point). p.y) low; high_x = ap (λ (p : Point). p.x) high; high_y = ap (λ (p : Point). p.y) high })

-- cells have one list of sides
one_sides : (g : Grid) (cells : List ℕ) (a b : List Edge) → AreSides g cells a → AreSides g cells b → a ≡ b
one_sides g cells a b s t =
    let rings : s.rings ≡ t.rings = map_injective (λ (ring : List Point). map place_of ring) one_ring s.rings t.rings (s.rings_are ∙ sym t.rings_are) in
    map_injective ends_of one_edge a b (s.steps_are ∙ ap (flat_map steps_of_ring) rings ∙ sym t.steps_are)

same_last : (a b : ℕ → Option ℕ) (p n : ℕ) → a n ≡ b n → filter (λ i. is_number p (a i)) (n ∷ []) ≡ filter (λ i. is_number p (b i)) (n ∷ [])
same_last a b p n e = rw e refl

-- numberings that agree have the same members
same_members : (a b : ℕ → Option ℕ) (p n : ℕ) → ((j : ℕ) → j < n → a j ≡ b j) → members a p n ≡ members b p n
same_members a b p zero agree = refl
same_members a b p (suc n) agree =
    let more : members a p (n + 1) ≡ members b p (n + 1) =
    members_more a p n ∙ ap₂ (λ (xs : List ℕ) (ys : List ℕ). xs ++ ys) (same_members a b p n (λ j low. agree j (omega arith))) (same_last a b p n (agree n (omega arith))) ∙ sym (members_more b p n) in
    subst (λ (m : ℕ). members a p m ≡ members b p m) (add-one n) more

same_outline : (a b : Area) → a.class ≡ b.class → a.steps ≡ b.steps → a ≡ b
same_outline a b c s = ap (λ (x : List ℕ). record a { class = x }) c ∙ ap (λ (x : List Edge). record b { steps = x }) s

-- a grid has one list of areas
pub areas_one : (g : Grid) (areas others : List Area) → AreAreas g areas → AreAreas g others → areas ≡ others
areas_one g areas others is also =
    let n = length g.cells in
    let long : length areas ≡ length others = one_count g n (length areas) (length others) is.number also.number is.patches also.patches in
    let agree : (j : ℕ) → j < n → is.number j ≡ also.number j = one_number g n (length areas) (length others) is.number also.number is.patches also.patches in
    ext_get_or (record { class = []; steps = [] }) areas others long (λ p low.
    let w = is.patches.all p low in
    let there : also.number w.0 ≡ Some p = sym (agree w.0 w.1) ∙ w.2 in
    same_outline (area_at areas p) (area_at others p)
    (is.class_is w.0 p w.1 w.2 ∙ sym (also.class_is w.0 p w.1 there))
    (one_sides g (members is.number p n) (area_at areas p).steps (area_at others p).steps (is.sides p low)
    (subst (λ (cells : List ℕ). AreSides g cells (area_at others p).steps) (sym (same_members is.number also.number p n agree)) (also.sides p (omega arith)))))
