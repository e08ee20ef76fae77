-- Texts, one piece after another.
use Rattle.std.proofs.Common.{◌≡◌, ℕ, suc, ◌+◌, ◌-◌, ◌<◌, Bool, List, [], ◌∷◌, ◌++◌, length, flat_map, take, drop, get_or, subst, arith, ◌≤◌, ap, sym, ◌∙◌, append_assoc, All, add-one, drop-cons}
use Rattle.std.proofs.lemmas.List.{take_all}
use Rattle.std.proofs.lemmas.List.Elements.{All-more, All-cons}
use Rattle.plane_edge.specs.declared.point.Point.{Point}
use Rattle.arc_dissolve.specs.Shapes.{Shape}
use Rattle.topo_writer.specs.MapText.{step_to, steps_from, position_text, geometry_text, more_geometries}

-- what one more piece makes of a text
pub and_then : (x y z a b : List ℕ) → y ≡ x ++ a → z ≡ y ++ b → z ≡ x ++ (a ++ b)
and_then x y z a b e f = f ∙ ap (λ t. t ++ b) e ∙ append_assoc x a b

-- a comma and a piece
pub behind : (front comma new piece : List ℕ) → comma ≡ front ++ 44 ∷ [] → new ≡ comma ++ piece → new ≡ front ++ (44 ∷ piece)
behind front comma new piece e f = and_then front comma new (44 ∷ []) piece e f

abbrev steps_text : Bool → Point → List Point → List ℕ
steps_text relative before points = flat_map (λ s. 44 ∷ position_text s) (steps_from relative before points)

rest_is : {X : Type 0} (xs : List X) (i : ℕ) (x : X) → i < length xs → x ≡ get_or xs i x → drop i xs ≡ x ∷ drop (i + 1) xs
rest_is xs i x h e = rw add-one (drop-cons xs i x h ∙ ap (λ y. y ∷ drop (suc i) xs) (sym e))

-- one more position of an arc
pub steps_more : (relative : Bool) (before p : Point) (rest : List Point) (i : ℕ) (all front comma new : List ℕ) → i < length rest → p ≡ get_or rest i p
    → front ++ flat_map (λ s. 44 ∷ position_text s) (steps_from relative before (drop i rest)) ≡ all → comma ≡ front ++ 44 ∷ [] → new ≡ comma ++ position_text (step_to relative before p)
    → new ++ flat_map (λ s. 44 ∷ position_text s) (steps_from relative p (drop (i + 1) rest)) ≡ all
steps_more relative before p rest i all front comma new h e left one now =
    let piece = position_text (step_to relative before p) in
    let more = steps_text relative p (drop (i + 1) rest) in
    ap (λ t. t ++ more) (behind front comma new piece one now)
    ∙ append_assoc front (44 ∷ piece) more
    ∙ ap (λ ps. front ++ steps_text relative before ps) (sym (rest_is rest i p h e))
    ∙ left

-- one more region
pub geometries_more : (shapes : List Shape) (i : ℕ) (shape : Shape) (region : ℕ) (all front comma new : List ℕ) → i < length shapes → shape ≡ get_or shapes i shape
    → front ++ more_geometries region (drop i shapes) ≡ all → comma ≡ front ++ 44 ∷ [] → new ≡ comma ++ geometry_text region shape
    → new ++ more_geometries (region + 1) (drop (i + 1) shapes) ≡ all
geometries_more shapes i shape region all front comma new h e left one now =
    let piece = geometry_text region shape in
    let more = more_geometries (region + 1) (drop (i + 1) shapes) in
    ap (λ t. t ++ more) (behind front comma new piece one now)
    ∙ append_assoc front (44 ∷ piece) more
    ∙ ap (λ ps. front ++ more_geometries region ps) (sym (rest_is shapes i shape h e))
    ∙ left

-- what holds of the first and of the others holds of all
pub first_and_rest : {X : Type 0} (P : X → Type 0) (xs : List X) (d : X) → 0 < length xs → P (get_or xs 0 d) → All P (take (length xs - 1) (drop 1 xs)) → All P xs
first_and_rest P [] d some first rest = absurd (omega arith)
first_and_rest P (x ∷ xs) d some first rest =
    let whole : take (suc (length xs) - 1) xs ≡ xs = take_all (suc (length xs) - 1) xs (omega arith) in
    All-cons P x xs first (subst (λ ys. All P ys) whole rest)

-- one more of a list
pub all_more : {X : Type 0} (P : X → Type 0) (xs : List X) (i : ℕ) (x : X) → i < length xs → x ≡ get_or xs i x → All P (take i xs) → P x → All P (take (i + 1) xs)
all_more P xs i x h e all here = All-more P xs i x h all (subst P e here)

-- all of a list
pub all_of : {X : Type 0} (P : X → Type 0) (xs : List X) (i : ℕ) → length xs ≤ i → All P (take i xs) → All P xs
all_of P xs i h all = subst (λ ys. All P ys) (take_all i xs h) all
