-- What a value says it says once: lists of partners, class texts, positions, and the steps of areas.
use Rattle.std.proofs.Common.{◌≡◌, ◌∙◌, refl, sym, ap, ap₂, subst, ℕ, List, [], ◌∷◌, map, get_or, ℤ}
use Rattle.std.specs.Prelude.{Some, codes}
use Rattle.std.specs.Fmt.{signed_decimal}
use Rattle.std.specs.List.{AllZip}
use Rattle.json_text.specs.Tree.{Json, Number, Str, member_of}
use Rattle.plane_edge.proofs.EqualLemmas.{edges_equal}
use Rattle.plane_edge.specs.Rings.{Area, ends_of}
use Rattle.plane_edge.specs.declared.edge.Edge.{Edge}
use Rattle.plane_edge.specs.declared.frame.Frame.{Frame}
use Rattle.plane_edge.specs.declared.point.Point.{Point}
use Rattle.map_values.specs.Layers.{Layer}
use Rattle.map_values.specs.Classes.{SpellsClass, by_text, by_number, HasClass}
use Rattle.map_values.specs.Positions.{SpellsInteger, BeginsWithNumbers, SpellsPosition}
use Rattle.map_values.proofs.Values.{one_answer, number_same, text_same, text_at, one_array, same_whole}

-- where each value has one partner at most, each list of values has one list of partners at most
pub zip_one : {X Y : Type 0} (R : X → Y → Type 0) → ((x : X) (y z : Y) → R x y → R x z → y ≡ z) → (xs : List X) (ys zs : List Y) → AllZip R xs ys → AllZip R xs zs → ys ≡ zs
zip_one R one [] [] [] s t = refl
zip_one R one [] [] (z ∷ zs) s t = absurd t
zip_one R one [] (y ∷ ys) zs s t = absurd s
zip_one R one (x ∷ xs) [] zs s t = absurd s
zip_one R one (x ∷ xs) (y ∷ ys) [] s t = absurd t
zip_one {X = X} {Y = Y} R one (x ∷ xs) (y ∷ ys) (z ∷ zs) s t = ap₂ (λ (a : Y) (b : List Y). a ∷ b) (one x y z s.0 t.0) (zip_one R one xs ys zs s.1 t.1)

-- ---- numbers

pub one_integer : (tree : Json) (m n : ℤ) → SpellsInteger tree m → SpellsInteger tree n → m ≡ n
one_integer tree m n s t = same_whole s.number t.number m n (number_same s.number t.number (sym s.is ∙ t.is)) s.whole t.whole

pub same_numbers : (tree : Json) (a b c d : List ℕ) → BeginsWithNumbers tree a b → BeginsWithNumbers tree c d → (a ≡ c) × (b ≡ d)
same_numbers tree a b c d s t =
    let same = one_array tree (Number a ∷ Number b ∷ s.more) (Number c ∷ Number d ∷ t.more) s.list t.list in (ap (text_at 0) same, ap (text_at 1) same)

pub one_position : (tree : Json) (x y u v : ℤ) → SpellsPosition tree x y → SpellsPosition tree u v → (x ≡ u) × (y ≡ v)
one_position tree x y u v s t =
    let same = one_array tree (Number s.first ∷ Number s.second ∷ s.more) (Number t.first ∷ Number t.second ∷ t.more) s.list t.list in
    (same_whole s.first t.first x u (ap (text_at 0) same) s.x_is t.x_is, same_whole s.second t.second y v (ap (text_at 1) same) s.y_is t.y_is)

-- ---- class texts

pub one_class : (tree : Json) (a b : List ℕ) → SpellsClass tree a → SpellsClass tree b → a ≡ b
one_class tree a b (by_text is some few) (by_text is_2 some_2 few_2) = text_same a b (sym is ∙ is_2)
one_class tree a b (by_text is some few) (by_number digits n is_2 spells fits class) = absurd (let never : Str a ≡ Number digits = sym is ∙ is_2 in cc)
one_class tree a b (by_number digits n is spells fits class) (by_text is_2 some few) = absurd (let never : Str b ≡ Number digits = sym is_2 ∙ is in cc)
one_class tree a b (by_number digits n is spells fits class) (by_number others m is_2 spells_2 fits_2 class_2) =
    class ∙ ap signed_decimal (same_whole digits others n m (number_same digits others (sym is ∙ is_2)) spells spells_2) ∙ sym class_2

pub one_class_text : (tree : Json) (name a b : List ℕ) → HasClass tree name a → HasClass tree name b → a ≡ b
one_class_text tree name a b s t =
    let properties = one_answer (member_of tree (codes "properties")) s.properties t.properties s.properties_are t.properties_are in
    let value = one_answer (member_of t.properties name) s.value t.value (subst (λ (tree : Json). member_of tree name ≡ Some s.value) properties s.value_is) t.value_is in
    one_class t.value a b (subst (λ (tree : Json). SpellsClass tree a) value s.class_is) t.class_is

-- ---- areas

same_edge : (e f : Edge) → ends_of e ≡ ends_of f → e ≡ f
same_edge e f same = edges_equal e f (record {
  low_x = ap (λ ends. ends.0.x) same;
  low_y = ap (λ ends. ends.0.y) same;
  high_x = ap (λ ends. ends.1.x) same;
  high_y = ap (λ ends. ends.1.y) same;
})

abbrev rest_of : List (Point × Point) → List (Point × Point)
rest_of [] = []
rest_of (step ∷ steps) = steps

pub same_edges : (es fs : List Edge) → map ends_of es ≡ map ends_of fs → es ≡ fs
same_edges [] [] same = refl
same_edges [] (f ∷ fs) same = absurd (let never : [] ≡ ends_of f ∷ map ends_of fs = same in cc)
same_edges (e ∷ es) [] same = absurd (let never : ends_of e ∷ map ends_of es ≡ [] = same in cc)
same_edges (e ∷ es) (f ∷ fs) same =
    ap₂ (λ (d : Edge) (ds : List Edge). d ∷ ds) (same_edge e f (ap (λ steps. get_or steps 0 (ends_of e)) same)) (same_edges es fs (ap rest_of same))

-- areas of one class and the same steps are the same
pub same_area : (a b : Area) → a.class ≡ b.class → map ends_of a.steps ≡ map ends_of b.steps → a ≡ b
same_area a b class steps = ap₂ (λ (class : List ℕ) (steps : List Edge). record { class = class; steps = steps }) class (same_edges a.steps b.steps steps)

pub same_layer : (l m : Layer) → l.areas ≡ m.areas → l.passed ≡ m.passed → l.frame ≡ m.frame → l ≡ m
same_layer l m areas passed frame =
    ap₂ (λ (areas : List Area) (passed : ℕ). record { areas = areas; passed = passed; frame = l.frame }) areas passed
    ∙ ap (λ (frame : Frame). record { areas = m.areas; passed = m.passed; frame = frame }) frame
