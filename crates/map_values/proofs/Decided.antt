-- What a value says it says or says not: lists, numbers, positions and points.
use Rattle.std.proofs.Common.{◌≡◌, ◌∙◌, refl, sym, ap, ap₂, subst, ℕ, ◌⊎◌, inl, inr, List, [], ◌∷◌, ℤ, pos, ◌≤ℤ◌, int_le, arith}
use Rattle.std.specs.Prelude.{Some, None, neg_ℤ}
use Rattle.std.specs.List.{AllByRecursion, AllZip}
use Rattle.std.proofs.lemmas.Int.{ints}
use Rattle.agg_base.specs.Numbers.{SpellsWhole}
use Rattle.json_text.proofs.Cases.{by_cases_of}
use Rattle.json_text.specs.Tree.{Json, Null, Truth, Number, Str, Array, Object, Items, no_items, item, items_of, array, member_of}
use Rattle.plane_edge.specs.Coordinate.{IsCoordinate}
use Rattle.plane_edge.specs.declared.point.Point.{Point}
use Rattle.map_values.specs.Positions.{BeginsWithNumbers, SpellsPosition}
use Rattle.map_values.proofs.Unique.{same_numbers, one_position}
use Rattle.map_values.proofs.NumberLemmas.{too_short, first_two}
use Rattle.map_values.proofs.WholeDecided.{whole_or}

abbrev pub Decided : Type 0 → Type 0
Decided P = P ⊎ ¬ P

-- ---- lists

-- what is decided of each value is decided of all
pub all_or : {X : Type 0} (P : X → Type 0) → ((x : X) → Decided (P x)) → (xs : List X) → Decided (AllByRecursion P xs)
all_or P decide [] = inl tt
all_or P decide (x ∷ xs) = elim (decide x) as (λ _. Decided (AllByRecursion P (x ∷ xs))) [
  | inl is ↦ elim (all_or P decide xs) as (λ _. Decided (AllByRecursion P (x ∷ xs))) [ inl more ↦ inl (is, more) | inr other ↦ inr (λ all. other all.1) ]
  | inr not ↦ inr (λ all. not all.0)
]

pub first_partner : {X Y : Type 0} (R : X → Y → Type 0) (x : X) (xs : List X) (ys : List Y) → AllZip R (x ∷ xs) ys → (y : Y) × R x y
first_partner R x xs [] s = absurd s
first_partner R x xs (y ∷ ys) s = (y, s.0)

pub rest_partners : {X Y : Type 0} (R : X → Y → Type 0) (x : X) (xs : List X) (ys : List Y) → AllZip R (x ∷ xs) ys → (zs : List Y) × AllZip R xs zs
rest_partners R x xs [] s = absurd s
rest_partners R x xs (y ∷ ys) s = (ys, s.1)

-- values that each have a partner have a list of partners
pub partners_or : {X Y : Type 0} (R : X → Y → Type 0) → ((x : X) → Decided ((y : Y) × R x y)) → (xs : List X) → Decided ((ys : List Y) × AllZip R xs ys)
partners_or R decide [] = inl ([], tt)
partners_or {X = X} {Y = Y} R decide (x ∷ xs) = elim (decide x) as (λ _. Decided ((ys : List Y) × AllZip R (x ∷ xs) ys)) [
  | inl is ↦ elim (partners_or R decide xs) as (λ _. Decided ((ys : List Y) × AllZip R (x ∷ xs) ys)) [
    | inl more ↦ inl (is.0 ∷ more.0, (is.1, more.1))
    | inr other ↦ inr (λ all. other (rest_partners R x xs all.0 all.1))
  ]
  | inr not ↦ inr (λ all. not (first_partner R x xs all.0 all.1))
]

-- ---- values

all_items : (items : Items) → (trees : List Json) × (items ≡ items_of trees)
all_items no_items = ([], refl)
all_items (item tree more) = let rest = all_items more in (tree ∷ rest.0, ap (item tree) rest.1)

-- a value is a list or is none
pub list_or : (tree : Json) → Decided ((trees : List Json) × (tree ≡ array trees))
list_or Null = inr (λ is. (let never : Null ≡ array is.0 = is.1 in cc))
list_or (Truth b) = inr (λ is. (let never : Truth b ≡ array is.0 = is.1 in cc))
list_or (Number text) = inr (λ is. (let never : Number text ≡ array is.0 = is.1 in cc))
list_or (Str text) = inr (λ is. (let never : Str text ≡ array is.0 = is.1 in cc))
list_or (Array items) = let all = all_items items in inl (all.0, ap Array all.1)
list_or (Object pairs) = inr (λ is. (let never : Object pairs ≡ array is.0 = is.1 in cc))

-- a value is a number or is none
pub number_or : (tree : Json) → Decided ((text : List ℕ) × (tree ≡ Number text))
number_or Null = inr (λ is. (let never : Null ≡ Number is.0 = is.1 in cc))
number_or (Truth b) = inr (λ is. (let never : Truth b ≡ Number is.0 = is.1 in cc))
number_or (Number text) = inl (text, refl)
number_or (Str text) = inr (λ is. (let never : Str text ≡ Number is.0 = is.1 in cc))
number_or (Array items) = inr (λ is. (let never : Array items ≡ Number is.0 = is.1 in cc))
number_or (Object pairs) = inr (λ is. (let never : Object pairs ≡ Number is.0 = is.1 in cc))

-- a value is a text or is none
pub text_or : (tree : Json) → Decided ((text : List ℕ) × (tree ≡ Str text))
text_or Null = inr (λ is. (let never : Null ≡ Str is.0 = is.1 in cc))
text_or (Truth b) = inr (λ is. (let never : Truth b ≡ Str is.0 = is.1 in cc))
text_or (Number text) = inr (λ is. (let never : Number text ≡ Str is.0 = is.1 in cc))
text_or (Str text) = inl (text, refl)
text_or (Array items) = inr (λ is. (let never : Array items ≡ Str is.0 = is.1 in cc))
text_or (Object pairs) = inr (λ is. (let never : Object pairs ≡ Str is.0 = is.1 in cc))

-- a member is there or is absent
pub member_or : (tree : Json) (name : List ℕ) → Decided ((value : Json) × (member_of tree name ≡ Some value))
member_or tree name = elim (member_of tree name) as (λ o. member_of tree name ≡ o → Decided ((value : Json) × (member_of tree name ≡ Some value))) [
  | None ↦ λ none. inr (λ is. (let never : None ≡ Some is.0 = sym none ∙ is.1 in cc))
  | Some value ↦ λ is. inl (value, is)
] refl

-- ---- positions

abbrev pub HasNumbers : Json → Type 0
HasNumbers tree = (first : List ℕ) × (second : List ℕ) × BeginsWithNumbers tree first second

list_numbers_or : (trees : List Json) → Decided (HasNumbers (array trees))
list_numbers_or [] = inr (λ s. too_short [] s.0 s.1 (omega arith) s.2)
list_numbers_or (a ∷ []) = inr (λ s. too_short (a ∷ []) s.0 s.1 (omega arith) s.2)
list_numbers_or (a ∷ b ∷ more) = elim (number_or a) as (λ _. Decided (HasNumbers (array (a ∷ b ∷ more)))) [
  | inl x ↦ elim (number_or b) as (λ _. Decided (HasNumbers (array (a ∷ b ∷ more)))) [
    | inl y ↦ inl (x.0, y.0, record { more = more; list = ap₂ (λ (s t : Json). array (s ∷ t ∷ more)) x.1 y.1 })
    | inr not ↦ inr (λ s. not (s.1, (first_two a b more s.0 s.1 s.2).1))
  ]
  | inr not ↦ inr (λ s. not (s.0, (first_two a b more s.0 s.1 s.2).0))
]

-- a value begins with two numbers or does not
pub numbers_or : (tree : Json) → Decided (HasNumbers tree)
numbers_or tree = elim (list_or tree) as (λ _. Decided (HasNumbers tree)) [
  | inl is ↦ subst (λ (t : Json). Decided (HasNumbers t)) (sym is.1) (list_numbers_or is.0)
  | inr not ↦ inr (λ s. not (Number s.0 ∷ Number s.1 ∷ s.2.more, s.2.list))
]

abbrev pub HasWholes : Json → Type 0
HasWholes tree = (x : ℤ) × (y : ℤ) × SpellsPosition tree x y

-- the texts of a position are those that it begins with
pub texts_of : (tree : Json) (first second : List ℕ) (x y : ℤ) → BeginsWithNumbers tree first second → SpellsPosition tree x y → SpellsWhole first x × SpellsWhole second y
texts_of tree first second x y b s =
    let same = same_numbers tree s.first s.second first second (record { more = s.more; list = s.list }) b in
    (subst (λ (text : List ℕ). SpellsWhole text x) same.0 s.x_is, subst (λ (text : List ℕ). SpellsWhole text y) same.1 s.y_is)

-- a value spells a position or spells none
pub position_or : (tree : Json) → Decided (HasWholes tree)
position_or tree = elim (numbers_or tree) as (λ _. Decided (HasWholes tree)) [
  | inl is ↦ elim (whole_or is.0) as (λ _. Decided (HasWholes tree)) [
    | inl x ↦ elim (whole_or is.1) as (λ _. Decided (HasWholes tree)) [
      | inl y ↦ inl (x.0, y.0, record { first = is.0; second = is.1; more = is.2.more; list = is.2.list; x_is = x.1; y_is = y.1 })
      | inr not ↦ inr (λ s. not s.1 (texts_of tree is.0 is.1 s.0 s.1 is.2 s.2).1)
    ]
    | inr not ↦ inr (λ s. not s.0 (texts_of tree is.0 is.1 s.0 s.1 is.2 s.2).0)
  ]
  | inr not ↦ inr (λ s. not (s.2.first, s.2.second, record { more = s.2.more; list = s.2.list }))
]

-- a number is a coordinate or is none
pub coordinate_or : (z : ℤ) → Decided (IsCoordinate z)
coordinate_or z =
    by_cases_of (int_le (neg_ℤ (pos 1073741824)) z) _
    (λ e. by_cases_of (int_le z (pos 1073741824)) _
    (λ k. inl (record { least = grind (arith, ints); most = grind (arith, ints) }))
    (λ k. inr (λ is. (let most = is.most in let more : pos 1073741825 ≤ℤ z = grind (arith, ints) in omega (arith, ints)))))
    (λ e. inr (λ is. (let least = is.least in let more : z ≤ℤ neg_ℤ (pos 1073741825) = grind (arith, ints) in omega (arith, ints))))

abbrev pub HasPoint : Json → Type 0
HasPoint tree = (p : Point) × SpellsPosition tree p.x p.y

-- a value spells a point within the limit or spells none
pub point_or : (tree : Json) → Decided (HasPoint tree)
point_or tree = elim (position_or tree) as (λ _. Decided (HasPoint tree)) [
  | inl is ↦ elim (coordinate_or is.0) as (λ _. Decided (HasPoint tree)) [
    | inl x ↦ elim (coordinate_or is.1) as (λ _. Decided (HasPoint tree)) [
      | inl y ↦ inl (record { y = is.1; x = is.0; y_in_range = y; x_in_range = x }, is.2)
      | inr not ↦ inr (λ s. not (subst IsCoordinate (one_position tree s.0.x s.0.y is.0 is.1 s.1 is.2).1 s.0.y_in_range))
    ]
    | inr not ↦ inr (λ s. not (subst IsCoordinate (one_position tree s.0.x s.0.y is.0 is.1 s.1 is.2).0 s.0.x_in_range))
  ]
  | inr not ↦ inr (λ s. not (s.0.x, s.0.y, s.1))
]
