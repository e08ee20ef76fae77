-- Whether values of JSON are objects, and members texts.
use Rattle.std.proofs.Common.{◌≡◌, ◌∙◌, refl, sym, ap, inl, inr, ℕ, List, [], ◌∷◌}
use Rattle.std.specs.Prelude.{Option, None, Some}
use Rattle.std.specs.Str.{bytes_eq}
use Rattle.std.proofs.lemmas.Slice.Eq.{bytes_eq-Decides}
use Rattle.json_text.proofs.Cases.{by_cases_of, false_true}
use Rattle.json_text.specs.Tree.{Json, Null, Truth, Number, Str, Array, Object, Members, no_members, member, members_of, object}
use Rattle.map_values.proofs.Decided.{Decided, text_or}
use Rattle.map_values.proofs.Values.{some_same, text_same}

pub all_pairs : (members : Members) → (pairs : List (List ℕ × Json)) × (members ≡ members_of pairs)
all_pairs no_members = ([], refl)
all_pairs (member name tree more) = let rest = all_pairs more in ((name, tree) ∷ rest.0, ap (λ (more : Members). member name tree more) rest.1)

-- a value is an object or is none
pub object_or : (tree : Json) → Decided ((pairs : List (List ℕ × Json)) × (tree ≡ object pairs))
object_or Null = inr (λ is. (let never : Null ≡ object is.0 = is.1 in cc))
object_or (Truth b) = inr (λ is. (let never : Truth b ≡ object is.0 = is.1 in cc))
object_or (Number text) = inr (λ is. (let never : Number text ≡ object is.0 = is.1 in cc))
object_or (Str text) = inr (λ is. (let never : Str text ≡ object is.0 = is.1 in cc))
object_or (Array items) = inr (λ is. (let never : Array items ≡ object is.0 = is.1 in cc))
object_or (Object members) = let all = all_pairs members in inl (all.0, ap Object all.1)

-- a value that is there has the form, or none there has it
pub some_or : {Y : Type 0} (form : Y → Json) → ((tree : Json) → Decided ((y : Y) × (tree ≡ form y))) → (o : Option Json) → Decided ((y : Y) × (o ≡ Some (form y)))
some_or form decide None = inr (λ s. (let never : None ≡ Some (form s.0) = s.1 in cc))
some_or {Y} form decide (Some tree) = elim (decide tree) as (λ _. Decided ((y : Y) × (Some tree ≡ Some (form y)))) [
  | inl is ↦ inl (is.0, ap (λ (t : Json). Some t) is.1)
  | inr other ↦ inr (λ s. other (s.0, some_same tree (form s.0) s.1))
]

pub bytes_same : (a b : List ℕ) → Decided (a ≡ b)
bytes_same a b =
    by_cases_of (bytes_eq a b) _ (λ e. inl ((bytes_eq-Decides a b).0 e)) (λ e. inr (λ is. false_true (sym e ∙ (bytes_eq-Decides a b).1 is)))

-- a value that is there is that text, or none there is
pub is_text : (o : Option Json) (text : List ℕ) → Decided (o ≡ Some (Str text))
is_text o text = elim (some_or Str text_or o) as (λ _. Decided (o ≡ Some (Str text))) [
  | inl is ↦ elim (bytes_same is.0 text) as (λ _. Decided (o ≡ Some (Str text))) [
    | inl same ↦ inl (is.1 ∙ ap (λ (t : List ℕ). Some (Str t)) same)
    | inr other ↦ inr (λ s. other (text_same is.0 text (some_same (Str is.0) (Str text) (sym is.1 ∙ s))))
  ]
  | inr other ↦ inr (λ s. other (text, s))
]
