-- A value is a class text or is none.
use Rattle.std.proofs.Common.{◌≡◌, refl, sym, ap, subst, ℕ, ◌<◌, ◌≤◌, ◌^◌, nat_lt, inl, inr, List, length, ℤ, pos, negsuc, arith}
use Rattle.std.specs.Prelude.{Some, codes, nat_le, FitsSigned}
use Rattle.std.specs.Int.{w64}
use Rattle.std.specs.Fmt.{signed_decimal}
use Rattle.std.proofs.lemmas.Bool.Decides.{nat_tests}
use Rattle.agg_base.proofs.WholeText.{one_whole}
use Rattle.agg_base.specs.Numbers.{SpellsWhole}
use Rattle.json_text.proofs.Cases.{by_cases_of}
use Rattle.json_text.specs.Tree.{Json, Number, Str, member_of}
use Rattle.map_values.specs.Classes.{SpellsClass, by_text, by_number, HasClass}
use Rattle.map_values.proofs.Values.{one_answer, number_same, text_same}
use Rattle.map_values.proofs.ClassLemmas.{value_spells}
use Rattle.map_values.proofs.Decided.{Decided, number_or, text_or, member_or}
use Rattle.map_values.proofs.WholeDecided.{whole_or}

-- a number is one of 64 bits or is none
pub fits_or : (n : ℤ) → Decided (FitsSigned w64 n)
fits_or (pos n) =
    by_cases_of (nat_lt n (2 ^ 63)) _
    (λ e. inl (record { sfits = grind (arith, nat_tests) }))
    (λ e. inr (λ fits. (let few : n < 2 ^ 63 = fits.sfits in let many : 2 ^ 63 ≤ n = grind (arith, nat_tests) in omega arith)))
fits_or (negsuc n) =
    by_cases_of (nat_lt n (2 ^ 63)) _
    (λ e. inl (record { sfits = grind (arith, nat_tests) }))
    (λ e. inr (λ fits. (let few : n < 2 ^ 63 = fits.sfits in let many : 2 ^ 63 ≤ n = grind (arith, nat_tests) in omega arith)))

abbrev IsClass : Json → Type 0
IsClass tree = (class : List ℕ) × SpellsClass tree class

-- a number that is a class text is a whole number of 64 bits
number_behind : (digits class : List ℕ) → SpellsClass (Number digits) class → (n : ℤ) × SpellsWhole digits n × FitsSigned w64 n
number_behind digits class (by_text is some few) = absurd (let never : Number digits ≡ Str class = is in cc)
number_behind digits class (by_number others n is spells fits class_is) = (n, subst (λ (text : List ℕ). SpellsWhole text n) (sym (number_same digits others is)) spells, fits)

number_class_or : (digits : List ℕ) → Decided (IsClass (Number digits))
number_class_or digits = elim (whole_or digits) as (λ _. Decided (IsClass (Number digits))) [
  | inl is ↦ elim (fits_or is.0) as (λ _. Decided (IsClass (Number digits))) [
    | inl fits ↦ inl (signed_decimal is.0, by_number digits is.0 refl is.1 fits refl)
    | inr not ↦ inr (λ s. (let behind = number_behind digits s.0 s.1 in not (subst (FitsSigned w64) (one_whole digits behind.0 is.0 behind.1 is.1) behind.2)))
  ]
  | inr not ↦ inr (λ s. (let behind = number_behind digits s.0 s.1 in not behind.0 behind.1))
]

-- a text that is a class text has 1 to 100 bytes
text_behind : (text class : List ℕ) → SpellsClass (Str text) class → (1 ≤ length text) × (length text ≤ 100)
text_behind text class (by_text is some few) =
    let same : length text ≡ length class = ap length (text_same text class is) in (omega arith, omega arith)
text_behind text class (by_number digits n is spells fits class_is) = absurd (let never : Str text ≡ Number digits = is in cc)

text_class_or : (text : List ℕ) → Decided (IsClass (Str text))
text_class_or text =
    by_cases_of (nat_le 1 (length text)) _
    (λ e. by_cases_of (nat_le (length text) 100) _
    (λ k. inl (text, by_text refl (grind (arith, nat_tests)) (grind (arith, nat_tests))))
    (λ k. inr (λ s. (let few = (text_behind text s.0 s.1).1 in let many : 100 < length text = grind (arith, nat_tests) in omega arith))))
    (λ e. inr (λ s. (let some = (text_behind text s.0 s.1).0 in let none : length text < 1 = grind (arith, nat_tests) in omega arith)))

neither : (tree : Json) (class : List ℕ) → ¬ ((text : List ℕ) × (tree ≡ Number text)) → ¬ ((text : List ℕ) × (tree ≡ Str text)) → ¬ SpellsClass tree class
neither tree class no_number no_text (by_text is some few) = no_text (class, is)
neither tree class no_number no_text (by_number digits n is spells fits class_is) = no_number (digits, is)

-- a value is a class text or is none
pub class_or : (tree : Json) → Decided ((class : List ℕ) × SpellsClass tree class)
class_or tree = elim (number_or tree) as (λ _. Decided (IsClass tree)) [
  | inl is ↦ subst (λ (t : Json). Decided (IsClass t)) (sym is.1) (number_class_or is.0)
  | inr no_number ↦ elim (text_or tree) as (λ _. Decided (IsClass tree)) [
    | inl is ↦ subst (λ (t : Json). Decided (IsClass t)) (sym is.1) (text_class_or is.0)
    | inr no_text ↦ inr (λ s. neither tree s.0 no_number no_text s.1)
  ]
]

-- a value has a class text under the name or has none
pub has_class_or : (tree : Json) (name : List ℕ) → Decided ((class : List ℕ) × HasClass tree name class)
has_class_or tree name = elim (member_or tree (codes "properties")) as (λ _. Decided ((class : List ℕ) × HasClass tree name class)) [
  | inl properties ↦ elim (member_or properties.0 name) as (λ _. Decided ((class : List ℕ) × HasClass tree name class)) [
    | inl value ↦ elim (class_or value.0) as (λ _. Decided ((class : List ℕ) × HasClass tree name class)) [
      | inl is ↦ inl (is.0, record { properties = properties.0; value = value.0; properties_are = properties.1; value_is = value.1; class_is = is.1 })
      | inr not ↦ inr (λ s. not (s.0, value_spells tree properties.0 value.0 name properties.1 value.1 s.0 s.1))
    ]
    | inr not ↦ inr (λ s. not (s.1.value, subst (λ (t : Json). member_of t name ≡ Some s.1.value) (one_answer (member_of tree (codes "properties")) s.1.properties properties.0 s.1.properties_are properties.1) s.1.value_is))
  ]
  | inr not ↦ inr (λ s. not (s.1.properties, s.1.properties_are))
]
