-- Names in a list of files.
use Rattle.std.proofs.Common.{◌≡◌, ℕ, ◌+◌, ◌-◌, ◌<◌, ◌≤◌, zero, suc, not, true, false, cond, nat_lt, List, [], ◌∷◌, length, drop, get_or, slice_index_or, is_some, Vec, Option, None, Some, arith, refl, ap, sym, ◌∙◌, subst}
use Rattle.std.specs.declared.alloc.Global.{Global}
use Rattle.std.specs.Str.{bytes_eq}
use Rattle.std.specs.List.{position, position_or_len}
use Rattle.std.proofs.lemmas.Slice.Eq.{bytes_eq-Decides}
use Rattle.std.proofs.lemmas.Bool.{ltb-false, ltb-true}
use Rattle.std.proofs.lemmas.List.{get_or-drop, get_or_default, length-drop}
use Rattle.std.proofs.lemmas.List.Quantifiers.{position-Some}
use Rattle.shelf_io.proofs.HeldLemmas.{Held, no_place}
use Rattle.shelf_io.specs.Held.{AreNamesDistinct}

-- each file below the place differs by name from each later one
abbrev pub DifferBelow : ℕ → Held → Type 0
DifferBelow at held = (i j : ℕ) (d : List ℕ × Vec ℕ Global) → i < at → i < j → j < length held → ¬ ((slice_index_or held i d).0 ≡ (slice_index_or held j d).0)

other_name : (file : List ℕ × Vec ℕ Global) (name : List ℕ) → bytes_eq file.0 name ≡ false → ¬ (file.0 ≡ name)
other_name file name e same = let t : bytes_eq file.0 name ≡ true = (bytes_eq-Decides file.0 name).1 same in (cc)

none_from : (held : Held) (name : List ℕ) → length held ≤ position_or_len (λ file. bytes_eq file.0 name) held
    → (k : ℕ) (d : List ℕ × Vec ℕ Global) → k < length held → ¬ ((get_or held k d).0 ≡ name)
none_from [] name none k d less = λ e. absurd (omega arith)
none_from (file ∷ held) name none zero d less =
    elim (bytes_eq file.0 name) as (λ b. bytes_eq file.0 name ≡ b → suc (length held) ≤ cond (not b) (1 + position_or_len (λ f. bytes_eq f.0 name) held) 0 → ¬ (file.0 ≡ name)) [
      | true ↦ λ e l. absurd (omega arith)
      | false ↦ λ e l. other_name file name e
    ] refl none
none_from (file ∷ held) name none (suc k) d less =
    elim (bytes_eq file.0 name) as (λ b. bytes_eq file.0 name ≡ b → suc (length held) ≤ cond (not b) (1 + position_or_len (λ f. bytes_eq f.0 name) held) 0 → ¬ ((get_or held k d).0 ≡ name)) [
      | true ↦ λ e l. absurd (omega arith)
      | false ↦ λ e l. none_from held name (omega arith) k d (omega arith)
    ] refl none

behind : (held : Held) (at j : ℕ) (d : List ℕ × Vec ℕ Global) → at < j → get_or (drop (at + 1) held) (j - (at + 1)) d ≡ get_or held j d
behind held at j d later = get_or-drop (at + 1) held (j - (at + 1)) d ∙ ap (λ k. get_or held k d) (omega arith)

is_named : (held : Held) (at : ℕ) (name : List ℕ) (file d : List ℕ × Vec ℕ Global) → at < length held → file ≡ get_or held at file → name ≡ file.0 → (get_or held at d).0 ≡ name
is_named held at name file d inside is named = ap (λ f. f.0) (get_or_default held at d file inside ∙ sym is) ∙ sym named

-- a name that stands nowhere behind the place differs from each later one
pub differ_more : (held : Held) (at : ℕ) (name : List ℕ) (file : List ℕ × Vec ℕ Global) (found : Option ℕ) → DifferBelow at held → at < length held → file ≡ get_or held at file → name ≡ file.0
    → found ≡ position (λ f. bytes_eq f.0 name) (drop (at + 1) held) → is_some found ≡ false → DifferBelow (at + 1) held
differ_more held at name file (Some place) below here is named at_place none i j d small later inside = absurd (cc)
differ_more held at name file None below here is named at_place none i j d small later inside =
    elim (nat_lt i at) as (λ b. nat_lt i at ≡ b → ¬ ((get_or held i d).0 ≡ (get_or held j d).0)) [
      | true ↦ λ t. below i j d (ltb-true i at t) later inside
      | false ↦ λ t same. let past = ltb-false i at t in let this : at ≡ i = omega arith in
          let long = length-drop (at + 1) held in
          let first : (get_or held i d).0 ≡ name = subst (λ k. (get_or held k d).0 ≡ name) this (is_named held at name file d here is named) in
          none_from (drop (at + 1) held) name (no_place _ _ (sym at_place)) (j - (at + 1)) d (omega arith)
          (ap (λ f. f.0) (behind held at j d (omega arith)) ∙ sym same ∙ first)
    ] refl

pub not_different : (held : Held) (at : ℕ) (name : List ℕ) (file : List ℕ × Vec ℕ Global) (found : Option ℕ) → at < length held → file ≡ get_or held at file → name ≡ file.0
    → found ≡ position (λ f. bytes_eq f.0 name) (drop (at + 1) held) → is_some found ≡ true → AreNamesDistinct held → ⊥
not_different held at name file None here is named at_place some differ = absurd (cc)
not_different held at name file (Some place) here is named at_place some differ =
    let there = position-Some (λ f. bytes_eq f.0 name) (drop (at + 1) held) place file (sym at_place) in
    let long = length-drop (at + 1) held in
    let second : (get_or (drop (at + 1) held) place file).0 ≡ name = (bytes_eq-Decides _ name).0 there.1 in
    differ at (at + 1 + place) file (omega arith) (omega (arith, there.0))
    (is_named held at name file file here is named ∙ sym (ap (λ f. f.0) (sym (get_or-drop (at + 1) held place file)) ∙ second))
