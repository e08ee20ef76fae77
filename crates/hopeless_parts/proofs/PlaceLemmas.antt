-- The places where a number stands, and the part whose number it is.
use Rattle.std.proofs.Common.{◌≡◌, ◌≢◌, ◌↔◌, ◌<◌, ◌+◌, ◌-◌, inl, inr, ℕ, zero, suc, List, [], ◌∷◌, ◌++◌, length, slice_index, get_or, Contains, refl, sym, subst, ap, ◌∙◌, arith, length-append}
use Rattle.std.proofs.lemmas.Bool.{cases_lt}
use Rattle.std.proofs.lemmas.List.{get_or_append_left, get_or-append_right}
use Rattle.std.proofs.lemmas.List.Elements.{Contains-get_or, Contains-append_left, Contains-append_right, Contains-append_cases}
use Rattle.agg_model.specs.Problem.{Problem, IsRising, areas}
use Rattle.agg_model.specs.Parts.{AreParts}
use Rattle.greedy_start.specs.Starts.{IsFirstHopeless}
use Rattle.greedy_start.proofs.PartLemmas.{one_number, one_way, parts_law}
use Rattle.row_laws.specs.FirstSums.{IsPartOf}
use Rattle.hopeless_parts.specs.Places.{ArePlaces}

-- the areas whose part has that number are the part of its least area
pub part_places : (p : Problem) (area : ℕ) (parts places : List ℕ) → IsFirstHopeless p area → length parts ≡ areas p
    → AreParts p (λ v. slice_index parts v) → ArePlaces parts area places → IsPartOf p area places
part_places p area parts places first long are_parts are =
    let top : slice_index parts area ≡ area = parts_law p (λ v. slice_index parts v) first.part are_parts first.are_parts area first.within ∙ first.least in
    record {
      rising = are.rising;
      exact = λ v.
          let at = are.exact v in (
            λ inside.
                let here : v < areas p = subst (λ n. v < n) long (at.0 inside).0 in
                (here, one_way p (λ v. slice_index parts v) are_parts area v first.within here (top ∙ sym (at.0 inside).1)),
            λ joined. at.1 (subst (λ n. v < n) (sym long) joined.0, sym (one_number p (λ v. slice_index parts v) are_parts area v first.within joined.0 joined.1) ∙ top),
          );
    }

-- ---- the places of a number

-- the places among the first n where the number stands, in rising order
pub record ArePlacesBelow (numbers : List ℕ) (number n : ℕ) (places : List ℕ) : Type 0 where
  pub rising : IsRising places
  pub exact : (v : ℕ) → Contains places v ↔ ((v < n) × (slice_index numbers v ≡ number))

pub no_places : (numbers : List ℕ) (number : ℕ) (places : List ℕ) → places ≡ [] → ArePlacesBelow numbers number 0 places
no_places numbers number places none =
    subst (ArePlacesBelow numbers number 0) (sym none) (record {
      rising = λ i j h k. absurd (omega arith);
      exact = λ v. ((λ inside. (let h = inside.1 in absurd (omega arith))), (λ below. (let h = below.0 in absurd (omega arith))));
    })

one_has : (n : ℕ) → Contains (n ∷ []) n
one_has n = (0, omega arith, refl)

in_one : (n v : ℕ) → Contains (n ∷ []) v → v ≡ n
in_one n v inside = go inside.0 inside.1 inside.2
  where
    go : (k : ℕ) → k < length (n ∷ []) → get_or (n ∷ []) k v ≡ v → v ≡ n
    go zero h q = sym q
    go (suc k) h q = absurd (omega arith)

-- the places read, with one more at the end
left_place : (places : List ℕ) (n i : ℕ) → i < length places → slice_index (places ++ n ∷ []) i ≡ slice_index places i
left_place places n i h = get_or_append_left places (n ∷ []) 0 i h

last_place : (places : List ℕ) (n i : ℕ) → i ≡ length places → slice_index (places ++ n ∷ []) i ≡ n
last_place places n i e =
    let none : i - length places ≡ 0 = omega arith in
    get_or-append_right places (n ∷ []) (length places) i 0 refl (omega arith) ∙ ap (λ k. get_or (n ∷ []) k 0) none

below_all : (numbers : List ℕ) (number n : ℕ) (places : List ℕ) → ArePlacesBelow numbers number n places → (i : ℕ) → i < length places → slice_index places i < n
below_all numbers number n places are i h = ((are.exact (slice_index places i)).0 (Contains-get_or places i 0 h)).0

rising_more : (numbers : List ℕ) (number n : ℕ) (places : List ℕ) → ArePlacesBelow numbers number n places → IsRising (places ++ n ∷ [])
rising_more numbers number n places are = λ i j h k.
    let long : length (places ++ n ∷ []) ≡ length places + 1 = length-append places (n ∷ []) in
    let here : i < length places = omega arith in
    let first = left_place places n i here in
    elim (cases_lt j (length places)) [
      | inl before ↦ (
          let second = left_place places n j before in
          let less = are.rising i j h before in
          omega arith
          )
      | inr past ↦ (
          let second = last_place places n j (omega arith) in
          let less = below_all numbers number n places are i here in
          omega arith
          )
    ]

pub place_more : (numbers : List ℕ) (number n : ℕ) (places : List ℕ) → slice_index numbers n ≡ number
    → ArePlacesBelow numbers number n places → ArePlacesBelow numbers number (n + 1) (places ++ n ∷ [])
place_more numbers number n places here are = record {
  rising = rising_more numbers number n places are;
  exact = λ v. (
    λ inside. elim (Contains-append_cases places (n ∷ []) v inside) [
      | inl before ↦ (let less = ((are.exact v).0 before).0 in (omega arith, ((are.exact v).0 before).1))
      | inr last ↦ (let e : v ≡ n = in_one n v last in (omega arith, ap (slice_index numbers) e ∙ here))
    ],
    λ below. elim (cases_lt v n) [
      | inl less ↦ Contains-append_left places (n ∷ []) v ((are.exact v).1 (less, below.1))
      | inr past ↦ (
          let less = below.0 in
          let e : n ≡ v = omega arith in
          subst (Contains (places ++ n ∷ [])) e (Contains-append_right places (n ∷ []) n (one_has n))
          )
    ],
  );
}

pub place_passed : (numbers : List ℕ) (number n : ℕ) (places : List ℕ) → slice_index numbers n ≢ number
    → ArePlacesBelow numbers number n places → ArePlacesBelow numbers number (n + 1) places
place_passed numbers number n places other are = record {
  rising = are.rising;
  exact = λ v. (
    λ inside. (let less = ((are.exact v).0 inside).0 in (omega arith, ((are.exact v).0 inside).1)),
    λ below. elim (cases_lt v n) [
      | inl less ↦ (are.exact v).1 (less, below.1)
      | inr past ↦ (
          let less = below.0 in
          let e : v ≡ n = omega arith in
          absurd (other (ap (slice_index numbers) (sym e) ∙ below.1))
          )
    ],
  );
}

pub all_places : (numbers : List ℕ) (number n : ℕ) (places : List ℕ) → n ≡ length numbers → ArePlacesBelow numbers number n places → ArePlaces numbers number places
all_places numbers number n places all are =
    record { rising = are.rising; exact = subst (λ m. (v : ℕ) → Contains places v ↔ ((v < m) × (slice_index numbers v ≡ number))) all are.exact }
