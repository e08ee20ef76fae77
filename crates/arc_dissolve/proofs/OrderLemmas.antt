-- Lists in order, and rings at rising places.
use Rattle.std.proofs.Common.{◌≡◌, ◌⊎◌, inl, inr, ℕ, suc, ◌+◌, ◌<◌, ◌≤◌, true, ℤ, List, [], ◌∷◌, ◌++◌, length, map, filter, get_or, slice_index, All, refl, sym, ap, subst, ◌∙◌, arith}
use Rattle.std.specs.List.Sorted.{IsNonDecreasingBy}
use Rattle.std.proofs.lemmas.Bool.{false≢true, cases_eq}
use Rattle.std.proofs.lemmas.List.{get_or-map, length-map, map_push}
use Rattle.std.proofs.lemmas.List.Elements.{All-nil, All-cons, All-push, All-weaker}
use Rattle.std.proofs.lemmas.List.Kept.{AllPairs-cons}
use Rattle.std.proofs.lemmas.List.Quantifiers.{all_pairs_push}
use Rattle.arc_dissolve.specs.Holes.{first_ring}
use Rattle.arc_dissolve.specs.Slots.{ArePlaced, is_filled, IsSlot}

abbrev Rings : Type 0
Rings = List (List ℤ)

-- ---- lists in order

at_or_before : (i j : ℕ) → i ≤ j → (i < j) ⊎ (i ≡ j)
at_or_before i j h = grind arith

pub in_order_map : {X Y : Type 0} (f : Y → ℕ) (g : X → Y) (xs : List X) → IsNonDecreasingBy (λ x. f (g x)) xs → IsNonDecreasingBy f (map g xs)
in_order_map f g [] o i j d h l = absurd (omega arith)
in_order_map f g (x ∷ xs) o i j d h l =
    let n = length-map (x ∷ xs) g in
    let a = get_or-map g (x ∷ xs) i x d (omega (arith, n)) in
    let b = get_or-map g (x ∷ xs) j x d (omega (arith, n)) in
    subst (λ y. f y ≤ f (get_or (map g (x ∷ xs)) j d)) (sym a) (subst (λ y. f (g (get_or (x ∷ xs) i x)) ≤ f y) (sym b) (o i j x h (omega (arith, n))))

pub in_order_before_map : {X Y : Type 0} (f : Y → ℕ) (g : X → Y) (xs : List X) → IsNonDecreasingBy f (map g xs) → IsNonDecreasingBy (λ x. f (g x)) xs
in_order_before_map f g xs o i j d h l =
    let n = length-map xs g in
    let a = get_or-map g xs i d (g d) (omega arith) in
    let b = get_or-map g xs j d (g d) l in
    subst (λ y. f y ≤ f (g (get_or xs j d))) a (subst (λ y. f (get_or (map g xs) i (g d)) ≤ f y) b (o i j (g d) h (omega (arith, n))))

-- some of the rings, at rising places, are in order where all are
pub in_order_placed : (f : List ℤ → ℕ) (rings : Rings) (n : ℕ) (some : Rings) → n ≤ length rings → IsNonDecreasingBy f rings → ArePlaced rings n some → IsNonDecreasingBy f some
in_order_placed f rings n some h o p =
    subst (IsNonDecreasingBy f) (sym p.are) (in_order_map f (λ k. get_or rings k []) p.places (λ i j d m l. elim (at_or_before i j m) [
      | inl b ↦
          let rising = p.rising i j d b l in
          o (get_or p.places i d) (get_or p.places j d) [] (omega arith) (omega (arith, p.below j d l))
      | inr e ↦ subst (λ k. f (get_or rings (get_or p.places i d) []) ≤ f (get_or rings (get_or p.places k d) [])) e (omega arith)
    ]))

-- ---- rings at rising places

pub placed_none : (rings : Rings) (n : ℕ) (some : Rings) → some ≡ [] → ArePlaced rings n some
placed_none rings n some e = record { places = []; are = e; rising = λ i j d h l. absurd (omega arith); below = All-nil (λ k. k < n) }

pub placed_still : (rings : Rings) (n : ℕ) (some : Rings) → ArePlaced rings n some → ArePlaced rings (n + 1) some
placed_still rings n some p = record {
  places = p.places;
  are = p.are;
  rising = p.rising;
  below = All-weaker (λ k. k < n) (λ k. k < n + 1) (λ k h. omega arith) p.places p.below;
}

pub placed_more : (rings : Rings) (n : ℕ) (some : Rings) (ring : List ℤ) → ring ≡ get_or rings n [] → ArePlaced rings n some → ArePlaced rings (n + 1) (some ++ ring ∷ [])
placed_more rings n some ring e p = record {
  places = p.places ++ n ∷ [];
  are = ap (λ l. l ++ ring ∷ []) p.are ∙ (ap (λ r. map (λ k. get_or rings k []) p.places ++ r ∷ []) e ∙ sym (map_push (λ k. get_or rings k []) p.places n));
  rising = all_pairs_push (λ j k. j < k) p.places n p.rising p.below;
  below = All-push (λ k. k < n + 1) p.places n (All-weaker (λ k. k < n) (λ k. k < n + 1) (λ k h. omega arith) p.places p.below) (omega arith);
}

placed_first : (rings : Rings) (m n : ℕ) (some : Rings) (ring : List ℤ) → m < n → ring ≡ get_or rings m [] → (p : ArePlaced rings n some) → All (λ k. m + 1 ≤ k) p.places → ArePlaced rings n (ring ∷ some)
placed_first rings m n some ring h e p from = record {
  places = m ∷ p.places;
  are = ap (λ r. r ∷ some) e ∙ ap (λ l. get_or rings m [] ∷ l) p.are;
  rising = AllPairs-cons (λ j k. j < k) m p.places (All-weaker (λ k. m + 1 ≤ k) (λ k. m < k) (λ k l. omega arith) p.places from) p.rising;
  below = All-cons (λ k. k < n) m p.places h p.below;
}

-- ---- the first rings of slots

front_of_slot : (rings : Rings) (heads : List ℕ) (k : ℕ) (slot : Rings) → IsSlot rings heads k slot → is_filled slot ≡ true → first_ring slot ≡ get_or rings k []
front_of_slot rings heads k slot s t = elim (cases_eq (slice_index heads k) k) [
  | inl own ↦ ap first_ring (s.some own).is
  | inr n ↦ absurd (false≢true (sym (ap is_filled (s.none n)) ∙ t))
]

-- at places from m on
pub record AreFrom (rings : Rings) (m n : ℕ) (some : Rings) : Type 0 where
  pub placed : ArePlaced rings n some
  pub from : All (λ k. m ≤ k) placed.places

-- the slots but the first one
later : (rings : Rings) (heads : List ℕ) (m : ℕ) (slot : Rings) (ss : List Rings) → ((k : ℕ) → k < length (slot ∷ ss) → IsSlot rings heads (m + k) (get_or (slot ∷ ss) k [])) → (k : ℕ) → k < length ss → IsSlot rings heads (m + 1 + k) (get_or ss k [])
later rings heads m slot ss s k l =
    let same : m + suc k ≡ m + 1 + k = omega arith in
    subst (λ j. IsSlot rings heads j (get_or ss k [])) same (s (suc k) (omega arith))

pub fronts_from : (rings : Rings) (heads : List ℕ) (m n : ℕ) (slots : List Rings) → m + length slots ≡ n → ((k : ℕ) → k < length slots → IsSlot rings heads (m + k) (get_or slots k [])) → AreFrom rings m n (map first_ring (filter is_filled slots))
unfolding placed_none placed_first
fronts_from rings heads m n [] e s = record { placed = placed_none rings n [] refl; from = All-nil (λ k. m ≤ k) }
fronts_from rings heads m n ([] ∷ ss) e s =
    let rest = fronts_from rings heads (m + 1) n ss (omega arith) (later rings heads m [] ss s) in
    record { placed = rest.placed; from = All-weaker (λ k. m + 1 ≤ k) (λ k. m ≤ k) (λ k h. omega arith) rest.placed.places rest.from }
fronts_from rings heads m n ((r ∷ rs) ∷ ss) e s =
    let rest = fronts_from rings heads (m + 1) n ss (omega arith) (later rings heads m (r ∷ rs) ss s) in
    let same : m + 0 ≡ m = omega arith in
    let here : r ≡ get_or rings m [] = front_of_slot rings heads (m + 0) (r ∷ rs) (s 0 (omega arith)) refl ∙ ap (λ k. get_or rings k []) same in
    record {
      placed = placed_first rings m n (map first_ring (filter is_filled ss)) r (omega arith) here rest.placed rest.from;
      from = All-cons (λ k. m ≤ k) m rest.placed.places (omega arith) (All-weaker (λ k. m + 1 ≤ k) (λ k. m ≤ k) (λ k h. omega arith) rest.placed.places rest.from);
    }
