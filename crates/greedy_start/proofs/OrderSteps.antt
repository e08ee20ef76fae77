-- One more area in the order of regions.
use Rattle.std.proofs.Common.{◌≡◌, ℕ, ◌+◌, ◌<◌, ◌≤◌, List, length, sym, subst, inl, inr, arith}
use Rattle.std.specs.Prelude.{slice_index}
use Rattle.std.proofs.lemmas.Bool.{cases_lt}
use Rattle.agg_model.specs.Problem.{Problem, Grouping, areas, region}
use Rattle.greedy_start.specs.Orders.{IsInOrder}
use Rattle.greedy_start.specs.Starts.{IsNumberedByLeast}

-- the first n areas have the regions below met, in order
pub record IsMet (regions : List ℕ) (n met : ℕ) : Type 0 where
  pub few : met ≤ n
  pub seen : (r : ℕ) → r < met → (u : ℕ) × (u < n) × (slice_index regions u ≡ r)
  pub below : (u : ℕ) → u < n → slice_index regions u < met
  pub order : (v : ℕ) → v < n → (r : ℕ) → r < slice_index regions v → (u : ℕ) × (u < v) × (slice_index regions u ≡ r)

each_more : (n : ℕ) (P : ℕ → Type 0) → ((v : ℕ) → v < n → P v) → P n → (v : ℕ) → v < n + 1 → P v
each_more n P before here v h =
    elim (cases_lt v n) [ inl less ↦ before v less | inr last ↦ (let e : n ≡ v = omega arith in subst P e here) ]

pub met_none : (regions : List ℕ) → IsMet regions 0 0
met_none regions =
    record {
      few = omega arith;
      seen = λ r h. absurd (omega arith);
      below = λ u h. absurd (omega arith);
      order = λ v h r q. absurd (omega arith);
    }

-- the regions below that of the next area, where it is at most the next new one
order_more : (regions : List ℕ) (n met : ℕ) → IsMet regions n met → slice_index regions n ≤ met
    → (v : ℕ) → v < n + 1 → (r : ℕ) → r < slice_index regions v → (u : ℕ) × (u < v) × (slice_index regions u ≡ r)
order_more regions n met is most =
    each_more n (λ v. (r : ℕ) → r < slice_index regions v → (u : ℕ) × (u < v) × (slice_index regions u ≡ r)) is.order
    (λ r q. is.seen r (omega arith))

-- an area of a region that was met
pub met_again : (regions : List ℕ) (n met : ℕ) → IsMet regions n met → slice_index regions n < met → IsMet regions (n + 1) met
met_again regions n met is less =
    let few = is.few in
    record {
      few = omega arith;
      seen = λ r h. (let s = is.seen r h in (s.0, omega (arith, s.1), s.2));
      below = each_more n (λ u. slice_index regions u < met) is.below less;
      order = order_more regions n met is (omega arith);
    }

-- an area of the next region
pub met_new : (regions : List ℕ) (n met : ℕ) → IsMet regions n met → slice_index regions n ≡ met → IsMet regions (n + 1) (met + 1)
met_new regions n met is same =
    let few = is.few in
    record {
      few = omega arith;
      seen = each_more met (λ r. (u : ℕ) × (u < n + 1) × (slice_index regions u ≡ r))
          (λ r h. (let s = is.seen r h in (s.0, omega (arith, s.1), s.2)))
          (n, omega arith, same);
      below = each_more n (λ u. slice_index regions u < met + 1) (λ u h. (let b = is.below u h in omega arith)) (omega arith);
      order = order_more regions n met is (omega arith);
    }

-- an area of a later region
pub met_late : (regions : List ℕ) (n met : ℕ) → IsMet regions n met → n < length regions → met < slice_index regions n → ¬ IsInOrder regions
met_late regions n met is within late order =
    let s = order n within met late in
    let below = is.below s.0 s.1 in
    let same = s.2 in
    omega arith

-- regions in order are numbered by their least areas
pub in_order_numbered : (p : Problem) (g : Grouping) → length g.region_of ≡ areas p → IsInOrder g.region_of → IsNumberedByLeast p g
in_order_numbered p g long order r s u v less within first second =
    let inside : region g v ≡ s = second.inside in
    let in_areas = second.within in
    let earlier = order v (omega arith) r (omega arith) in
    let before = earlier.1 in
    let least = first.least earlier.0 (omega arith) earlier.2 in
    omega arith
