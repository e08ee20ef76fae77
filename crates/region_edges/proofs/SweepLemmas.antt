-- The odd edges of each of many lists.
use Rattle.std.proofs.Common.{◌≡◌, ◌⊎◌, inl, inr, ℕ, ◌+◌, ◌<◌, ◌≤◌, refl, sym, ◌∙◌, subst, arith, List, [], ◌∷◌, ◌++◌, length, length-append}
use Rattle.std.proofs.lemmas.List.{get_or_append_left, get_or_push}
use Rattle.std.proofs.lemmas.List.Sums.{sum_by_push}
use Rattle.plane_edge.specs.declared.edge.Edge.{Edge}
use Rattle.plane_edge.specs.Edges.{AreOddOf}
use Rattle.region_edges.specs.RegionEdges.{list_at, edge_count}

-- as many lists, each with the odd edges of the list that it stands for
pub record AreOddOfEach (edges odds : List (List Edge)) : Type 0 where
  pub one_each : length odds ≡ length edges
  pub odd : (r : ℕ) → r < length edges → AreOddOf (list_at edges r) (list_at odds r)
  pub short : edge_count odds ≤ edge_count edges

pub none_swept : AreOddOfEach [] []
none_swept = record { one_each = refl; odd = λ r l. absurd (omega arith); short = omega arith }

last_or_before : (r n : ℕ) → r < n + 1 → (r ≡ n) ⊎ (r < n)
last_or_before r n h = grind arith

-- one list more
pub one_swept : (edges odds : List (List Edge)) (list odd : List Edge) → AreOddOf list odd → length odd ≤ length list → AreOddOfEach edges odds → AreOddOfEach (edges ++ list ∷ []) (odds ++ odd ∷ [])
one_swept edges odds list odd is short all = record {
  one_each = (let long = all.one_each in omega (arith, length-append edges (list ∷ []), length-append odds (odd ∷ [])));
  odd = λ r l. elim (last_or_before r (length edges) (omega (arith, length-append edges (list ∷ [])))) [
    | inl q ↦
        let of_list : list_at (edges ++ list ∷ []) r ≡ list = get_or_push edges list [] r (sym q) in
        let of_odd : list_at (odds ++ odd ∷ []) r ≡ odd = get_or_push odds odd [] r (all.one_each ∙ sym q) in
        subst (λ (es : List Edge). AreOddOf es (list_at (odds ++ odd ∷ []) r)) (sym of_list) (subst (λ (es : List Edge). AreOddOf list es) (sym of_odd) is)
    | inr k ↦
        let long = all.one_each in
        let of_list : list_at (edges ++ list ∷ []) r ≡ list_at edges r = get_or_append_left edges (list ∷ []) [] r k in
        let of_odd : list_at (odds ++ odd ∷ []) r ≡ list_at odds r = get_or_append_left odds (odd ∷ []) [] r (omega arith) in
        subst (λ (es : List Edge). AreOddOf es (list_at (odds ++ odd ∷ []) r)) (sym of_list) (subst (λ (es : List Edge). AreOddOf (list_at edges r) es) (sym of_odd) (all.odd r k))
  ];
  short =
      (let before = all.short in
      omega (arith, sum_by_push (λ (es : List Edge). length es) edges list, sum_by_push (λ (es : List Edge). length es) odds odd));
}
