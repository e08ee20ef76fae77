-- Parts are the sets that links join.
use Rattle.std.proofs.Common.{◌≡◌, ℕ, zero, suc, ◌+◌, ◌<◌, ◌≢◌, List, [], ◌∷◌, length, refl, ap, sym, ◌∙◌, arith, subst, inl, inr, zero-add, suc-add, add-one}
use Rattle.std.specs.Prelude.{slice_index}
use Rattle.std.specs.List.{Contains}
use Rattle.std.proofs.lemmas.Bool.{cases_eq}
use Rattle.union_find.specs.Sets.{IsPaired, Walk, InOneSet, AreSets}
use Rattle.union_find.proofs.SetLemmas.{contains_first, contains_later, contains_cases, contains_none}
use Rattle.agg_model.specs.Problem.{Problem, AreLinked, areas, low_of, high_of}
use Rattle.agg_model.specs.Parts.{Path, InOnePart, AreParts}

-- ---- paths along links

path_along : (p : Problem) (u v w : ℕ) (n m : ℕ) → Path p v u n → Path p w v m → Path p w u (n + m)
path_along p u v w zero m h k = subst (λ (x : ℕ). Path p w x (0 + m)) (sym h) (rw zero-add k)
path_along p u v w (suc n) m h k = rw suc-add (h.0, h.1, path_along p h.0 v w n m h.2 k)

pub linked_back : (p : Problem) (u v : ℕ) → AreLinked p u v → AreLinked p v u
linked_back p u v h = (h.0, h.1, elim h.2 [ inl e ↦ inr e | inr e ↦ inl e ])

path_back : (p : Problem) (u v : ℕ) (n : ℕ) → Path p v u n → Path p u v n
path_back p u v zero h = sym h
path_back p u v (suc n) h =
    let last : Path p u h.0 1 = (u, linked_back p u h.0 h.1, refl) in
    subst (λ (m : ℕ). Path p u v m) (add-one n) (path_along p v h.0 u n 1 (path_back p h.0 v n h.2) last)

pub part_itself : (p : Problem) (u : ℕ) → InOnePart p u u
part_itself p u = (0, refl)

pub part_back : (p : Problem) (u v : ℕ) → InOnePart p u v → InOnePart p v u
part_back p u v h = (h.0, path_back p u v h.0 h.1)

pub part_along : (p : Problem) (u v w : ℕ) → InOnePart p u v → InOnePart p v w → InOnePart p u w
part_along p u v w h k = (h.0 + k.0, path_along p u v w h.0 k.0 h.1 k.1)

-- ---- the links as pairs

-- the pairs are those of the first n links
pub record AreLinkPairs (p : Problem) (n : ℕ) (pairs : List (ℕ × ℕ)) : Type 0 where
  pub all : (l : ℕ) → l < n → Contains pairs (low_of p l, high_of p l)
  pub only : (u v : ℕ) → Contains pairs (u, v) → (l : ℕ) × (l < n) × (low_of p l ≡ u) × (high_of p l ≡ v)

pub no_pairs : (p : Problem) → AreLinkPairs p 0 []
no_pairs p = record {
  all = λ l h. absurd (omega arith);
  only = λ u v c. contains_none (u, v) c;
}

pub more_pairs : (p : Problem) (n : ℕ) (pairs : List (ℕ × ℕ)) → AreLinkPairs p n pairs → AreLinkPairs p (n + 1) ((low_of p n, high_of p n) ∷ pairs)
more_pairs p n pairs h = record {
  all = λ l b.
      elim (cases_eq l n) [
        | inl e ↦ subst (λ (m : ℕ). Contains ((low_of p n, high_of p n) ∷ pairs) (low_of p m, high_of p m)) (sym e) (contains_first pairs (low_of p n, high_of p n))
        | inr ne ↦ contains_later pairs _ _ (h.all l (omega arith))
      ];
  only = λ u v c.
      elim (contains_cases pairs (low_of p n, high_of p n) (u, v) c) [
        | inl e ↦ (n, omega arith, ap (λ (x : ℕ × ℕ). x.0) e, ap (λ (x : ℕ × ℕ). x.1) e)
        | inr k ↦ (let is = h.only u v k in let b = is.1 in (is.0, omega arith, is.2, is.3))
      ];
}

linked_of_paired : (p : Problem) (pairs : List (ℕ × ℕ)) → AreLinkPairs p (length p.links) pairs → (u v : ℕ) → IsPaired pairs u v → AreLinked p u v
linked_of_paired p pairs are u v h =
    elim h [
      | inl c ↦ (let is = are.only u v c in (is.0, is.1, inl (is.2, is.3)))
      | inr c ↦ (let is = are.only v u c in (is.0, is.1, inr (is.2, is.3)))
    ]

paired_of_linked : (p : Problem) (pairs : List (ℕ × ℕ)) → AreLinkPairs p (length p.links) pairs → (u v : ℕ) → AreLinked p u v → IsPaired pairs u v
paired_of_linked p pairs are u v h =
    let here = are.all h.0 h.1 in
    elim h.2 [ inl e ↦ inl (rw (← e.0, ← e.1) here) | inr e ↦ inr (rw (← e.0, ← e.1) here) ]

path_of_walk : (p : Problem) (pairs : List (ℕ × ℕ)) → AreLinkPairs p (length p.links) pairs → (v u n : ℕ) → Walk pairs v u n → Path p v u n
path_of_walk p pairs are v u zero h = h
path_of_walk p pairs are v u (suc n) h = (h.0, linked_of_paired p pairs are u h.0 h.1, path_of_walk p pairs are v h.0 n h.2)

walk_of_path : (p : Problem) (pairs : List (ℕ × ℕ)) → AreLinkPairs p (length p.links) pairs → (v u n : ℕ) → Path p v u n → Walk pairs v u n
walk_of_path p pairs are v u zero h = h
walk_of_path p pairs are v u (suc n) h = (h.0, paired_of_linked p pairs are u h.0 h.1, walk_of_path p pairs are v h.0 n h.2)

-- the sets that all links join are the parts
pub sets_are_parts : (p : Problem) (pairs : List (ℕ × ℕ)) (heads : List ℕ) → AreLinkPairs p (length p.links) pairs → AreSets pairs heads → length heads ≡ areas p → AreParts p (λ v. slice_index heads v)
sets_are_parts p pairs heads are sets long = record {
  joined = λ v h. (let way = sets.joined v (omega arith) in (way.0, path_of_walk p pairs are (slice_index heads v) v way.0 way.1));
  least = λ u v h k way. sets.least u v (omega arith) (way.0, walk_of_path p pairs are u v way.0 way.1);
}
