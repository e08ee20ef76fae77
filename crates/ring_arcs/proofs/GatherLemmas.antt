-- The arcs of all rings.
use Rattle.std.proofs.Common.{◌≡◌, ℕ, ◌+◌, ◌<◌, sym, ◌∙◌, ap, subst, ◌↔◌, List, [], ◌∷◌, ◌++◌, length, get_or, take, map, All, Contains, Vec, Global}
use Rattle.std.specs.Cmp.Lexicographic.{slice_cmp}
use Rattle.std.specs.List.Sorted.{IsStrictlySortedBy}
use Rattle.std.proofs.lemmas.List.{take_more, map_push}
use Rattle.std.proofs.lemmas.List.Elements.{All-append, All-push, All-weaker, All-contains, Contains-get_or}
use Rattle.plane_edge.specs.declared.point.Point.{Point}
use Rattle.plane_edge.specs.Rings.{in_order, steps_of_ring}
use Rattle.ring_arcs.specs.Breaks.{is_break}
use Rattle.ring_arcs.specs.Chains.{HasWay, IsChain, IsArc, IsCovered, AreSymmetric, AreChainsOf, AddsArcs, AreAlong, AreGathered, AreStored}
use Rattle.ring_arcs.specs.RingArcs.{steps_of_arc}
use Rattle.agg_base.specs.Lists.{lists_of}
use Rattle.ring_arcs.specs.Rings.{steps_of_rings}
use Rattle.ring_arcs.specs.Turning.{arc_of}
use Rattle.ring_arcs.specs.Ways.{point_order, AreWaysOf, IsStepBetween}
use Rattle.ring_arcs.proofs.ChainLemmas.{AreWays}
use Rattle.ring_arcs.proofs.Counts.{any_left, any_right, any_mapped, any_weaker, any_contained, piece_that_contains, contains_piece, all_into_map, into_map}
use Rattle.ring_arcs.proofs.TurnLemmas.{arc_of_chain, step_of_stored}
use Rattle.ring_arcs.proofs.WalkLemmas.{AreLong, walk_has_step}
use Rattle.ring_arcs.proofs.WayLemmas.{are_ways}

pub chains_long : (ways : List (Point × Point)) (loops ring : List Point) (chains : List (List Point)) → AreChainsOf ways loops ring chains → AreLong chains
chains_long ways loops ring chains c = λ k d l. (c.each k d l).long

-- each step of a ring is along one of the arcs that its chains are stored as
ring_along : (ways : List (Point × Point)) (loops ring : List Point) (chains : List (List Point)) → AreWays (HasWay ways) (is_break ways loops) → AreChainsOf ways loops ring chains → AreAlong (map arc_of chains) (steps_of_ring ring)
ring_along ways loops ring chains ws c p q s =
    let walked = walk_has_step ring chains (chains_long ways loops ring chains c) c.walk (in_order p q) s in
    any_mapped (λ arc. IsStepBetween (steps_of_arc arc) p q) arc_of chains
    (any_weaker (λ path. Contains (steps_of_arc path) (in_order p q)) (λ path. Contains (steps_of_arc (arc_of path)) (in_order p q)) chains
    (λ path i h. step_of_stored ws path (in_order p q) (All-contains (IsChain (HasWay ways) (is_break ways loops)) chains path c.each i) h) walked)

pub gathered_more : (ways : List (Point × Point)) (loops ring : List Point) (rings old new : List (List Point)) → AreSymmetric ways → AddsArcs ways loops ring old new → AreGathered ways loops rings old → AreGathered ways loops (rings ++ ring ∷ []) new
gathered_more ways loops ring rings old new s a g = subst (AreGathered ways loops (rings ++ ring ∷ [])) (sym a.is) (record {
  each = All-append (IsArc ways loops) old (map arc_of a.chains) g.each
      (all_into_map (IsArc ways loops) arc_of a.chains (All-weaker (IsChain (HasWay ways) (is_break ways loops)) (λ c. IsArc ways loops (arc_of c)) (λ c h. arc_of_chain ways loops c (are_ways ways loops s) h) a.chains a.are.each));
  whole = All-push (λ r. AreAlong (old ++ map arc_of a.chains) (steps_of_ring r)) rings ring
      (All-weaker (λ r. AreAlong old (steps_of_ring r)) (λ r. AreAlong (old ++ map arc_of a.chains) (steps_of_ring r)) (λ r h p q t. any_left (λ arc. IsStepBetween (steps_of_arc arc) p q) old (map arc_of a.chains) (h p q t)) rings g.whole)
      (λ p q t. any_right (λ arc. IsStepBetween (steps_of_arc arc) p q) old (map arc_of a.chains) (ring_along ways loops ring a.chains (are_ways ways loops s) a.are p q t));
})

pub gathered_step : (ways : List (Point × Point)) (loops : List Point) (rings : List (Vec Point Global)) (i : ℕ) (ring : Vec Point Global) (old new : List (List Point)) → i < length rings → ring ≡ get_or rings i ring → AreSymmetric ways → AddsArcs ways loops ring.items old new → AreGathered ways loops (lists_of (take i rings)) old → AreGathered ways loops (lists_of (take (i + 1) rings)) new
gathered_step ways loops rings i ring old new l e s a g =
    let more : lists_of (take (i + 1) rings) ≡ lists_of (take i rings) ++ ring.items ∷ [] =
    ap (λ (vs : List (Vec Point Global)). lists_of vs) (take_more rings i ring l) ∙ map_push (λ (v : Vec Point Global). v.items) (take i rings) (get_or rings i ring) ∙ ap (λ (v : Vec Point Global). lists_of (take i rings) ++ v.items ∷ []) (sym e) in
    subst (λ (rs : List (List Point)). AreGathered ways loops rs new) (sym more) (gathered_more ways loops ring.items (lists_of (take i rings)) old new s a g)

-- sorted and each once, they are stored
pub stored_from_gathered : (ways : List (Point × Point)) (loops : List Point) (rings old new : List (List Point)) → AreWaysOf (steps_of_rings rings) ways → IsStrictlySortedBy (slice_cmp point_order) new → ((arc : List Point) → Contains new arc ↔ Contains old arc) → AreGathered ways loops rings old → AreStored ways loops new
stored_from_gathered ways loops rings old new w s same g = record {
  rising = s;
  each = λ k d l. All-contains (IsArc ways loops) old (get_or new k d) g.each ((same (get_or new k d)).0 (contains_at k d l));
  whole = λ p q h. (
      let piece = piece_that_contains steps_of_ring rings (in_order p q) ((w p q).0 h) in
      let along = All-contains (λ r. AreAlong old (steps_of_ring r)) rings piece.1 g.whole (piece.0, piece.2, piece.3) p q piece.4 in
      any_contained (λ arc. IsStepBetween (steps_of_arc arc) p q) new along.1 ((same along.1).1 (along.0, along.2, along.3)) along.4);
}
  where
    contains_at : (k : ℕ) (d : List Point) → k < length new → Contains new (get_or new k d)
    contains_at k d l = Contains-get_or new k d l

-- the ways of all rings lead along the steps of each
pub all_covered : (rings : List (Vec Point Global)) (ways : List (Point × Point)) → AreWaysOf (steps_of_rings (lists_of rings)) ways → All (λ ring. IsCovered ways ring.items) rings
all_covered rings ways w = λ k d l p q s. (
    let ring : Vec Point Global = get_or rings k d in
    let inside : Contains (lists_of rings) ring.items = into_map (λ (v : Vec Point Global). v.items) rings ring (Contains-get_or rings k d l) in
    (w p q).1 (contains_piece steps_of_ring (lists_of rings) (in_order p q) (any_contained (λ r. Contains (steps_of_ring r) (in_order p q)) (lists_of rings) ring.items inside s)))

-- what holds of each ring holds of the one at hand
pub one_of_rings : (P : List Point → Type 0) (rings : List (Vec Point Global)) (i : ℕ) (ring : Vec Point Global) (points : List Point) → All (λ r. P r.items) rings → i < length rings → ring ≡ get_or rings i ring → points ≡ ring.items → P points
one_of_rings P rings i ring points h l e is = subst P (sym is) (subst (λ (r : Vec Point Global). P r.items) (sym e) (h i ring l))
