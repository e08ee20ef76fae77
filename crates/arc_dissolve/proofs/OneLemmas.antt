-- What a ring has only one of: its edges, its least edge, the middle of that edge.
use Rattle.std.proofs.Common.{◌≡◌, false, List, [], ◌∷◌, length, map, drop, get_or, refl, sym, ap, subst, ◌∙◌, arith}
use Rattle.std.proofs.lemmas.Bool.{false≢true}
use Rattle.std.proofs.lemmas.List.Elements.{All-contains}
use Rattle.plane_edge.specs.Edges.{is_edge_below}
use Rattle.plane_edge.specs.Rings.{ends_of}
use Rattle.plane_edge.specs.declared.edge.Edge.{Edge}
use Rattle.plane_edge.specs.declared.point.Point.{Point}
use Rattle.plane_edge.specs.declared.spot.Spot.{Spot}
use Rattle.plane_edge.proofs.EqualLemmas.{edges_equal}
use Rattle.plane_edge.proofs.OrderLemmas.{EdgeCase, edge_case}
use Rattle.plane_edge.proofs.OrderLemmas.EdgeCase.{below, same, above}
use Rattle.plane_edge.specs.Middle.{middle_of}
use Rattle.arc_dissolve.specs.Holes.{AreStepsOf, IsLeastOf, IsMiddleOf}

-- an edge is told by its ends
pub edge_of_ends : (e f : Edge) → ends_of e ≡ ends_of f → e ≡ f
edge_of_ends e f h = edges_equal e f (record {
  low_x = ap (λ s. s.0.x) h;
  low_y = ap (λ s. s.0.y) h;
  high_x = ap (λ s. s.1.x) h;
  high_y = ap (λ s. s.1.y) h;
})

pub edges_of_ends : (es fs : List Edge) → map ends_of es ≡ map ends_of fs → es ≡ fs
edges_of_ends [] [] h = refl
edges_of_ends [] (f ∷ fs) h = absurd (omega (arith, ap length h))
edges_of_ends (e ∷ es) [] h = absurd (omega (arith, ap length h))
edges_of_ends (e ∷ es) (f ∷ fs) h =
    let first : ends_of e ≡ ends_of f = ap (λ l. get_or l 0 (ends_of e)) h in
    let rest : map ends_of es ≡ map ends_of fs = ap (λ l. drop 1 l) h in
    ap (λ g. g ∷ es) (edge_of_ends e f first) ∙ ap (λ l. f ∷ l) (edges_of_ends es fs rest)

pub one_edges : (ring : List Point) (es fs : List Edge) → AreStepsOf ring es → AreStepsOf ring fs → es ≡ fs
one_edges ring es fs h k = edges_of_ends es fs (h ∙ sym k)

least_by : (e f : Edge) → is_edge_below e f ≡ false → is_edge_below f e ≡ false → EdgeCase e f → e ≡ f
least_by e f h k (below t) = absurd (false≢true (sym h ∙ t))
least_by e f h k (same t) = t
least_by e f h k (above t) = absurd (false≢true (sym k ∙ t))

pub one_least : (es : List Edge) (e f : Edge) → IsLeastOf es e → IsLeastOf es f → e ≡ f
one_least es e f h k = least_by e f (All-contains (λ g. is_edge_below g f ≡ false) es e k.least h.one) (All-contains (λ g. is_edge_below g e ≡ false) es f h.least k.one) (edge_case e f)

pub one_middle : (ring : List Point) (s t : Spot) → IsMiddleOf ring s → IsMiddleOf ring t → s ≡ t
one_middle ring s t h k =
    let edges = one_edges ring k.edges h.edges k.steps h.steps in
    let least = one_least h.edges h.edge k.edge h.least (subst (λ es. IsLeastOf es k.edge) edges k.least) in
    h.middle ∙ (ap middle_of least ∙ sym k.middle)
