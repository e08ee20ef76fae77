-- The least of some edges.
use Rattle.std.proofs.Common.{◌≡◌, ℕ, ◌+◌, ◌<◌, Bool, true, false, cond, List, length, take, get_or, All, Contains, refl, sym, subst, ◌∙◌}
use Rattle.std.proofs.lemmas.Bool.{false≢true}
use Rattle.std.proofs.lemmas.List.Elements.{All-more, All-weaker, Contains-get_or}
use Rattle.plane_edge.specs.Edges.{is_edge_below}
use Rattle.plane_edge.specs.declared.edge.Edge.{Edge}
use Rattle.plane_edge.proofs.OrderLemmas.{edge_below-trans, edge_below-irreflexive}
use Rattle.arc_dissolve.specs.Holes.{lesser_edge}

-- what is not below the greater of two edges is not below the lesser
not_below : (b : Bool) (e f g : Edge) → is_edge_below g e ≡ true → is_edge_below f e ≡ false → is_edge_below f g ≡ b → b ≡ false
not_below false e f g h k is = refl
not_below true e f g h k is = absurd (false≢true (sym k ∙ edge_below-trans f g e is h))

-- the least of the first edges, with one more
pub record IsLeastSoFar (edges : List Edge) (i : ℕ) (e : Edge) : Type 0 where
  pub one : Contains edges e
  pub least : All (λ f. is_edge_below f e ≡ false) (take i edges)

least_by : (b : Bool) (edges : List Edge) (i : ℕ) (least e new : Edge) → i < length edges → e ≡ get_or edges i e → is_edge_below e least ≡ b → new ≡ cond b e least → IsLeastSoFar edges i least → IsLeastSoFar edges (i + 1) new
least_by true edges i least e new h is t n so =
    let here : Contains edges e = subst (λ g. Contains edges g) (sym is) (Contains-get_or edges i e h) in
    let all : All (λ f. is_edge_below f e ≡ false) (take i edges) = All-weaker (λ f. is_edge_below f least ≡ false) (λ f. is_edge_below f e ≡ false) (λ f k. not_below (is_edge_below f e) least f e t k refl) (take i edges) so.least in
    let itself : is_edge_below (get_or edges i e) e ≡ false = subst (λ g. is_edge_below g e ≡ false) is (edge_below-irreflexive e) in
    subst (λ g. IsLeastSoFar edges (i + 1) g) (sym n) (record { one = here; least = All-more (λ f. is_edge_below f e ≡ false) edges i e h all itself })
least_by false edges i least e new h is t n so =
    let itself : is_edge_below (get_or edges i e) least ≡ false = subst (λ g. is_edge_below g least ≡ false) is t in
    subst (λ g. IsLeastSoFar edges (i + 1) g) (sym n) (record { one = so.one; least = All-more (λ f. is_edge_below f least ≡ false) edges i e h so.least itself })

pub least_more : (edges : List Edge) (i : ℕ) (least e new : Edge) → i < length edges → e ≡ get_or edges i e → new ≡ lesser_edge least e → IsLeastSoFar edges i least → IsLeastSoFar edges (i + 1) new
least_more edges i least e new h is n so = least_by (is_edge_below e least) edges i least e new h is refl n so
