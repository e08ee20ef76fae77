-- Steps along the border edges of regions.
use Rattle.std.proofs.Common.{◌≡◌, ◌⊎◌, inl, inr, ℕ, zero, suc, ◌<◌, refl, sym, ◌∙◌, ap, subst, arith, List, [], ◌∷◌, ◌++◌, length, get_or, map, flat_map, Contains}
use Rattle.std.specs.List.{AllZip}
use Rattle.std.proofs.lemmas.List.{get_or_default}
use Rattle.std.proofs.lemmas.List.Concat.{flat_map-append}
use Rattle.plane_edge.specs.Edges.{occurrences}
use Rattle.plane_edge.specs.Rings.{ends_of, steps_of_ring, is_same_step, times}
use Rattle.plane_edge.specs.declared.edge.Edge.{Edge}
use Rattle.plane_edge.specs.declared.point.Point.{Point}
use Rattle.plane_edge.proofs.OddLemmas.{occurs_once, occurs_from_contains}
use Rattle.agg_model.specs.Problem.{Grouping, region}
use Rattle.coverage_check.proofs.Counts.{count-map, some_counted, counted_in, from_map}
use Rattle.region_edges.specs.RegionEdges.{IsBorderOf, AreBorderOf}
use Rattle.region_rings.specs.RegionRings.{AreRingsOf}
use Rattle.ring_arcs.specs.RingArcs.{steps_of_arcs, AreArcsOf}
use Rattle.ring_arcs.specs.Rings.{steps_of_rings}
use Rattle.ring_arcs.proofs.Counts.{contains_piece, piece_that_contains}
use Rattle.ring_arcs.proofs.Points.{same_steps_equal, same_step_itself}
use Rattle.arc_dissolve.specs.Drawing.{one_list, AreBorderSteps, IsBorderEdge, AreBorderArcs}

abbrev Step : Type 0
Step = Point × Point

-- ---- steps that are there

pub there_counted : (s : Step) (steps : List Step) → Contains steps s → 0 < times s steps
there_counted s steps c = counted_in (λ t. is_same_step s t) steps s c (same_step_itself s)

pub counted_there : (s : Step) (steps : List Step) → 0 < times s steps → Contains steps s
counted_there s steps h =
    let r = some_counted (λ t. is_same_step s t) steps h in
    subst (λ t. Contains steps t) (sym (same_steps_equal s r.0 r.1.1)) r.1.0

-- a list has the step or not
pub has_or_not : (s : Step) (steps : List Step) → Contains steps s ⊎ (¬ Contains steps s)
has_or_not s steps = go (times s steps) refl
  where
    go : (n : ℕ) → times s steps ≡ n → Contains steps s ⊎ (¬ Contains steps s)
    go zero e = inr (λ c. absurd (omega (arith, there_counted s steps c, e)))
    go (suc n) e = inl (counted_there s steps (omega (arith, e)))

-- ---- the border of one region

ends_counted : (e : Edge) (edges : List Edge) → times (ends_of e) (map ends_of edges) ≡ occurrences e edges
ends_counted e edges = count-map (λ t. is_same_step (ends_of e) t) ends_of edges

edge_of_step : (edges : List Edge) (s : Step) → 0 < times s (map ends_of edges) → (e : Edge) × ((ends_of e ≡ s) × Contains edges e)
edge_of_step edges s h =
    let r = from_map ends_of edges s (counted_there s (map ends_of edges) h) in
    (r.0, (r.1.1, r.1.0))

pub border_steps : (odds : List (List Edge)) (region : ℕ → ℕ) (r : ℕ) (edges : List Edge) (steps : List Step) → AreBorderOf odds region r edges → ((s : Step) → times s steps ≡ times s (map ends_of edges)) → AreBorderSteps (IsBorderOf odds region r) steps
border_steps odds region r edges steps b h = record {
  once = λ e i.
      let there = occurs_from_contains e edges ((b.exact e).1 i) in
      omega (arith, h (ends_of e), ends_counted e edges, there, occurs_once e edges b.rising);
  only = λ s c.
      let w = edge_of_step edges s (omega (arith, h s, there_counted s steps c)) in
      (w.0, (w.1.0, (b.exact w.0).0 w.1.1));
}

-- ---- the borders of all regions

pub zip_at : {A B : Type 0} (R : A → B → Type 0) (xs : List A) (ys : List B) (i : ℕ) (d : A) (e : B) → AllZip R xs ys → i < length xs → R (get_or xs i d) (get_or ys i e)
zip_at R [] ys i d e z h = absurd (omega arith)
zip_at R (x ∷ xs) [] i d e z h = absurd z
zip_at R (x ∷ xs) (y ∷ ys) zero d e z h = z.0
zip_at R (x ∷ xs) (y ∷ ys) (suc i) d e z h = zip_at R xs ys i d e z.1 (omega arith)

pub zip_length : {A B : Type 0} (R : A → B → Type 0) (xs : List A) (ys : List B) → AllZip R xs ys → length xs ≡ length ys
zip_length R [] [] z = refl
zip_length R [] (y ∷ ys) z = absurd z
zip_length R (x ∷ xs) [] z = absurd z
zip_length R (x ∷ xs) (y ∷ ys) z = ap (λ n. suc n) (zip_length R xs ys z.1)

-- the steps of all rings, region by region
joined_steps : (groups : List (List (List Point))) → flat_map steps_of_ring (one_list groups) ≡ flat_map (λ rings. flat_map steps_of_ring rings) groups
joined_steps [] = refl
joined_steps (g ∷ gs) = flat_map-append steps_of_ring g (one_list gs) ∙ ap (λ l. flat_map steps_of_ring g ++ l) (joined_steps gs)

-- the edges of the regions, and their rings
pub record AreDrawn (odds : List (List Edge)) (groups : Grouping) (borders : List (List Edge)) (rings : List (List (List Point))) : Type 0 where
  pub count : length borders ≡ length groups.class_of
  pub exact : (r : ℕ) → r < length groups.class_of → AreBorderOf odds (region groups) r (get_or borders r [])
  pub drawn : AllZip AreRingsOf borders rings

-- an edge is a border edge exactly where some ring steps along it
step_of_border : (odds : List (List Edge)) (groups : Grouping) (borders : List (List Edge)) (rings : List (List (List Point))) (e : Edge) → AreDrawn odds groups borders rings → IsBorderEdge odds groups e → Contains (steps_of_rings (one_list rings)) (ends_of e)
step_of_border odds groups borders rings e d b =
    let r = b.0 in
    let edges = get_or borders r [] in
    let within : r < length borders = omega (arith, d.count, b.1.0) in
    let there = occurs_from_contains e edges (((d.exact r b.1.0).exact e).1 b.1.1) in
    let ring = zip_at AreRingsOf borders rings r [] [] d.drawn within in
    let some : 0 < times (ends_of e) (flat_map steps_of_ring (get_or rings r [])) = omega (arith, ring.exact (ends_of e), ends_counted e edges, there) in
    let in_group : Contains (flat_map steps_of_ring (get_or rings r [])) (ends_of e) = counted_there (ends_of e) (flat_map steps_of_ring (get_or rings r [])) some in
    let n : r < length rings = omega (arith, within, zip_length AreRingsOf borders rings d.drawn) in
    subst (λ l. Contains l (ends_of e)) (sym (joined_steps rings)) (contains_piece (λ g. flat_map steps_of_ring g) rings (ends_of e) (r, get_or rings r [], n, get_or_default rings r (get_or rings r []) [] n, in_group))

border_of_step : (odds : List (List Edge)) (groups : Grouping) (borders : List (List Edge)) (rings : List (List (List Point))) (s : Step) → AreDrawn odds groups borders rings → Contains (steps_of_rings (one_list rings)) s → (e : Edge) × ((ends_of e ≡ s) × IsBorderEdge odds groups e)
border_of_step odds groups borders rings s d c =
    let w = piece_that_contains (λ g. flat_map steps_of_ring g) rings s (subst (λ l. Contains l s) (joined_steps rings) c) in
    let r = w.0 in
    let edges = get_or borders r [] in
    let within : r < length borders = omega (arith, w.2, zip_length AreRingsOf borders rings d.drawn) in
    let ring = subst (λ g. AreRingsOf edges g) w.3 (zip_at AreRingsOf borders rings r [] w.1 d.drawn within) in
    let e = edge_of_step edges s (omega (arith, ring.exact s, there_counted s (flat_map steps_of_ring w.1) w.4)) in
    let inside : r < length groups.class_of = omega (arith, d.count, within) in
    (e.0, (e.1.0, (r, (inside, ((d.exact r inside).exact e.0).0 e.1.1))))

pub border_arcs : (odds : List (List Edge)) (groups : Grouping) (borders : List (List Edge)) (rings : List (List (List Point))) (arcs : List (List Point)) → AreDrawn odds groups borders rings → AreArcsOf (one_list rings) arcs → AreBorderArcs odds groups arcs
border_arcs odds groups borders rings arcs d a = record {
  long = a.long;
  stepping = a.stepping;
  in_order = a.in_order;
  steps = record {
    once = λ e b. a.once (ends_of e) (step_of_border odds groups borders rings e d b);
    only = λ s c.
        (elim (has_or_not s (steps_of_rings (one_list rings))) [
          | inl t ↦ border_of_step odds groups borders rings s d t
          | inr f ↦ absurd (omega (arith, there_counted s (steps_of_arcs arcs) c, a.never s f))
        ]);
  };
}
