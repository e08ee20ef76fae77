-- What the edges of one drawn region say.
use Rattle.std.proofs.Common.{◌≡◌, ℕ, ◌<◌, inl, inr, refl, sym, ◌∙◌, ap, subst, List, [], length, get_or, Contains}
use Rattle.std.specs.Prelude.{Vec}
use Rattle.std.specs.declared.alloc.Global.{Global}
use Rattle.agg_base.specs.Lists.{lists_of}
use Rattle.std.proofs.lemmas.List.{get_or-map}
use Rattle.agg_model.specs.Problem.{Grouping, region}
use Rattle.plane_edge.specs.declared.edge.Edge.{Edge}
use Rattle.plane_edge.specs.Edges.{IsOdd}
use Rattle.plane_edge.specs.Rings.{Area}
use Rattle.region_edges.specs.RegionEdges.{IsBorderOf, AreBorderOf, list_at}
use Rattle.cert_check.specs.declared.verdict.Verdict.{Verdict}
use Rattle.cert_check.specs.declared.verdict.Verdict.TheVariants.{DrawnEdges}
use Rattle.cert_check.specs.declared.stop.Stop.{Stop}
use Rattle.cert_check.specs.declared.stop.Stop.TheVariants.{Flaw, Memory}
use Rattle.cert_check.specs.Edges.{AreSameIn, IsInOne, IsLeastInOne}
use Rattle.cert_check.specs.Drawings.{IsDrawnAs, IsEdgesFlaw, steps_at}
use Rattle.cert_check.specs.Stops.{IsStop}
use Rattle.cert_check.proofs.EdgeLemmas.{least_in_words, same_through}

-- the steps of a drawn region that was read
pub steps_of : (drawn : List Area) (r : ℕ) (area : Area) → r < length drawn → area ≡ get_or drawn r area → steps_at drawn r ≡ area.steps
steps_of drawn r area h is =
    get_or-map (λ (a : Area). a.steps) drawn r area [] h ∙ ap (λ (a : Area). a.steps) (sym is)

-- the list of a region that was read
pub list_read : (vs : List (Vec Edge Global)) (r : ℕ) (v : Vec Edge Global) (es : List Edge) → r < length vs → v ≡ get_or vs r v → es ≡ v.items → list_at (lists_of vs) r ≡ es
list_read vs r v es h is read =
    get_or-map (λ (w : Vec Edge Global). w.items) vs r v [] h ∙ (ap (λ (w : Vec Edge Global). w.items) (sym is) ∙ sym read)

-- an edge in just one of two sets keeps them from being the same
apart : (P Q : Edge → Type 0) (e : Edge) → IsInOne P Q e → AreSameIn P Q → ⊥
apart P Q e (inl h) all = h.1 ((all e).0 h.0)
apart P Q e (inr h) all = h.1 ((all e).1 h.0)

-- the least edge that differs is the flaw of the region
pub edge_flaw : (odds : List (List Edge)) (drawn : List Area) (g : Grouping) (r : ℕ) (steps due : List Edge) (e : Edge) → r < length g.class_of → ((s : ℕ) → s < r → IsDrawnAs odds drawn g s) → steps_at drawn r ≡ steps → AreBorderOf odds (region g) r due → IsLeastInOne (λ f. IsOdd f steps) (λ f. Contains due f) e → IsEdgesFlaw odds drawn g (DrawnEdges r e)
edge_flaw odds drawn g r steps due e h before is border least =
    let here : IsLeastInOne (λ f. IsOdd f (steps_at drawn r)) (λ f. Contains due f) e = subst (λ (st : List Edge). IsLeastInOne (λ f. IsOdd f st) (λ f. Contains due f) e) (sym is) least in
    let drawn_least = least_in_words (λ f. IsOdd f (steps_at drawn r)) (λ f. IsOdd f (steps_at drawn r)) (λ f. Contains due f) (IsBorderOf odds (region g) r) e (λ f. (λ k. k, λ k. k)) border.exact here in
    (r, e, refl, record { below = h; before = before; fails = λ all. apart (λ f. IsOdd f (steps_at drawn r)) (IsBorderOf odds (region g) r) e drawn_least.in_one all }, drawn_least)

-- where no edge differs the region is drawn as it should be
pub edge_kept : (odds : List (List Edge)) (drawn : List Area) (g : Grouping) (r : ℕ) (steps due : List Edge) → steps_at drawn r ≡ steps → AreBorderOf odds (region g) r due → AreSameIn (λ f. IsOdd f steps) (λ f. Contains due f) → IsDrawnAs odds drawn g r
edge_kept odds drawn g r steps due is border all =
    let here : AreSameIn (λ f. IsOdd f (steps_at drawn r)) (λ f. Contains due f) = subst (λ (st : List Edge). AreSameIn (λ f. IsOdd f st) (λ f. Contains due f)) (sym is) all in
    same_through (λ f. IsOdd f (steps_at drawn r)) (λ f. Contains due f) (IsBorderOf odds (region g) r) here border.exact

-- a stop of one kind is one of another
pub stop_as : (F G : Verdict → Type 0) → ((v : Verdict) → F v → G v) → (s : Stop) → IsStop F s → IsStop G s
stop_as F G more (Flaw v) h = more v h
stop_as F G more Memory h = tt
