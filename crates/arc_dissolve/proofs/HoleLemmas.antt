-- Holes with the shells that own them.
use Rattle.std.proofs.Common.{◌≡◌, ◌≢◌, ℕ, ◌<◌, ◌≤◌, inl, inr, true, false, ℤ, ◌<ℤ◌, List, [], ◌∷◌, length, map, get_or, slice_index, All, refl, sym, ap, subst, ◌∙◌, arith}
use Rattle.std.specs.List.Sorted.{IsNonDecreasingBy, IsPermutation}
use Rattle.std.proofs.lemmas.Bool.{false≢true}
use Rattle.std.proofs.lemmas.List.{get_or-map, get_or_default, length-map}
use Rattle.std.proofs.lemmas.List.Elements.{All-weaker, Contains-get_or}
use Rattle.std.proofs.lemmas.List.Sorted.{Contains-permutation, IsPermutation-sym, IsPermutation-trans}
use Rattle.plane_edge.specs.Plane.{IsInside}
use Rattle.plane_edge.specs.Rings.{ends_of, steps_of_ring}
use Rattle.plane_edge.specs.declared.edge.Edge.{Edge}
use Rattle.plane_edge.specs.declared.point.Point.{Point}
use Rattle.plane_edge.specs.declared.spot.Spot.{Spot}
use Rattle.edge_rows.proofs.CrossLemmas.{inside_alike}
use Rattle.arc_dissolve.specs.declared.shell.Shell.{Shell}
use Rattle.arc_dissolve.specs.Drawing.{rings_in, ArePolygonsOf}
use Rattle.arc_dissolve.specs.Holes.{is_shell, first_arc, first_ring, IsMiddleOf, IsAround, IsCandidate, IsNotAfter, IsOwner, IsUnowned, IsPolygon}
use Rattle.arc_dissolve.specs.Rings.{points_round, round_sum}
use Rattle.arc_dissolve.specs.Shells.{AreRowsOf, IsShellOf, IsShellAmong, AreShells, IsNoLater, IsBestOf, IsOutside, IsHead, AreHeadsOf}
use Rattle.arc_dissolve.specs.Shells.IsHead.{shell, unowned, owned}
use Rattle.arc_dissolve.specs.Slots.{AreHeads, IsBehind, IsGroup, ArePlaced, rings_behind, AreGroups}
use Rattle.arc_dissolve.proofs.OneLemmas.{one_edges, one_middle}
use Rattle.arc_dissolve.proofs.OrderLemmas.{in_order_placed, in_order_before_map}

-- the rings, their points, the shells among them, and with which ring each stands
pub record IsLaidOut (arcs : List (List Point)) (rings : List (List ℤ)) (shells : List Shell) (heads : List ℕ) : Type 0 where
  pub shells_are : AreShells rings (map (points_round arcs) rings) (length (map (points_round arcs) rings)) shells
  pub heads_are : AreHeadsOf shells (map (points_round arcs) rings) heads

-- a shell of the list, where the list has one
shell_in : (shells : List Shell) (n : ℕ) → n < length shells → Shell
shell_in [] n h = absurd (omega arith)
shell_in (s ∷ ss) n h = s

outline_at : (arcs : List (List Point)) (rings : List (List ℤ)) (k : ℕ) → k < length rings → get_or (map (points_round arcs) rings) k [] ≡ points_round arcs (get_or rings k [])
outline_at arcs rings k h = get_or-map (points_round arcs) rings k [] [] h

-- a spot is inside the rows of a ring exactly where it is inside the ring's edges
inside_rows : (ring : List Point) (rows edges : List Edge) (s : Spot) → AreRowsOf ring rows → map ends_of edges ≡ steps_of_ring ring → IsInside edges s → IsInside rows s
inside_rows ring rows edges s r h i = (inside_alike rows r.edges r.alike s).1 (subst (λ es. IsInside es s) (one_edges ring edges r.edges h r.steps) i)

-- what stands at the place of a shell
pub record IsFound (arcs : List (List Point)) (rings : List (List ℤ)) (s : Shell) : Type 0 where
  pub within : s.place < length rings
  pub is : is_shell (points_round arcs (get_or rings s.place [])) ≡ true
  pub tells : IsShellOf (get_or rings s.place []) (points_round arcs (get_or rings s.place [])) s

found : (arcs : List (List Point)) (rings : List (List ℤ)) (s : Shell) → IsShellAmong rings (map (points_round arcs) rings) s → IsFound arcs rings s
found arcs rings s h =
    let within : s.place < length rings = omega (arith, h.within, length-map rings (points_round arcs)) in
    let at = outline_at arcs rings s.place within in
    record {
      within = within;
      is = subst (λ o. is_shell o ≡ true) at h.is;
      tells = subst (λ o. IsShellOf (get_or rings s.place []) o s) at h.tells;
    }

-- a candidate is one of the shells that the spot is inside
pub record IsMet (arcs : List (List Point)) (rings : List (List ℤ)) (shells : List Shell) (spot : Spot) (ring : List ℤ) : Type 0 where
  pub at : ℕ
  pub within : at < length shells
  pub one : Shell
  pub is : get_or shells at one ≡ one
  pub tells : IsShellOf ring (points_round arcs ring) one
  pub inside : IsInside one.rows spot

met_at : (arcs : List (List Point)) (rings : List (List ℤ)) (shells : List Shell) (hole other : List ℤ) (spot : Spot) (k at : ℕ) (one : Shell) → All (IsShellAmong rings (map (points_round arcs) rings)) shells → IsMiddleOf (points_round arcs hole) spot → IsAround (points_round arcs other) (points_round arcs hole) → get_or rings k [] ≡ other → at < length shells → get_or shells at one ≡ one → one.place ≡ k → IsMet arcs rings shells spot other
met_at arcs rings shells hole other spot k at one each m around here h is place =
    let tells = found arcs rings one (subst (λ s. IsShellAmong rings (map (points_round arcs) rings) s) is (each at one h)) in
    let that : get_or rings one.place [] ≡ other = ap (λ p. get_or rings p []) place ∙ here in
    let told_of = subst (λ r. IsShellOf r (points_round arcs r) one) that tells.tells in
    let same = one_middle (points_round arcs hole) around.spot spot around.middle m in
    record {
      at = at;
      within = h;
      one = one;
      is = is;
      tells = told_of;
      inside = inside_rows (points_round arcs other) one.rows around.edges spot told_of.rows around.steps (subst (λ s. IsInside around.edges s) same around.inside);
    }

met : (arcs : List (List Point)) (rings : List (List ℤ)) (shells : List Shell) (heads : List ℕ) (hole other : List ℤ) (spot : Spot) → IsLaidOut arcs rings shells heads → IsMiddleOf (points_round arcs hole) spot → IsCandidate arcs rings hole other → IsMet arcs rings shells spot other
met arcs rings shells heads hole other spot l m c =
    let k = c.among.0 in
    let here : get_or rings k [] ≡ other = get_or_default rings k [] other c.among.1 ∙ c.among.2 in
    let is : is_shell (get_or (map (points_round arcs) rings) k []) ≡ true = ap is_shell (outline_at arcs rings k c.among.1 ∙ ap (points_round arcs) here) ∙ c.is in
    let some = l.shells_are.complete k (omega (arith, c.among.1, length-map rings (points_round arcs))) is in
    met_at arcs rings shells hole other spot k some.0 some.1 l.shells_are.each m c.around here some.2 some.3 some.4

not_after : (arcs : List (List Point)) (r t : List ℤ) (a b : Shell) → IsShellOf r (points_round arcs r) a → IsShellOf t (points_round arcs t) b → IsNoLater a b → IsNotAfter arcs r t
not_after arcs r t a b h k (inl l) = inl (subst (λ x. x <ℤ round_sum (points_round arcs t)) h.sum (subst (λ y. a.sum <ℤ y) k.sum l))
not_after arcs r t a b h k (inr e) = inr (sym h.sum ∙ (e.0 ∙ k.sum), subst (λ x. x ≤ first_arc t) h.first (subst (λ y. a.first ≤ y) k.first e.1))

-- the best shell around the hole's spot is its owner
owner : (arcs : List (List Point)) (rings : List (List ℤ)) (shells : List Shell) (heads : List ℕ) (hole : List ℤ) (spot : Spot) (best : ℕ) (s : Shell) → IsLaidOut arcs rings shells heads → is_shell (points_round arcs hole) ≡ false → IsMiddleOf (points_round arcs hole) spot → IsBestOf shells spot (length shells) best → get_or shells best s ≡ s → IsOwner arcs rings (get_or rings s.place []) hole
owner arcs rings shells heads hole spot best s l h m b e =
    let f = found arcs rings s (subst (λ x. IsShellAmong rings (map (points_round arcs) rings) x) e (l.shells_are.each best s b.within)) in
    let ring = get_or rings s.place [] in
    let rows = f.tells.rows in
    let inside : IsInside s.rows spot = subst (λ x. IsInside x.rows spot) e (b.inside s) in
    record {
      is_hole = h;
      candidate = record {
        among = Contains-get_or rings s.place [] f.within;
        is = f.is;
        around = record { edges = rows.edges; steps = rows.steps; spot = spot; middle = m; inside = (inside_alike s.rows rows.edges rows.alike spot).0 inside };
      };
      least = λ other c.
          let t = met arcs rings shells heads hole other spot l m c in
          let at : get_or shells t.at s ≡ t.one = get_or_default shells t.at s t.one t.within ∙ t.is in
          let no_later = b.least t.at s t.within (subst (λ x. IsInside x.rows spot) (sym at) t.inside) in
          not_after arcs ring other s t.one f.tells t.tells (subst (λ x. IsNoLater x t.one) e (subst (λ y. IsNoLater (get_or shells best s) y) at no_later));
    }

no_owner : (arcs : List (List Point)) (rings : List (List ℤ)) (shells : List Shell) (heads : List ℕ) (hole : List ℤ) (spot : Spot) → IsLaidOut arcs rings shells heads → IsMiddleOf (points_round arcs hole) spot → IsOutside shells spot (length shells) → IsUnowned arcs rings hole
no_owner arcs rings shells heads hole spot l m o other c =
    let t = met arcs rings shells heads hole other spot l m c in
    o t.at t.one t.within (subst (λ x. IsInside x.rows spot) (sym t.is) t.inside)

-- ---- places of heads

head_at : (arcs : List (List Point)) (rings : List (List ℤ)) (shells : List Shell) (heads : List ℕ) (k : ℕ) → IsLaidOut arcs rings shells heads → k < length rings → IsHead shells (points_round arcs (get_or rings k [])) k (slice_index heads k)
head_at arcs rings shells heads k l h =
    subst (λ o. IsHead shells o k (slice_index heads k)) (outline_at arcs rings k h) (l.heads_are.each k (omega (arith, h, length-map rings (points_round arcs))))

-- the place of a best shell is that of a shell
pub record IsShellPlace (arcs : List (List Point)) (rings : List (List ℤ)) (p : ℕ) : Type 0 where
  pub within : p < length rings
  pub is : is_shell (points_round arcs (get_or rings p [])) ≡ true

best_place : (arcs : List (List Point)) (rings : List (List ℤ)) (shells : List Shell) (heads : List ℕ) (spot : Spot) (best p : ℕ) → IsLaidOut arcs rings shells heads → IsBestOf shells spot (length shells) best → ((d : Shell) → p ≡ (get_or shells best d).place) → IsShellPlace arcs rings p
best_place arcs rings shells heads spot best p l b e =
    let d = shell_in shells best b.within in
    let f = found arcs rings (get_or shells best d) (l.shells_are.each best d b.within) in
    record {
      within = subst (λ q. q < length rings) (sym (e d)) f.within;
      is = subst (λ q. is_shell (points_round arcs (get_or rings q [])) ≡ true) (sym (e d)) f.is;
    }

-- where a ring stands with itself or with a shell
pub data Standing (arcs : List (List Point)) (rings : List (List ℤ)) (k h : ℕ) : Type 0 where
  itself : h ≡ k → Standing arcs rings k h
  behind : IsShellPlace arcs rings h → Standing arcs rings k h

standing : (arcs : List (List Point)) (rings : List (List ℤ)) (shells : List Shell) (heads : List ℕ) (outline : List Point) (k h : ℕ) → IsLaidOut arcs rings shells heads → IsHead shells outline k h → Standing arcs rings k h
standing arcs rings shells heads outline k h l (shell t e) = itself e
standing arcs rings shells heads outline k h l (unowned t s m o e) = itself e
standing arcs rings shells heads outline k h l (owned t s m best b e) = behind (best_place arcs rings shells heads s best h l b e)

-- a shell stands with itself
own_head : (shells : List Shell) (outline : List Point) (k h : ℕ) → is_shell outline ≡ true → IsHead shells outline k h → h ≡ k
own_head shells outline k h t (shell u e) = e
own_head shells outline k h t (unowned u s m o e) = absurd (false≢true (sym u ∙ t))
own_head shells outline k h t (owned u s m best b e) = absurd (false≢true (sym u ∙ t))

within_by : (arcs : List (List Point)) (rings : List (List ℤ)) (k h : ℕ) → k < length rings → Standing arcs rings k h → h < length rings
within_by arcs rings k h l (itself e) = subst (λ j. j < length rings) (sym e) l
within_by arcs rings k h l (behind s) = s.within

settled_by : (arcs : List (List Point)) (rings : List (List ℤ)) (shells : List Shell) (heads : List ℕ) (k h : ℕ) → IsLaidOut arcs rings shells heads → slice_index heads k ≡ h → Standing arcs rings k h → slice_index heads h ≡ h
settled_by arcs rings shells heads k h l e (itself i) = ap (slice_index heads) i ∙ e
settled_by arcs rings shells heads k h l e (behind s) = own_head shells (points_round arcs (get_or rings h [])) h (slice_index heads h) s.is (head_at arcs rings shells heads h l s.within)

pub heads_settled : (arcs : List (List Point)) (rings : List (List ℤ)) (shells : List Shell) (heads : List ℕ) → IsLaidOut arcs rings shells heads → AreHeads (length rings) heads
heads_settled arcs rings shells heads l = record {
  count = l.heads_are.count ∙ length-map rings (points_round arcs);
  within = λ k h. within_by arcs rings k (slice_index heads k) h (standing arcs rings shells heads (points_round arcs (get_or rings k [])) k (slice_index heads k) l (head_at arcs rings shells heads k l h));
  settled = λ k h. settled_by arcs rings shells heads k (slice_index heads k) l refl (standing arcs rings shells heads (points_round arcs (get_or rings k [])) k (slice_index heads k) l (head_at arcs rings shells heads k l h));
}

-- ---- polygons

owned_by : (arcs : List (List Point)) (rings : List (List ℤ)) (shells : List Shell) (heads : List ℕ) (k h : ℕ) → IsLaidOut arcs rings shells heads → k ≢ h → IsHead shells (points_round arcs (get_or rings k [])) k h → IsOwner arcs rings (get_or rings h []) (get_or rings k [])
owned_by arcs rings shells heads k h l n (shell t e) = absurd (n (sym e))
owned_by arcs rings shells heads k h l n (unowned t s m o e) = absurd (n (sym e))
owned_by arcs rings shells heads k h l n (owned t s m best b e) =
    let d = shell_in shells best b.within in
    let z = get_or shells best d in
    subst (λ p. IsOwner arcs rings (get_or rings p []) (get_or rings k [])) (sym (e d)) (owner arcs rings shells heads (get_or rings k []) s best z l t m b (get_or_default shells best z d b.within))

behind_owned : (arcs : List (List Point)) (rings : List (List ℤ)) (shells : List Shell) (heads : List ℕ) (h : ℕ) (ring : List ℤ) → IsLaidOut arcs rings shells heads → IsBehind rings heads h ring → IsOwner arcs rings (get_or rings h []) ring
behind_owned arcs rings shells heads h ring l b =
    let at = subst (λ p. IsHead shells (points_round arcs (get_or rings b.at [])) b.at p) b.head (head_at arcs rings shells heads b.at l b.within) in
    subst (λ r. IsOwner arcs rings (get_or rings h []) r) (sym b.is) (owned_by arcs rings shells heads b.at h l b.apart at)

alone_by : (arcs : List (List Point)) (rings : List (List ℤ)) (shells : List Shell) (heads : List ℕ) (h : ℕ) → IsLaidOut arcs rings shells heads → is_shell (points_round arcs (get_or rings h [])) ≡ false → IsHead shells (points_round arcs (get_or rings h [])) h h → IsUnowned arcs rings (get_or rings h [])
alone_by arcs rings shells heads h l f (shell t e) = absurd (false≢true (sym f ∙ t))
alone_by arcs rings shells heads h l f (unowned t s m o e) = no_owner arcs rings shells heads (get_or rings h []) s l m o
alone_by arcs rings shells heads h l f (owned t s m best b e) = absurd (false≢true (sym f ∙ (best_place arcs rings shells heads s best h l b e).is))

polygon_of : (arcs : List (List Point)) (rings : List (List ℤ)) (shells : List Shell) (heads : List ℕ) (h : ℕ) (group : List (List ℤ)) → IsLaidOut arcs rings shells heads → IsNonDecreasingBy first_arc rings → IsGroup rings heads h group → ArePlaced rings (length rings) (rings_behind group) → IsPolygon arcs rings group
polygon_of arcs rings shells heads h group l o g p = record {
  front = get_or rings h [];
  holes = g.rest;
  is = g.is;
  owned = All-weaker (IsBehind rings heads h) (IsOwner arcs rings (get_or rings h [])) (λ ring b. behind_owned arcs rings shells heads h ring l b) g.rest g.behind;
  alone = λ f. alone_by arcs rings shells heads h l f (subst (λ p. IsHead shells (points_round arcs (get_or rings h [])) h p) g.own (head_at arcs rings shells heads h l g.within));
  in_order = subst (IsNonDecreasingBy first_arc) (ap rings_behind g.is) (in_order_placed first_arc rings (length rings) (rings_behind group) (omega arith) o p);
}

-- the same rings in another order have the same candidates
candidate_in : (arcs : List (List Point)) (rings all : List (List ℤ)) (hole r : List ℤ) → IsPermutation rings all → IsCandidate arcs rings hole r → IsCandidate arcs all hole r
candidate_in arcs rings all hole r p c = record { among = Contains-permutation rings all r p c.among; is = c.is; around = c.around }

polygon_in : (arcs : List (List Point)) (rings all polygon : List (List ℤ)) → IsPermutation rings all → IsPolygon arcs rings polygon → IsPolygon arcs all polygon
polygon_in arcs rings all polygon p g =
    let back = IsPermutation-sym rings all p in
    record {
      front = g.front;
      holes = g.holes;
      is = g.is;
      owned = All-weaker (IsOwner arcs rings g.front) (IsOwner arcs all g.front) (λ hole o. record {
        is_hole = o.is_hole;
        candidate = candidate_in arcs rings all hole g.front p o.candidate;
        least = λ other c. o.least other (candidate_in arcs all rings hole other back c);
      }) g.holes g.owned;
      alone = λ f other c. g.alone f other (candidate_in arcs all rings g.front other back c);
      in_order = g.in_order;
    }

pub polygons_are : (arcs : List (List Point)) (rings : List (List ℤ)) (shells : List Shell) (heads : List ℕ) (first : List (List ℤ)) (groups : List (List (List ℤ))) → IsPermutation first rings → IsNonDecreasingBy first_arc rings → IsLaidOut arcs rings shells heads → AreGroups rings heads groups → ArePolygonsOf arcs first groups
polygons_are arcs rings shells heads first groups p o l g = record {
  same = IsPermutation-trans first rings (rings_in groups) p g.same;
  each = λ k d h. (let w = g.each k d h in polygon_in arcs rings (rings_in groups) (get_or groups k d) g.same (polygon_of arcs rings shells heads w.0 (get_or groups k d) l o w.1 (g.placed k d h)));
  in_order = in_order_before_map first_arc first_ring groups (in_order_placed first_arc rings (length rings) (map first_ring groups) (omega arith) o g.fronts);
}
