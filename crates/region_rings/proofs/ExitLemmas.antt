-- Exits and their order.
use Rattle.std.proofs.Common.{◌≡◌, ◌≢◌, ◌↔◌, ◌⊎◌, inl, inr, ℕ, ◌+◌, ◌<◌, ◌≤◌, refl, sym, ◌∙◌, ap, subst, arith, Bool, true, false, true≢false, if◌then◌else◌, not, List, [], ◌∷◌, ◌++◌, length, get_or, Contains, ℤ, pos, ◌<ℤ◌}
use Rattle.std.specs.Cmp.{IsStrictWeakOrder}
use Rattle.std.specs.List.Sorted.{IsPermutation, IsSortedBy, IsPartitionedBy}
use Rattle.std.proofs.lemmas.Int.{ints}
use Rattle.std.proofs.lemmas.List.{get_or_default, get_or_append_left, get_or_push, length_push}
use Rattle.std.proofs.lemmas.List.Sorted.{sorted_far, Contains-permutation, IsPermutation-sym}
use Rattle.plane_edge.specs.declared.edge.Edge.{Edge}
use Rattle.plane_edge.specs.declared.point.Point.{Point}
use Rattle.plane_edge.specs.Edges.{is_same_point}
use Rattle.plane_edge.specs.Order.{is_below}
use Rattle.plane_edge.proofs.OrderLemmas.{same_points_equal, same_point_itself, point_irreflexive}
use Rattle.region_rings.specs.declared.exit.Exit.{Exit}
use Rattle.region_rings.specs.declared.way.Way.{Way}
use Rattle.region_rings.specs.Exits.{right, aim_of, is_past, is_met_before, exit_at, IsExitOf, AreExitsOf}
use Rattle.region_rings.specs.Turning.{IsSomewhere, is_met_sooner}
use Rattle.region_rings.specs.Ways.{other_end_of, way_at, tail_of}
use Rattle.region_rings.proofs.StepLemmas.{below-one_way}
use Rattle.region_rings.proofs.CourseLemmas.{along_edge}
use Rattle.region_rings.proofs.ChoiceLemmas.{same_place, below_after}
use Rattle.region_rings.proofs.RankLemmas.{leads_on}
use Rattle.region_rings.proofs.CycleLemmas.{sooner_one_way, sooner_chain}
use Rattle.region_rings.proofs.DrawLemmas.{tail_is_end}

-- ---- directions
pub right_somewhere : IsSomewhere right
right_somewhere = omega (arith, ints)

pub way_somewhere : (w : Way) → IsSomewhere (aim_of w)
way_somewhere w = leads_on (tail_of w) (other_end_of w.edge (tail_of w)) (along_edge w.edge (tail_of w) (tail_is_end w)).apart

-- ---- points with directions, in the order of the points and clockwise at each
abbrev is_ahead : Point → ℤ × ℤ → Point → ℤ × ℤ → Bool
is_ahead p a q b = (if is_same_point q p then is_met_sooner right a b else is_below p q)

same_itself : (p q : Point) → p ≡ q → is_same_point p q ≡ true
same_itself p q e = subst (λ (s : Point). is_same_point p s ≡ true) e (same_point_itself p)

ahead_chain : (p q r : Point) (a b c : ℤ × ℤ) → IsSomewhere a → IsSomewhere b → IsSomewhere c → is_ahead p a q b ≡ false → is_ahead q b r c ≡ false → is_ahead p a r c ≡ false
ahead_chain p q r a b c u v w h k = go (is_same_point q p) (is_same_point r q) (is_same_point r p) refl refl refl h k
  where
    other : (s t : Point) → is_same_point s t ≡ false → s ≡ t → ⊥
    other s t e g = true≢false (sym (same_itself s t g) ∙ e)

    go : (i j l : Bool) → is_same_point q p ≡ i → is_same_point r q ≡ j → is_same_point r p ≡ l → (if i then is_met_sooner right a b else is_below p q) ≡ false → (if j then is_met_sooner right b c else is_below q r) ≡ false → (if l then is_met_sooner right a c else is_below p r) ≡ false
    go true true true e f g h k = sooner_chain right a b c right_somewhere u v w h k
    go true true false e f g h k = absurd (other r p g (same_points_equal r q f ∙ same_points_equal q p e))
    go true false true e f g h k = absurd (other r q f (same_points_equal r p g ∙ sym (same_points_equal q p e)))
    go true false false e f g h k = subst (λ (s : Point). is_below s r ≡ false) (same_points_equal q p e) k
    go false true true e f g h k = absurd (other q p e (sym (same_points_equal r q f) ∙ same_points_equal r p g))
    go false true false e f g h k = subst (λ (s : Point). is_below p s ≡ false) (sym (same_points_equal r q f)) h
    go false false true e f g h k = absurd (other q p e (sym (same_place p q h (subst (λ (s : Point). is_below q s ≡ false) (same_points_equal r p g) k))))
    go false false false e f g h k = up (is_below p r) refl
      where
        up : (t : Bool) → is_below p r ≡ t → is_below p r ≡ false
        up true z = absurd (true≢false (sym (below_after q p r h z) ∙ k))
        up false z = z

ahead_one_way : (p q : Point) (a b : ℤ × ℤ) → is_ahead p a q b ≡ true → is_ahead q b p a ≡ false
ahead_one_way p q a b h = go (is_same_point q p) (is_same_point p q) refl refl h
  where
    go : (i j : Bool) → is_same_point q p ≡ i → is_same_point p q ≡ j → (if i then is_met_sooner right a b else is_below p q) ≡ true → (if j then is_met_sooner right b a else is_below q p) ≡ false
    go true true e f h = sooner_one_way right a b h
    go true false e f h = absurd (true≢false (sym (same_itself p q (sym (same_points_equal q p e))) ∙ f))
    go false true e f h = absurd (true≢false (sym (same_itself q p (sym (same_points_equal p q f))) ∙ e))
    go false false e f h = below-one_way p q h

pub exit_order : IsStrictWeakOrder is_met_before
exit_order = record {
  one_way = λ x y h. ahead_one_way (tail_of x.way) (tail_of y.way) (aim_of x.way) (aim_of y.way) h;
  chain = λ x y z h k. ahead_chain (tail_of x.way) (tail_of y.way) (tail_of z.way) (aim_of x.way) (aim_of y.way) (aim_of z.way) (way_somewhere x.way) (way_somewhere y.way) (way_somewhere z.way) h k;
}

-- ---- the exits of the edges
pub way_default : (edges : List Edge) (leftward : List Bool) (i : ℕ) (d e : Way) → length leftward ≡ length edges → i < length edges → way_at edges leftward i d ≡ way_at edges leftward i e
way_default edges leftward i d e s l =
    ap (λ (f : Edge). record { edge = f; is_leftward = get_or leftward i d.is_leftward }) (get_or_default edges i d.edge e.edge l)
    ∙ ap (λ b. record { edge = get_or edges i e.edge; is_leftward = b }) (get_or_default leftward i d.is_leftward e.is_leftward (omega arith))

-- the next step of a loop
pub record AreMade (edges : List Edge) (leftward : List Bool) (n : ℕ) (exits : List Exit) : Type 0 where
  pub count : length exits ≡ n
  pub each : (k : ℕ) (d : Exit) → k < n → get_or exits k d ≡ exit_at edges leftward k d

pub made_none : (edges : List Edge) (leftward : List Bool) (exits : List Exit) → exits ≡ [] → AreMade edges leftward 0 exits
made_none edges leftward exits e = record { count = ap length e; each = λ k d h. absurd (omega arith) }

pub made_more : (edges : List Edge) (leftward : List Bool) (n : ℕ) (old new : List Exit) (w : Way) → AreMade edges leftward n old → ((d : Way) → w ≡ way_at edges leftward n d) → new ≡ old ++ record { way = w; edge = n } ∷ [] → AreMade edges leftward (n + 1) new
made_more edges leftward n old new w m is e = record {
  count = ap length e ∙ (length_push old x ∙ ap (λ j. j + 1) m.count);
  each = λ k d h. ap (λ (xs : List Exit). get_or xs k d) e ∙ go k d (cases k h);
}
  where
    x : Exit
    x = record { way = w; edge = n }

    cases : (k : ℕ) → k < n + 1 → (k < n) ⊎ (k ≡ n)
    cases k h = grind arith

    go : (k : ℕ) (d : Exit) → (k < n) ⊎ (k ≡ n) → get_or (old ++ x ∷ []) k d ≡ exit_at edges leftward k d
    go k d (inl h) = let c = m.count in get_or_append_left old (x ∷ []) d k (omega arith) ∙ m.each k d h
    go k d (inr q) =
        let c = m.count in
        get_or_push old x d k (omega arith) ∙ (ap (λ (v : Way). record { way = v; edge = n }) (is d.way) ∙ ap (λ j. exit_at edges leftward j d) (sym q))

made_exact : (edges : List Edge) (leftward : List Bool) (made : List Exit) (x : Exit) → length leftward ≡ length edges → AreMade edges leftward (length edges) made → Contains made x ↔ IsExitOf edges leftward x
made_exact edges leftward made x s m = (
  (λ c. (
      let n = m.count in
      let l = c.1 in
      let within : c.0 < length edges = omega arith in
      let whole : x ≡ exit_at edges leftward c.0 x = sym c.2 ∙ m.each c.0 x within in
      let number : x.edge ≡ c.0 = ap (λ (y : Exit). y.edge) whole in
      let way : x.way ≡ way_at edges leftward x.edge x.way = ap (λ (y : Exit). y.way) whole ∙ ap (λ j. way_at edges leftward j x.way) (sym number) in
      let there : x.edge < length edges = omega arith in
      record { within = there; way = λ d. way ∙ way_default edges leftward x.edge x.way d s there }
      )),
  (λ t. (
      let n = m.count in
      let l = t.within in
      (x.edge, omega arith, m.each x.edge x l ∙ ap (λ (v : Way). record { way = v; edge = x.edge }) (sym (t.way x.way)))
      )),
)

pub exits_sorted : (edges : List Edge) (leftward : List Bool) (made sorted : List Exit) → length leftward ≡ length edges → AreMade edges leftward (length edges) made → IsPermutation made sorted → IsSortedBy is_met_before sorted → AreExitsOf edges leftward sorted
exits_sorted edges leftward made sorted s m moved up = record {
  ordered = λ i j d l h. sorted_far is_met_before exit_order sorted up i j d (omega arith) h;
  exact = λ x. (
    (λ c. (made_exact edges leftward made x s m).0 (Contains-permutation sorted made x (IsPermutation-sym made sorted moved) c)),
    (λ t. Contains-permutation made sorted x moved ((made_exact edges leftward made x s m).1 t)),
  );
}

-- ---- places
module _ (edges : List Edge) (leftward : List Bool) (exits : List Exit) (a : AreExitsOf edges leftward exits) where
  -- the exit at that place is one of an edge
  pub exit_there : (k : ℕ) (d : Exit) → k < length exits → IsExitOf edges leftward (get_or exits k d)
  exit_there k d l = (a.exact (get_or exits k d)).0 (k, l, get_or_default exits k (get_or exits k d) d l)

  pub exit_read : (k : ℕ) (x : Exit) → k < length exits → x ≡ get_or exits k x → IsExitOf edges leftward x
  exit_read k x l e = subst (λ (y : Exit). IsExitOf edges leftward y) (sym e) (exit_there k x l)

  -- a later exit does not stand before an earlier one
  pub not_ahead : (i j : ℕ) (d : Exit) → i ≤ j → j < length exits → is_met_before (get_or exits j d) (get_or exits i d) ≡ false
  not_ahead i j d h l = go (cases i j h)
    where
      cases : (i j : ℕ) → i ≤ j → (i ≡ j) ⊎ (i < j)
      cases i j h = grind arith

      itself : (x : Exit) (b : Bool) → is_met_before x x ≡ b → is_met_before x x ≡ false
      itself x true e = exit_order.one_way x x e
      itself x false e = e

      go : (i ≡ j) ⊎ (i < j) → is_met_before (get_or exits j d) (get_or exits i d) ≡ false
      go (inl e) = subst (λ n. is_met_before (get_or exits j d) (get_or exits n d) ≡ false) (sym e) (itself (get_or exits j d) (is_met_before (get_or exits j d) (get_or exits j d)) refl)
      go (inr m) = a.ordered i j d m l

  pub tails_rise : (i j : ℕ) (d : Exit) → i ≤ j → j < length exits → is_below (tail_of (get_or exits j d).way) (tail_of (get_or exits i d).way) ≡ false
  tails_rise i j d h l = go (is_same_point q p) refl (not_ahead i j d h l)
    where
      p : Point
      p = tail_of (get_or exits j d).way

      q : Point
      q = tail_of (get_or exits i d).way

      go : (b : Bool) → is_same_point q p ≡ b → (if b then is_met_sooner right (aim_of (get_or exits j d).way) (aim_of (get_or exits i d).way) else is_below p q) ≡ false → is_below p q ≡ false
      go true e h = subst (λ (s : Point). is_below p s ≡ false) (sym (same_points_equal q p e)) (point_irreflexive p)
      go false e h = h

  pub parted_below : (p : Point) → IsPartitionedBy (λ x. is_below (tail_of x.way) p) exits
  parted_below p = λ i j d h l k. below_after (tail_of (get_or exits i d).way) (tail_of (get_or exits j d).way) p (tails_rise i j d h l) k

  pub parted_past : (p : Point) (u : ℤ × ℤ) → IsSomewhere u → IsPartitionedBy (λ x. not (is_past p u x.way)) exits
  parted_past p u s = λ i j d h l k. ap not (ahead_chain p (tail_of (get_or exits j d).way) (tail_of (get_or exits i d).way) u (aim_of (get_or exits j d).way) (aim_of (get_or exits i d).way) s (way_somewhere (get_or exits j d).way) (way_somewhere (get_or exits i d).way) (not_yet (is_past p u (get_or exits j d).way) k) (not_ahead i j d h l))
    where
      not_yet : (b : Bool) → not b ≡ true → b ≡ false
      not_yet true h = absurd (true≢false (sym h))
      not_yet false h = refl
