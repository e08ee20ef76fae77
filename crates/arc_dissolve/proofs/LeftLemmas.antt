-- Rings told by indexes have the region on their left, as the rings have that they tell.
use Rattle.std.proofs.Common.{◌≡◌, ◌↔◌, ◌⊎◌, inl, inr, ℕ, ◌+◌, ◌-◌, ◌%◌, ◌<◌, ◌≤◌, refl, sym, ◌∙◌, ap, subst, arith, Bool, true, false, if◌then◌else◌, ℤ, pos, ◌<ℤ◌, List, [], ◌∷◌, ◌++◌, length, get_or, All, length-append}
use Rattle.std.proofs.Math.Nat.{add-mod_right, mod-add-mod}
use Rattle.std.proofs.lemmas.Nat.{mod_below}
use Rattle.std.specs.List.{AllZip}
use Rattle.std.proofs.lemmas.Int.{ints}
use Rattle.std.proofs.lemmas.List.{get_or_append_left, get_or-append-add, get_or-append_right}
use Rattle.std.proofs.lemmas.List.Elements.{All-nil, All-cons, All-head, All-tail}
use Rattle.plane_edge.specs.declared.edge.Edge.{Edge}
use Rattle.plane_edge.specs.declared.point.Point.{Point}
use Rattle.plane_edge.specs.declared.spot.Spot.{Spot}
use Rattle.plane_edge.specs.Middle.{middle_of}
use Rattle.plane_edge.specs.Plane.{IsInside}
use Rattle.edge_sides.specs.Sides.{is_leftward}
use Rattle.edge_sides.specs.LeftRings.{HasOnLeft, IsLeftRound, up, down}
use Rattle.edge_sides.proofs.SideTests.{leftward_test, rightward}
use Rattle.region_rings.specs.RegionRings.{IsLeftStep, IsLeftRing}
use Rattle.ring_arcs.specs.RingArcs.{AreIndexesOf}
use Rattle.arc_dissolve.specs.Rings.{points_round}

-- ---- from the inside of edges to other words for the same points

-- the points that are held are those inside the edges
abbrev pub AreInside : List Edge → (Spot → Type 0) → Type 0
AreInside es IsHeld = (s : Spot) → pos 0 <ℤ s.m → IsInside es s ↔ IsHeld s

left_step : (es : List Edge) (IsHeld : Spot → Type 0) (p q : Point) → AreInside es IsHeld → IsLeftStep es p q → HasOnLeft IsHeld p q
left_step es IsHeld p q same step = go (is_leftward es step.0) refl step.1.1.0 step.1.1.1
  where
    middle : IsInside es (middle_of step.0) ↔ IsHeld (middle_of step.0)
    middle = same (middle_of step.0) (omega (arith, ints))

    go : (b : Bool) → is_leftward es step.0 ≡ b → (if b then step.0.low else step.0.high) ≡ p → (if b then step.0.high else step.0.low) ≡ q → HasOnLeft IsHeld p q
    go true t from to =
        let left = (leftward_test es step.0).0 t in
        up step.0 from to (record { level = λ l. middle.0 (left.level l); rising = λ l held. left.rising l (middle.1 held) })
    go false t from to =
        let right = rightward es step.0 t in
        down step.0 from to (record { level = λ l held. right.level l (middle.1 held); rising = λ l. middle.0 (right.rising l) })

left_round : (es : List Edge) (IsHeld : Spot → Type 0) (ring : List Point) → AreInside es IsHeld → IsLeftRing es ring → IsLeftRound IsHeld ring
left_round es IsHeld ring same left = λ k d h. left_step es IsHeld (get_or ring k d) (get_or ring ((k + 1) % length ring) d) same (left k d h)

-- ---- from a ring to its points from one of them on round

below_or_not : (k n : ℕ) → (k < n) ⊎ (n ≤ k)
below_or_not k n = grind arith

small : (k n : ℕ) → k < n → k % n ≡ k
small k n h = grind arith

-- the point behind the ring's front stands where the front is put behind the rest
turned_point : (xs ys : List Point) (k : ℕ) (d : Point) → k < length (ys ++ xs) → get_or (ys ++ xs) k d ≡ get_or (xs ++ ys) ((k + length xs) % length (ys ++ xs)) d
turned_point xs ys k d h =
    let n = length-append ys xs in
    elim (below_or_not k (length ys)) [
      | inl b ↦
          let at : (k + length xs) % length (ys ++ xs) ≡ length xs + k = small (k + length xs) (length (ys ++ xs)) (omega arith) ∙ omega arith in
          get_or_append_left ys xs d k b ∙ (sym (get_or-append-add xs ys k d) ∙ ap (λ i. get_or (xs ++ ys) i d) (sym at))
      | inr b ↦
          let past : k + length xs ≡ k - length ys + length (ys ++ xs) = omega arith in
          let at : (k + length xs) % length (ys ++ xs) ≡ k - length ys =
          ap (λ i. i % length (ys ++ xs)) past ∙ (add-mod_right (k - length ys) (length (ys ++ xs)) ∙ small (k - length ys) (length (ys ++ xs)) (omega arith)) in
          get_or-append_right ys xs (length ys) k d refl b ∙ (sym (get_or_append_left xs ys d (k - length ys) (omega arith)) ∙ ap (λ i. get_or (xs ++ ys) i d) (sym at))
    ]

turned_next : (k a n : ℕ) → ((k + 1) % n + a) % n ≡ ((k + a) % n + 1) % n
turned_next k a n =
    let same : k + 1 + a ≡ k + a + 1 = omega arith in
    mod-add-mod (k + 1) n a ∙ (ap (λ i. i % n) same ∙ sym (mod-add-mod (k + a) n 1))

turned_round : (IsHeld : Spot → Type 0) (xs ys : List Point) → IsLeftRound IsHeld (xs ++ ys) → IsLeftRound IsHeld (ys ++ xs)
turned_round IsHeld xs ys round = λ k d h.
    let n = length (ys ++ xs) in
    let same : length (xs ++ ys) ≡ n = omega (arith, length-append xs ys, length-append ys xs) in
    let i = (k + length xs) % n in
    let low : i < n = mod_below (k + length xs) n (omega arith) in
    let step : HasOnLeft IsHeld (get_or (xs ++ ys) i d) (get_or (xs ++ ys) ((i + 1) % n) d) =
    subst (λ m. HasOnLeft IsHeld (get_or (xs ++ ys) i d) (get_or (xs ++ ys) ((i + 1) % m) d)) same (round i d (omega arith)) in
    let here : get_or (xs ++ ys) i d ≡ get_or (ys ++ xs) k d = sym (turned_point xs ys k d h) in
    let next : get_or (xs ++ ys) ((i + 1) % n) d ≡ get_or (ys ++ xs) ((k + 1) % n) d =
    sym (turned_point xs ys ((k + 1) % n) d (mod_below (k + 1) n (omega arith)) ∙ ap (λ j. get_or (xs ++ ys) j d) (turned_next k (length xs) n)) in
    subst (λ p. HasOnLeft IsHeld p (get_or (ys ++ xs) ((k + 1) % n) d)) here (subst (λ q. HasOnLeft IsHeld (get_or (xs ++ ys) i d) q) next step)

-- ---- rings that are told

told_round : (es : List Edge) (IsHeld : Spot → Type 0) (arcs : List (List Point)) (ring : List Point) (indexes : List ℤ) → AreInside es IsHeld → IsLeftRing es ring → AreIndexesOf arcs ring indexes → IsLeftRound IsHeld (points_round arcs indexes)
told_round es IsHeld arcs ring indexes same left told =
    let turn = told.walk.met in
    let round = subst (λ ps. IsLeftRound IsHeld ps) turn.ring_is (left_round es IsHeld ring same left) in
    subst (λ ps. IsLeftRound IsHeld ps) (sym turn.points_are) (turned_round IsHeld turn.front turn.rest round)

pub told_rounds : (es : List Edge) (IsHeld : Spot → Type 0) (arcs rings : List (List Point)) (indexes : List (List ℤ)) → AreInside es IsHeld → All (IsLeftRing es) rings → AllZip (AreIndexesOf arcs) rings indexes → All (λ ring. IsLeftRound IsHeld (points_round arcs ring)) indexes
told_rounds es IsHeld arcs [] [] same left z = All-nil (λ ring. IsLeftRound IsHeld (points_round arcs ring))
told_rounds es IsHeld arcs [] (i ∷ is) same left z = absurd z
told_rounds es IsHeld arcs (g ∷ gs) [] same left z = absurd z
told_rounds es IsHeld arcs (g ∷ gs) (i ∷ is) same left z =
    All-cons (λ ring. IsLeftRound IsHeld (points_round arcs ring)) i is (told_round es IsHeld arcs g i same (All-head (IsLeftRing es) g gs left) z.0) (told_rounds es IsHeld arcs gs is same (All-tail (IsLeftRing es) g gs left) z.1)
