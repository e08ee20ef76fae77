-- The steps of a path, by their places.
use Rattle.std.proofs.Common.{◌≡◌, ◌≢◌, ℕ, zero, suc, ◌+◌, ◌<◌, ◌≤◌, refl, sym, ◌∙◌, ap, arith, add-one, append_assoc, Bool, true, false, if◌then◌else◌, inl, inr, List, [], ◌∷◌, ◌++◌, length, get_or, Contains}
use Rattle.plane_edge.specs.declared.point.Point.{Point}
use Rattle.std.proofs.lemmas.List.Elements.{Contains-append_cases}
use Rattle.plane_edge.specs.Edges.{is_same_point}
use Rattle.plane_edge.specs.Rings.{in_order, step_between, path_from, steps_of_ring}
use Rattle.ring_arcs.specs.RingArcs.{steps_of_arc}
use Rattle.ring_arcs.proofs.Points.{step_between-apart}

-- no point of the path stands twice in a row
abbrev pub IsStepping : List Point → Type 0
IsStepping path = (i : ℕ) (d : Point) → i + 1 < length path → get_or path i d ≢ get_or path (i + 1) d

stepping_rest : (p q : Point) (ps : List Point) → IsStepping (p ∷ q ∷ ps) → IsStepping (q ∷ ps)
stepping_rest p q ps h = λ i d l. (let k : suc (i + 1) ≡ suc i + 1 = omega arith in λ e. h (suc i) d (omega arith) (e ∙ ap (λ n. get_or (p ∷ q ∷ ps) n d) k))

first_apart : (p q : Point) (ps : List Point) → IsStepping (p ∷ q ∷ ps) → p ≢ q
first_apart p q ps h = h 0 p (omega arith)

pub path_from-cons : (p q : Point) (ps : List Point) → p ≢ q → path_from p (q ∷ ps) ≡ in_order p q ∷ path_from q ps
path_from-cons p q ps h = ap (λ (s : List (Point × Point)). s ++ path_from q ps) (step_between-apart p q h)

length-path_from : (p : Point) (ps : List Point) → IsStepping (p ∷ ps) → length (path_from p ps) ≡ length ps
length-path_from p [] h = refl
length-path_from p (q ∷ ps) h =
    ap (λ (s : List (Point × Point)). length s) (path_from-cons p q ps (first_apart p q ps h)) ∙ ap suc (length-path_from q ps (stepping_rest p q ps h))

pub length-steps : (path : List Point) → 1 ≤ length path → IsStepping path → length (steps_of_arc path) + 1 ≡ length path
length-steps [] l h = absurd (omega arith)
length-steps (p ∷ ps) l h = omega (arith, length-path_from p ps h)

path_from_at : (p : Point) (ps : List Point) (i : ℕ) (d : Point) (e : Point × Point) → IsStepping (p ∷ ps) → i < length ps → get_or (path_from p ps) i e ≡ in_order (get_or (p ∷ ps) i d) (get_or ps i d)
path_from_at p [] i d e h l = absurd (omega arith)
path_from_at p (q ∷ ps) zero d e h l = ap (λ (s : List (Point × Point)). get_or s 0 e) (path_from-cons p q ps (first_apart p q ps h))
path_from_at p (q ∷ ps) (suc i) d e h l =
    ap (λ (s : List (Point × Point)). get_or s (suc i) e) (path_from-cons p q ps (first_apart p q ps h)) ∙ path_from_at q ps i d e (stepping_rest p q ps h) (omega arith)

-- the step of that number
pub step_at : (path : List Point) (i : ℕ) (d : Point) (e : Point × Point) → IsStepping path → i + 1 < length path → get_or (steps_of_arc path) i e ≡ in_order (get_or path i d) (get_or path (i + 1) d)
step_at [] i d e h l = absurd (omega arith)
step_at (p ∷ ps) i d e h l =
    path_from_at p ps i d e h (omega arith) ∙ ap (λ k. in_order (get_or (p ∷ ps) i d) (get_or (p ∷ ps) k d)) (sym (add-one i))

pub contains_step : (path : List Point) (i : ℕ) (d : Point) → IsStepping path → i + 1 < length path → Contains (steps_of_arc path) (in_order (get_or path i d) (get_or path (i + 1) d))
contains_step path i d h l = (i, omega (arith, length-steps path (omega arith) h), step_at path i d (in_order (get_or path i d) (get_or path (i + 1) d)) h l)

pub place_of_step : (path : List Point) (s : Point × Point) → IsStepping path → Contains (steps_of_arc path) s → (i : ℕ) × ((i + 1 < length path) × ((d : Point) → s ≡ in_order (get_or path i d) (get_or path (i + 1) d)))
place_of_step [] s h c = let l = c.1 in absurd (omega arith)
place_of_step (p ∷ ps) s h c =
    let l : c.0 + 1 < length (p ∷ ps) = omega (arith, c.1, length-steps (p ∷ ps) (omega arith) h) in
    (c.0, (l, λ d. sym c.2 ∙ step_at (p ∷ ps) c.0 d s h l))

-- ---- paths in two parts
path_from-append : (p : Point) (ps : List Point) (q : Point) (qs : List Point) → path_from p (ps ++ q ∷ qs) ≡ path_from p (ps ++ q ∷ []) ++ path_from q qs
path_from-append p [] q qs = ap (λ (s : List (Point × Point)). s ++ path_from q qs) (sym (append-none (step_between p q)))
  where
    append-none : (s : List (Point × Point)) → s ++ [] ≡ s
    append-none [] = refl
    append-none (x ∷ s) = ap (λ (t : List (Point × Point)). x ∷ t) (append-none s)
path_from-append p (r ∷ ps) q qs =
    ap (λ (s : List (Point × Point)). step_between p r ++ s) (path_from-append r ps q qs) ∙ sym (append_assoc (step_between p r) (path_from r (ps ++ q ∷ [])) (path_from q qs))

pub steps-append : (ps : List Point) (q : Point) (qs : List Point) → steps_of_arc (ps ++ q ∷ qs) ≡ steps_of_arc (ps ++ q ∷ []) ++ steps_of_arc (q ∷ qs)
steps-append [] q qs = refl
steps-append (p ∷ ps) q qs = path_from-append p ps q qs

between : (p q : Point) (s : Point × Point) → Contains (step_between p q) s → s ≡ in_order p q
between p q s c = go (is_same_point p q) c
  where
    go : (b : Bool) → Contains (if b then [] else in_order p q ∷ []) s → s ≡ in_order p q
    go true c = let l = c.1 in absurd (omega arith)
    go false c = one c.0 c.1 c.2
      where
        one : (k : ℕ) → k < 1 → get_or (in_order p q ∷ []) k s ≡ s → s ≡ in_order p q
        one zero l e = sym e
        one (suc k) l e = absurd (omega arith)

-- each step is between two points
pub ends_in_path : (p : Point) (ps : List Point) (s : Point × Point) → Contains (path_from p ps) s → (a : Point) × ((b : Point) × (s ≡ in_order a b))
ends_in_path p [] s c = let l = c.1 in absurd (omega arith)
ends_in_path p (q ∷ ps) s c = elim (Contains-append_cases (step_between p q) (path_from q ps) s c) [
  | inl h ↦ (p, (q, between p q s h))
  | inr h ↦ ends_in_path q ps s h
]

pub ends_in_ring : (ring : List Point) (s : Point × Point) → Contains (steps_of_ring ring) s → (a : Point) × ((b : Point) × (s ≡ in_order a b))
ends_in_ring [] s c = let l = c.1 in absurd (omega arith)
ends_in_ring (p ∷ ps) s c = ends_in_path p (ps ++ p ∷ []) s c
