-- The edges that are not walked.
use Rattle.std.proofs.Common.{◌≡◌, ℕ, zero, suc, ◌+◌, ◌<◌, refl, sym, ap, arith, Bool, true, false, true≢false, cond, List, [], ◌∷◌, length, count_by, get_or, set, replicate}
use Rattle.plane_edge.specs.declared.edge.Edge.{Edge}
use Rattle.plane_edge.specs.declared.point.Point.{Point}
use Rattle.plane_edge.specs.Line.{is_end_of}
use Rattle.plane_edge.proofs.EvenLists.{bit_no, count-cons}
use Rattle.region_rings.specs.Walks.{edges_left}

-- one edge less passes a test, where it was not walked and now is
pub count-walked : (f : Edge → Bool) (es : List Edge) (ms : List Bool) (i : ℕ) (d : Edge) → i < length es → get_or ms i true ≡ false → count_by f (edges_left es ms) ≡ cond (f (get_or es i d)) 1 0 + count_by f (edges_left es (set ms i true))
count-walked f [] ms i d h k = absurd (omega arith)
count-walked f (e ∷ es) [] i d h k = absurd (true≢false k)
count-walked f (e ∷ es) (true ∷ ms) zero d h k = absurd (true≢false k)
count-walked f (e ∷ es) (false ∷ ms) zero d h k = count-cons f e (edges_left es ms)
count-walked f (e ∷ es) (true ∷ ms) (suc i) d h k = count-walked f es ms i d (omega arith) k
count-walked f (e ∷ es) (false ∷ ms) (suc i) d h k =
    omega (arith, count-cons f e (edges_left es ms), count-cons f e (edges_left es (set ms i true)), count-walked f es ms i d (omega arith) k)

-- where each edge at the point is walked, no edge at the point is not walked
pub none_left : (p : Point) (es : List Edge) (ms : List Bool) → length ms ≡ length es → ((i : ℕ) (d : Edge) → i < length es → is_end_of (get_or es i d) p ≡ true → get_or ms i true ≡ true) → count_by (λ e. is_end_of e p) (edges_left es ms) ≡ 0
none_left p [] ms l h = refl
none_left p (e ∷ es) [] l h = absurd (omega arith)
none_left p (e ∷ es) (true ∷ ms) l h = none_left p es ms (omega arith) (λ i d k t. h (suc i) d (omega arith) t)
none_left p (e ∷ es) (false ∷ ms) l h = go (is_end_of e p) refl (none_left p es ms (omega arith) (λ i d k t. h (suc i) d (omega arith) t))
  where
    go : (b : Bool) → is_end_of e p ≡ b → count_by (λ e. is_end_of e p) (edges_left es ms) ≡ 0 → count_by (λ e. is_end_of e p) (e ∷ edges_left es ms) ≡ 0
    go true t n = absurd (true≢false (sym (h 0 e (omega arith) t)))
    go false t n = let z = bit_no (is_end_of e p) t in omega (arith, count-cons (λ e. is_end_of e p) e (edges_left es ms))

pub edges_left-all : (es : List Edge) (ms : List Bool) → length ms ≡ length es → ((i : ℕ) → i < length es → get_or ms i true ≡ true) → edges_left es ms ≡ []
edges_left-all [] ms l h = refl
edges_left-all (e ∷ es) [] l h = absurd (omega arith)
edges_left-all (e ∷ es) (true ∷ ms) l h = edges_left-all es ms (omega arith) (λ i k. h (suc i) (omega arith))
edges_left-all (e ∷ es) (false ∷ ms) l h = absurd (true≢false (sym (h 0 (omega arith))))

pub edges_left-none : (es : List Edge) → edges_left es (replicate (length es) false) ≡ es
edges_left-none [] = refl
edges_left-none (e ∷ es) = ap (λ xs. e ∷ xs) (edges_left-none es)
