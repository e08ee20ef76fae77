-- Points of an arc, one position at a time.
use Rattle.std.proofs.Common.{◌≡◌, ◌∙◌, refl, sym, ap, ap₂, subst, inr, ℕ, Bool, if◌then◌else◌, List, [], ◌∷◌, ◌++◌, ℤ, pos, negsuc, ◌+ℤ◌, to_z, of_z, arith}
use Rattle.std.specs.Prelude.{Option, Some, None, IfSome, IfNone, FitsSigned}
use Rattle.std.specs.Int.{w32, w64}
use Rattle.std.proofs.lemmas.Int.{ints, to_z-of_z}
use Rattle.agg_base.specs.Numbers.{SpellsWhole}
use Rattle.json_text.specs.Tree.{Json}
use Rattle.map_values.proofs.Decided.{texts_of}
use Rattle.map_values.specs.Positions.{BeginsWithNumbers}
use Rattle.map_values.proofs.Values.{some_same}
use Rattle.plane_edge.specs.Coordinate.{IsCoordinate}
use Rattle.plane_edge.specs.Paths.{last_of}
use Rattle.plane_edge.specs.declared.point.Point.{Point}
use Rattle.topo_reader.specs.Arcs.{SpellsPoint, SpellPoints}
use Rattle.topo_reader.specs.Origins.{next_of, across, up}
use Rattle.topo_reader.proofs.PathLemmas.{last_cons, last_some}
use Rattle.topo_reader.specs.ArcFaults.{HasWholeNumbers, IsFar, HasFar}

pub points_push : (relative : Bool) (x y : ℤ) (trees : List Json) (ps : List Point) (tree : Json) (p : Point) → SpellPoints relative x y trees ps
    → SpellsPoint (next_of across relative x ps) (next_of up relative y ps) tree p → SpellPoints relative x y (trees ++ tree ∷ []) (ps ++ p ∷ [])
points_push relative x y [] [] tree p s here = (here, tt)
points_push relative x y [] (q ∷ ps) tree p s here = absurd s
points_push relative x y (t ∷ ts) [] tree p s here = absurd s
points_push relative x y (t ∷ ts) (q ∷ ps) tree p s here =
    (s.0, points_push relative (if relative then q.x else pos 0) (if relative then q.y else pos 0) ts ps tree p s.1 here)

pub far_behind : (relative : Bool) (x y : ℤ) (trees : List Json) (ps : List Point) (rest : List Json) → SpellPoints relative x y trees ps
    → HasFar relative (next_of across relative x ps) (next_of up relative y ps) rest → HasFar relative x y (trees ++ rest)
far_behind relative x y [] [] rest s far = far
far_behind relative x y [] (q ∷ ps) rest s far = absurd s
far_behind relative x y (t ∷ ts) [] rest s far = absurd s
far_behind relative x y (t ∷ ts) (q ∷ ps) rest s far =
    inr (q, s.0, far_behind relative (if relative then q.x else pos 0) (if relative then q.y else pos 0) ts ps rest s.1 far)

-- ---- one position

pub sums_spelled : (tree : Json) (first second : List ℕ) (x y m n : ℤ) (p : Point) → BeginsWithNumbers tree first second → SpellsWhole first m → SpellsWhole second n → p.x ≡ x +ℤ m → p.y ≡ y +ℤ n → SpellsPoint x y tree p
sums_spelled tree first second x y m n p begins first_is second_is across_is up_is = record {
  dx = m;
  dy = n;
  position = record { first = first; second = second; more = begins.more; list = begins.list; x_is = first_is; y_is = second_is };
  x_is = across_is;
  y_is = up_is;
}

pub first_whole : (tree : Json) (first second : List ℕ) → BeginsWithNumbers tree first second → HasWholeNumbers tree → (n : ℤ) × SpellsWhole first n
first_whole tree first second begins whole = (whole.0, (texts_of tree first second whole.0 whole.1 begins whole.2).0)

pub second_whole : (tree : Json) (first second : List ℕ) → BeginsWithNumbers tree first second → HasWholeNumbers tree → (n : ℤ) × SpellsWhole second n
second_whole tree first second begins whole = (whole.1, (texts_of tree first second whole.0 whole.1 begins whole.2).1)

pub far_across : (tree : Json) (first second : List ℕ) (x y z : ℤ) → z ≡ x → BeginsWithNumbers tree first second → HasWholeNumbers tree → (n : ℤ) × SpellsWhole first n × ¬ IsCoordinate (z +ℤ n) → IsFar x y tree
far_across tree first second x y z same begins whole far =
    let other = second_whole tree first second begins whole in record {
      dx = far.0;
      dy = other.0;
      position = record { first = first; second = second; more = begins.more; list = begins.list; x_is = far.1; y_is = other.1 };
      beyond = λ both. far.2 (subst (λ (w : ℤ). IsCoordinate (w +ℤ far.0)) (sym same) both.0);
    }

pub far_up : (tree : Json) (first second : List ℕ) (x y z : ℤ) → z ≡ y → BeginsWithNumbers tree first second → HasWholeNumbers tree → (n : ℤ) × SpellsWhole second n × ¬ IsCoordinate (z +ℤ n) → IsFar x y tree
far_up tree first second x y z same begins whole far =
    let other = first_whole tree first second begins whole in record {
      dx = other.0;
      dy = far.0;
      position = record { first = first; second = second; more = begins.more; list = begins.list; x_is = other.1; y_is = far.1 };
      beyond = λ both. far.2 (subst (λ (w : ℤ). IsCoordinate (w +ℤ far.0)) (sym same) both.1);
    }

pub no_numbers : {P : Type 0} (tree : Json) → HasWholeNumbers tree → ((first second : List ℕ) → ¬ BeginsWithNumbers tree first second) → P
no_numbers tree whole none = absurd (none whole.2.first whole.2.second (record { more = whole.2.more; list = whole.2.list }))

-- ---- the next position

pub points_more : (relative : Bool) (trees more : List Json) (ps new : List Point) (x y : ℤ) (tree : Json) (point : Point) → SpellPoints relative (pos 0) (pos 0) trees ps → x ≡ next_of across relative (pos 0) ps → y ≡ next_of up relative (pos 0) ps
    → SpellsPoint x y tree point → more ≡ trees ++ tree ∷ [] → new ≡ ps ++ point ∷ [] → SpellPoints relative (pos 0) (pos 0) more new
points_more relative trees more ps new x y tree point s x_is y_is here more_is new_is =
    let placed = subst (λ (z : ℤ). SpellsPoint (next_of across relative (pos 0) ps) z tree point) y_is (subst (λ (z : ℤ). SpellsPoint z y tree point) x_is here) in
    let pushed = points_push relative (pos 0) (pos 0) trees ps tree point s placed in
    subst (λ (ts : List Json). SpellPoints relative (pos 0) (pos 0) ts new) (sym more_is) (subst (λ (qs : List Point). SpellPoints relative (pos 0) (pos 0) (trees ++ tree ∷ []) qs) (sym new_is) pushed)

-- ---- one sum

pub sum_some : (o : Option ℤ) (text : List ℕ) (from n x y : ℤ) → x ≡ from → y ≡ n → SpellsWhole text n → IfSome o (λ s. s ≡ x +ℤ y) → IfSome o (λ s. (m : ℤ) × SpellsWhole text m × (s ≡ from +ℤ m))
sum_some None text from n x y from_is n_is spells is = tt
sum_some (Some s) text from n x y from_is n_is spells is = (n, spells, is ∙ ap₂ (λ (a b : ℤ). a +ℤ b) from_is n_is)

pub sum_none : (o : Option ℤ) (text : List ℕ) (from n x y : ℤ) → x ≡ from → y ≡ n → SpellsWhole text n → IfNone o (¬ IsCoordinate (x +ℤ y)) → IfNone o ((m : ℤ) × SpellsWhole text m × ¬ IsCoordinate (from +ℤ m))
sum_none None text from n x y from_is n_is spells far = (n, spells, λ is. far (subst IsCoordinate (sym (ap₂ (λ (a b : ℤ). a +ℤ b) from_is n_is)) is))
sum_none (Some s) text from n x y from_is n_is spells far = tt

-- a coordinate is a number of 64 bits
pub fits : (z : ℤ) → IsCoordinate z → FitsSigned w64 z
fits (pos n) is = let most = is.most in record { sfits = omega (arith, ints) }
fits (negsuc n) is = let least = is.least in record { sfits = omega (arith, ints) }

fits_small : (z : ℤ) → IsCoordinate z → FitsSigned w32 z
fits_small (pos n) is = let most = is.most in record { sfits = omega (arith, ints) }
fits_small (negsuc n) is = let least = is.least in record { sfits = omega (arith, ints) }

-- a coordinate as it is held
pub held : (z : ℤ) → IsCoordinate z → to_z w32 (of_z w32 z) ≡ z
held z is = to_z-of_z w32 z (fits_small z is)

-- ---- the last point

pub next_last : (part : Point → ℤ) (relative : Bool) (z : ℤ) (ps : List Point) (p : Point) → Some p ≡ last_of ps → next_of part relative z ps ≡ (if relative then part p else pos 0)
next_last part relative z [] p is = absurd (let never : Some p ≡ None = is in cc)
next_last part relative z (q ∷ []) p is = ap (λ (r : Point). if relative then part r else pos 0) (sym (some_same p q is))
next_last part relative z (q ∷ r ∷ rs) p is = next_last part relative (if relative then part q else pos 0) (r ∷ rs) p (is ∙ last_cons q r rs)

pub next_none : (part : Point → ℤ) (relative : Bool) (z : ℤ) (ps : List Point) → None ≡ last_of ps → next_of part relative z ps ≡ z
next_none part relative z [] is = refl
next_none part relative z (q ∷ qs) is = absurd (let end = last_some (q ∷ qs) q refl in let never : None ≡ Some end.0 = is ∙ end.1 in cc)
