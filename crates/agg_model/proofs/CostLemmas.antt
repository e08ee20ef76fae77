-- Costs stay small.
use Rattle.std.proofs.Common.{◌≡◌, ℕ, zero, suc, ◌+◌, ◌*◌, ◌^◌, ◌<◌, ◌≤◌, length, ap, sym, ◌∙◌, arith, inl, inr, subst}
use Rattle.std.specs.Prelude.{slice_index, Bool, true, false, ◌==◌, ℤ, pos, negsuc, ◌+ℤ◌, ◌*ℤ◌, ◌≤ℤ◌, ◌<ℤ◌, FitsSigned}
use Rattle.std.specs.Int.{w128}
use Rattle.std.proofs.Math.Nat.{mul-le-mul_left}
use Rattle.std.proofs.lemmas.Int.{ints, to_z-of_z}
use mir.Val.{to_z, of_z}
use lib.IntN.{*ℤ_comm}
use Rattle.std.proofs.lemmas.Bool.{cases_lt}
use Rattle.std.proofs.lemmas.List.{get_or_past}
use Rattle.whole_ring.specs.Sums.{sum_below, when}
use Rattle.agg_model.specs.Problem.{Problem, Grouping, IsProblem, IsNumbered, areas, weight_of, length_of, distance_of, own_of, class_at, region_weight, region, recolouring, border_below, is_between_regions, recolouring_below, cost, CostLaw}
use Rattle.whole_ring.proofs.Signs.{nonneg-mul}
use Rattle.whole_ring.proofs.Sums.{sum_below-nonnegative, sum_below-le}

pub sum_below-part : (n i : ℕ) (f : ℕ → ℤ) → i ≤ n → ((k : ℕ) → k < n → pos 0 ≤ℤ f k) → sum_below i f ≤ℤ sum_below n f
sum_below-part zero i f h nonneg =
    let e : i ≡ 0 = omega arith in
    rw e (omega (arith, ints))
sum_below-part (suc n) i f h nonneg =
    elim (cases_lt n i) [
      | inl q ↦ (let e : i ≡ suc n = omega arith in rw e (omega (arith, ints)))
      | inr q ↦
          (let ih = sum_below-part n i f q (λ k r. nonneg k (omega arith)) in
          let last : pos 0 ≤ℤ f n = nonneg n (omega arith) in
          omega (arith, ints))
    ]

pub weights_nonnegative : (p : Problem) → IsProblem p → (v : ℕ) → v < areas p → pos 0 ≤ℤ weight_of p v
weights_nonnegative p ok v h = let w = ok.heavy v h in omega (arith, ints)

pub record AreSmall (p : Problem) : Type 0 where
  pub weights : sum_below (areas p) (weight_of p) <ℤ pos (2 ^ 97)
  pub lengths : sum_below (length p.links) (length_of p) <ℤ pos (2 ^ 97)

pub sums_are_small : (p : Problem) → IsProblem p → AreSmall p
sums_are_small p ok =
    let w = sum_below-nonnegative (areas p) (weight_of p) (weights_nonnegative p ok) in
    let l = sum_below-nonnegative (length p.links) (length_of p) ok.lengths in
    let s = ok.small in
    record { weights = omega (arith, ints); lengths = omega (arith, ints) }

-- one weight and a part of the weights are at most all of them
pub weight_at_most : (p : Problem) → IsProblem p → (v : ℕ) → v < areas p → (sum_below v (weight_of p) +ℤ weight_of p v) ≤ℤ sum_below (areas p) (weight_of p)
weight_at_most p ok v h = sum_below-part (areas p) (suc v) (weight_of p) h (weights_nonnegative p ok)

pub length_at_most : (p : Problem) → IsProblem p → (l : ℕ) → l < length p.links → (sum_below l (length_of p) +ℤ length_of p l) ≤ℤ sum_below (length p.links) (length_of p)
length_at_most p ok l h = sum_below-part (length p.links) (suc l) (length_of p) h ok.lengths

-- a product that fits
pub record IsProduct (w : ℤ) (d : ℕ) (r : ℤ) : Type 0 where
  pub fits : FitsSigned w128 r
  pub least : pos 0 ≤ℤ r
  pub most : r ≤ℤ (pos 10000 *ℤ w)

pub product_of : (w : ℤ) (d : ℕ) → pos 0 ≤ℤ w → w <ℤ pos (2 ^ 97) → d ≤ 10000 → IsProduct w d (w *ℤ pos d)
product_of (pos w) d h k near =
    let m : w * d ≤ w * 10000 = mul-le-mul_left w near in
    record { fits = omega (arith, ints); least = omega (arith, ints); most = omega (arith, ints) }
product_of (negsuc w) d h k near = absurd (omega (arith, ints))

pub one_weight : (p : Problem) → IsProblem p → (v : ℕ) → v < areas p → (pos 0 ≤ℤ weight_of p v) × (weight_of p v <ℤ pos (2 ^ 97))
one_weight p ok v h =
    let all = sums_are_small p ok in
    let here = weight_at_most p ok v h in
    let before = sum_below-nonnegative v (weight_of p) (λ i q. weights_nonnegative p ok i (omega arith)) in
    let low = weights_nonnegative p ok v h in
    let big = all.weights in
    (low, omega (arith, ints))

-- how a product of two numbers of 128 bits reads
pub record IsRead (a b r : ℤ) : Type 0 where
  pub fits : FitsSigned w128 (to_z w128 (of_z w128 a) *ℤ to_z w128 (of_z w128 b))
  pub value : to_z w128 (of_z w128 (to_z w128 (of_z w128 a) *ℤ to_z w128 (of_z w128 b))) ≡ r

pub product_read : (a b w : ℤ) (d : ℕ) → FitsSigned w128 a → FitsSigned w128 b → a ≡ w → b ≡ pos d → FitsSigned w128 (w *ℤ pos d) → IsRead a b (w *ℤ pos d)
product_read a b w d fa fb ea eb p =
    let x : to_z w128 (of_z w128 a) ≡ w = to_z-of_z w128 a fa ∙ ea in
    let y : to_z w128 (of_z w128 b) ≡ pos d = to_z-of_z w128 b fb ∙ eb in
    let both : (to_z w128 (of_z w128 a) *ℤ to_z w128 (of_z w128 b)) ≡ w *ℤ pos d = ap (λ t. t *ℤ to_z w128 (of_z w128 b)) x ∙ ap (λ t. w *ℤ t) y in
    record {
      fits = subst (λ (t : ℤ). FitsSigned w128 t) (sym both) p;
      value = ap (λ t. to_z w128 (of_z w128 t)) both ∙ to_z-of_z w128 (w *ℤ pos d) p;
    }

-- a sum of a number and a product, as the code makes it
pub sum_read : (a b c x y : ℤ) (d : ℕ) → FitsSigned w128 a → FitsSigned w128 b → FitsSigned w128 c → a ≡ x → b ≡ y → c ≡ pos d → pos 0 ≤ℤ x → x ≤ℤ pos (2 ^ 112) → pos 0 ≤ℤ y → y <ℤ pos (2 ^ 97) → d ≤ 10000 → to_z w128 (of_z w128 (to_z w128 (of_z w128 a) +ℤ to_z w128 (of_z w128 (to_z w128 (of_z w128 b) *ℤ to_z w128 (of_z w128 c))))) ≡ x +ℤ pos d *ℤ y
sum_read a b c x y d fa fb fc ea eb ec x0 x1 y0 y1 near =
    let p = product_of y d y0 y1 near in
    let r = product_read b c y d fb fc eb ec p.fits in
    let first : to_z w128 (of_z w128 a) ≡ x = to_z-of_z w128 a fa ∙ ea in
    let product = r.value ∙ *ℤ_comm y (pos d) in
    let low = p.least in
    let most = p.most in
    let turned = *ℤ_comm y (pos d) in
    rw (first, product) (to_z-of_z w128 (x +ℤ pos d *ℤ y) (omega (arith, ints)))

pub when_nonnegative : (b : Bool) (x : ℤ) → pos 0 ≤ℤ x → pos 0 ≤ℤ when b x
when_nonnegative true x h = h
when_nonnegative false x h = omega (arith, ints)

pub when_at_most : (b : Bool) (x : ℤ) → pos 0 ≤ℤ x → when b x ≤ℤ x
when_at_most true x h = omega (arith, ints)
when_at_most false x h = h

-- no recolouring costs less than 0
pub recolouring_nonnegative : (p : Problem) → IsProblem p → (v k : ℕ) → v < areas p → pos 0 ≤ℤ recolouring p v k
recolouring_nonnegative p ok v k h =
    nonneg-mul (weight_of p v) (distance_of p (own_of p v) k) (weights_nonnegative p ok v h) (omega (arith, ints))

-- a distance is at most 10,000
near_at : (p : Problem) → IsProblem p → (i : ℕ) → slice_index p.distance i ≤ 10000
near_at p ok i =
    elim (cases_lt i (length p.distance)) [
      | inl h ↦ ok.near i h
      | inr h ↦ (let e = get_or_past p.distance i 0 h in omega arith)
    ]

-- no recolouring costs more than 10,000 times the weight
pub recolouring_most : (p : Problem) → IsProblem p → (v k : ℕ) → v < areas p → recolouring p v k ≤ℤ (pos 10000 *ℤ weight_of p v)
recolouring_most p ok v k h =
    let one = one_weight p ok v h in
    (product_of (weight_of p v) (slice_index p.distance (own_of p v * p.classes + k)) one.0 one.1 (near_at p ok (own_of p v * p.classes + k))).most

recolouring_below_most : (p : Problem) (g : Grouping) → IsProblem p → (n : ℕ) → n ≤ areas p → recolouring_below p g n ≤ℤ (pos 10000 *ℤ sum_below n (weight_of p))
recolouring_below_most p g ok zero h = omega (arith, ints)
recolouring_below_most p g ok (suc n) h =
    let before = recolouring_below_most p g ok n (omega arith) in
    let here = recolouring_most p ok n (class_at g n) (omega arith) in
    omega (arith, ints)

-- what the border between regions costs
borders_most : (p : Problem) (g : Grouping) → IsProblem p → border_below p g (length p.links) ≤ℤ sum_below (length p.links) (length_of p)
borders_most p g ok =
    sum_below-le (length p.links) (λ l. when (is_between_regions p g l) (length_of p l)) (length_of p) (λ l h. when_at_most (is_between_regions p g l) (length_of p l) (ok.lengths l h))

pub cost_law : CostLaw
unfolding cost
cost_law p g ok _ =
    let all = sums_are_small p ok in
    let lengths = all.lengths in
    let whole = ok.small in
    let r = sum_below-nonnegative (areas p) (λ v. recolouring p v (class_at g v)) (λ v h. recolouring_nonnegative p ok v (class_at g v) h) in
    let most = recolouring_below_most p g ok (areas p) (omega arith) in
    let b = sum_below-nonnegative (length p.links) (λ l. when (is_between_regions p g l) (length_of p l)) (λ l h. when_nonnegative (is_between_regions p g l) (length_of p l) (ok.lengths l h)) in
    let border = borders_most p g ok in
    let c = nonneg-mul (pos p.border) (border_below p g (length p.links)) (omega (arith, ints)) b in
    let d = (product_of (border_below p g (length p.links)) p.border b (omega (arith, ints)) ok.cheap).most in
    let turned = *ℤ_comm (border_below p g (length p.links)) (pos p.border) in
    (omega (arith, ints), omega (arith, ints))

-- each weight is a part of all weights
pub weight_in_all : (p : Problem) → IsProblem p → (v : ℕ) → v < areas p → weight_of p v ≤ℤ sum_below (areas p) (weight_of p)
weight_in_all p ok v h =
    let here = weight_at_most p ok v h in
    let before = sum_below-nonnegative v (weight_of p) (λ i q. weights_nonnegative p ok i (omega arith)) in
    omega (arith, ints)

-- a region weighs at most as much as all areas
pub region_at_most : (p : Problem) → IsProblem p → (g : Grouping) (r : ℕ) → region_weight p g r ≤ℤ sum_below (areas p) (weight_of p)
region_at_most p ok g r =
    sum_below-le (areas p) (λ v. when (region g v == r) (weight_of p v)) (weight_of p) (λ v h. when_at_most (region g v == r) (weight_of p v) (weights_nonnegative p ok v h))

-- a region weighs 0 or more
pub region_nonnegative : (p : Problem) → IsProblem p → (g : Grouping) (r : ℕ) → pos 0 ≤ℤ region_weight p g r
region_nonnegative p ok g r =
    sum_below-nonnegative (areas p) (λ v. when (region g v == r) (weight_of p v)) (λ v h. when_nonnegative (region g v == r) (weight_of p v) (weights_nonnegative p ok v h))

-- all areas together weigh at least as much as there are areas
pub count_at_most : (p : Problem) → IsProblem p → (n : ℕ) → n ≤ areas p → pos n ≤ℤ sum_below n (weight_of p)
count_at_most p ok zero h = omega (arith, ints)
count_at_most p ok (suc n) h =
    let before = count_at_most p ok n (omega arith) in
    let here = ok.heavy n h in
    omega (arith, ints)
