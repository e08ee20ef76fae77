-- Laws of sums below a bound.
use Rattle.std.proofs.Common.{◌≡◌, ℕ, zero, suc, ◌+◌, ◌<◌, refl, arith, add-one}
use Rattle.std.specs.Prelude.{ℤ, pos, ◌+ℤ◌, ◌*ℤ◌, ◌≤ℤ◌}
use Rattle.std.proofs.lemmas.Int.{ints}
use Rattle.whole_ring.specs.Sums.{sum_below}
use Rattle.whole_ring.proofs.Laws.{*ℤ-+ℤ}

pub sum_below-le : (n : ℕ) (f g : ℕ → ℤ) → ((i : ℕ) → i < n → f i ≤ℤ g i) → sum_below n f ≤ℤ sum_below n g
sum_below-le zero f g h = omega (arith, ints)
sum_below-le (suc n) f g h =
    let below = sum_below-le n f g (λ i p. h i (omega arith)) in
    let here : f n ≤ℤ g n = h n (omega arith) in
    omega (arith, ints)

pub sum_below-same : (n : ℕ) (f g : ℕ → ℤ) → ((i : ℕ) → i < n → f i ≡ g i) → sum_below n f ≡ sum_below n g
sum_below-same zero f g h = refl
sum_below-same (suc n) f g h =
    let below = sum_below-same n f g (λ i p. h i (omega arith)) in
    let here : f n ≡ g n = h n (omega arith) in
    cc

pub sum_below-scale : (n : ℕ) (q : ℤ) (f : ℕ → ℤ) → sum_below n (λ i. q *ℤ f i) ≡ q *ℤ sum_below n f
sum_below-scale zero q f = omega (arith, ints)
sum_below-scale (suc n) q f = omega (arith, ints, sum_below-scale n q f, *ℤ-+ℤ q (sum_below n f) (f n))

pub sum_below-nonnegative : (n : ℕ) (f : ℕ → ℤ) → ((i : ℕ) → i < n → pos 0 ≤ℤ f i) → pos 0 ≤ℤ sum_below n f
sum_below-nonnegative zero f h = omega (arith, ints)
sum_below-nonnegative (suc n) f h =
    let below = sum_below-nonnegative n f (λ i p. h i (omega arith)) in
    let here : pos 0 ≤ℤ f n = h n (omega arith) in
    omega (arith, ints)

-- the next step of a loop
pub sum_below-more : (n : ℕ) (f : ℕ → ℤ) → sum_below (n + 1) f ≡ sum_below n f +ℤ f n
sum_below-more n f = rw add-one refl
