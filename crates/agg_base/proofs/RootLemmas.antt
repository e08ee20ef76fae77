-- The whole square root.
use Rattle.std.proofs.Common.{◌≡◌, ℕ, zero, suc, ◌+◌, ◌*◌, ◌≤◌, ◌<◌, nat_le, nat_lt, true, false, cond, arith, refl, sym, subst}
use Rattle.std.proofs.lemmas.Bool.{leb-true, leb-false, ltb-true, ltb-false}
use Rattle.std.proofs.lemmas.Nat.{mul-le}
use Rattle.std.proofs.Math.Nat.{le-mul_of_pos_right}
use Rattle.agg_base.specs.Root.{IsRoot, squares_within, root}

past : (n r other : ℕ) → n < suc r * suc r → other * other ≤ n → other ≤ r
past n r other above within =
    elim (nat_lt r other) as (λ b. nat_lt r other ≡ b → other ≤ r) [
      | true ↦ λ t. let less : suc r ≤ other = ltb-true r other t in let squares = mul-le (suc r) (suc r) other other less less in absurd (omega arith)
      | false ↦ λ t. ltb-false r other t
    ] refl

-- the count among the first numbers is their count, or the root
record Counted (n last count : ℕ) : Type 0 where
  within : count ≤ last
  fits : count * count ≤ n
  next : count < last → n < suc count * suc count

one_more : (n last count : ℕ) → Counted n last count → suc last * suc last ≤ n → Counted n (suc last) (1 + count)
one_more n last count before small =
    let all : count ≡ last = elim (nat_lt count last) as (λ b. nat_lt count last ≡ b → count ≡ last) [
      | true ↦ λ t. let over = past n count (suc last) (before.next (ltb-true count last t)) small in absurd (omega (arith, before.within, over))
      | false ↦ λ t. let k = ltb-false count last t in omega (arith, before.within)
    ] refl in
    record { within = omega (arith, before.within); fits = subst (λ c. (1 + c) * (1 + c) ≤ n) (sym all) (subst (λ c. c * c ≤ n) (omega arith) small); next = λ l. omega (arith, all) }

not_one_more : (n last count : ℕ) → Counted n last count → n < suc last * suc last → Counted n (suc last) (0 + count)
not_one_more n last count before large =
    let next : count < suc last → n < suc count * suc count = λ l. elim (nat_lt count last) as (λ b. nat_lt count last ≡ b → n < suc count * suc count) [
      | true ↦ λ t. before.next (ltb-true count last t)
      | false ↦ λ t. let k = ltb-false count last t in let same : last ≡ count = omega (arith, before.within) in subst (λ c. n < suc c * suc c) same large
    ] refl in
    let is : Counted n (suc last) count = record { within = omega (arith, before.within); fits = before.fits; next = next } in
    subst (Counted n (suc last)) (omega arith) is

counted : (n last : ℕ) → Counted n last (squares_within n last)
counted n zero = record { within = omega arith; fits = omega arith; next = λ l. omega arith }
counted n (suc last) =
    elim (nat_le (suc last * suc last) n) as (λ b. nat_le (suc last * suc last) n ≡ b → Counted n (suc last) (cond b 1 0 + squares_within n last)) [
      | true ↦ λ e. one_more n last (squares_within n last) (counted n last) (leb-true (suc last * suc last) n e)
      | false ↦ λ e. not_one_more n last (squares_within n last) (counted n last) (leb-false (suc last * suc last) n e)
    ] refl

square_above : (n : ℕ) → n < suc n * suc n
square_above n = omega (arith, le-mul_of_pos_right {m = suc n} (suc n) (omega arith))

root_of_count : (n count : ℕ) → Counted n n count → IsRoot n count
root_of_count n count is =
    let next : n < suc count * suc count = elim (nat_lt count n) as (λ b. nat_lt count n ≡ b → n < suc count * suc count) [
      | true ↦ λ t. is.next (ltb-true count n t)
      | false ↦ λ t. let k = ltb-false count n t in let same : n ≡ count = omega (arith, is.within) in subst (λ c. n < suc c * suc c) same (square_above n)
    ] refl in
    record { fits = is.fits; greatest = λ other within. past n count other next within }

pub root_is_greatest : (n : ℕ) → IsRoot n (root n)
unfolding root
root_is_greatest n = root_of_count n (squares_within n n) (counted n n)

-- there is one greatest number
pub one_root : (n a b : ℕ) → IsRoot n a → IsRoot n b → a ≡ b
one_root n a b is other = let low = is.greatest b other.fits in let high = other.greatest a is.fits in omega arith

pub is_root : (n a : ℕ) → IsRoot n a → a ≡ root n
is_root n a is = one_root n a (root n) is (root_is_greatest n)

pub root_between : (n r : ℕ) → r * r ≤ n → n < (r + 1) * (r + 1) → IsRoot n r
root_between n r low high = record { fits = low; greatest = λ other within. past n r other (subst (λ k. n < k * k) (omega arith) high) within }
