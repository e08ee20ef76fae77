-- The numbers that words spell.
use Rattle.std.proofs.Common.{◌≡◌, ℕ, zero, suc, ◌+◌, ◌^◌, ◌<◌, ◌≤◌, Bool, true, false, cond, ◌==◌, ◌&&◌, nat_le, nat_lt, List, [], ◌∷◌, length, slice_index, drop, ℤ, pos, negsuc, neg_ℤ, Option, None, Some, refl, ap, sym, subst, ◌∙◌, arith, rules, FitsSigned}
use Rattle.std.specs.Int.{w128}
use Rattle.std.specs.Prelude.{unsigned_abs}
use Rattle.std.specs.Fmt.{decimal, signed_decimal}
use Rattle.std.specs.Str.{bytes_eq}
use Rattle.std.specs.Str.Parse.{AllDigits, IsNumeral, digits_value}
use Rattle.std.proofs.lemmas.Bool.{ltb-true, lt-ltb}
use Rattle.std.proofs.lemmas.Bool.Decides.{Decides-eqb}
use Rattle.std.proofs.lemmas.Slice.Eq.{bytes_eq-Decides}
use Rattle.std.proofs.lemmas.Str.{digit_value_digit}
use Rattle.std.proofs.lemmas.Str.Parse.{digit_from_value}
use Rattle.std.proofs.lemmas.Fmt.{decimal_is_IsNumeral_wide}
use Rattle.agg_base.specs.Numbers.{number_of}
use Rattle.cert_reader.specs.LineReading.{◌>>=◌, value_of, is_wide, whole_in, within, number_in, multiplier_of, multiplier_in}

-- ---- choices

pub guard_some : {X : Type 0} (b : Bool) (x z : X) → cond b (Some x) None ≡ Some z → (b ≡ true) × (x ≡ z)
guard_some true x z e = (refl, cc)
guard_some false x z e = (cc)

pub both : (a b : Bool) → (a && b) ≡ true → (a ≡ true) × (b ≡ true)
both true b e = (refl, e)
both false b e = (cc)

pub bind_some : {X Y : Type 0} (o : Option X) (f : X → Option Y) (y : Y) → (o >>= f) ≡ Some y → (x : X) × (o ≡ Some x) × (f x ≡ Some y)
bind_some None f y e = (cc)
bind_some (Some x) f y e = (x, refl, e)

pub same_bytes : (w : List ℕ) → bytes_eq w w ≡ true
same_bytes w = (bytes_eq-Decides w w).1 refl

-- ---- numbers of 128 bits

pub first_of_digits : (ds : List ℕ) → IsNumeral 10 ds → (slice_index ds 0 == 45) ≡ false
first_of_digits [] is = absurd (omega (arith, is.0))
first_of_digits (c ∷ cs) is =
    let k = digit_value_digit c (digit_from_value c is.1.0) in
    other (c == 45) refl
  where
    other : (b : Bool) → (c == 45) ≡ b → b ≡ false
    other true e = let same = (Decides-eqb c 45).0 e in let k = digit_value_digit c (digit_from_value c is.1.0) in absurd (omega arith)
    other false e = refl

pub value_of-signed : (z : ℤ) → is_wide z ≡ true → value_of (signed_decimal z) ≡ z
value_of-signed (pos n) wide =
    let small : n < 2 ^ 127 = ltb-true n (2 ^ 127) wide in
    let is = decimal_is_IsNumeral_wide n (omega arith) in
    ap (λ b. cond b (number_of true (drop 1 (decimal n))) (pos (digits_value 10 (decimal n)))) (first_of_digits (decimal n) is.0) ∙ ap pos is.1
value_of-signed (negsuc n) wide =
    let small : n < 2 ^ 127 = ltb-true n (2 ^ 127) wide in
    let is = decimal_is_IsNumeral_wide (suc n) (omega arith) in
    ap (λ v. neg_ℤ (pos v)) is.1

pub fits_wide : (z : ℤ) → FitsSigned w128 z → is_wide z ≡ true
fits_wide (pos n) f = lt-ltb n (2 ^ 127) f.sfits
fits_wide (negsuc n) f = lt-ltb n (2 ^ 127) f.sfits

pub wide_fits : (n : ℤ) → is_wide n ≡ true → FitsSigned w128 n
wide_fits (pos n) e = record { sfits = ltb-true n (2 ^ 127) e }
wide_fits (negsuc n) e = record { sfits = ltb-true n (2 ^ 127) e }

-- what is read is spelled so
pub whole_in_is : (w : List ℕ) (z : ℤ) → whole_in w ≡ Some z → (w ≡ signed_decimal z) × (is_wide z ≡ true)
unfolding whole_in
whole_in_is w z e =
    let g = guard_some (is_wide (value_of w) && bytes_eq (signed_decimal (value_of w)) w) (value_of w) z e in
    let b = both (is_wide (value_of w)) (bytes_eq (signed_decimal (value_of w)) w) g.0 in
    (sym ((bytes_eq-Decides (signed_decimal (value_of w)) w).0 b.1) ∙ ap signed_decimal g.1, subst (λ v. is_wide v ≡ true) g.1 b.0)

-- what is spelled so is read
pub whole_again : (z : ℤ) → is_wide z ≡ true → whole_in (signed_decimal z) ≡ Some z
unfolding whole_in
whole_again z wide =
    ap (λ v. cond (is_wide v && bytes_eq (signed_decimal v) (signed_decimal z)) (Some v) None) (value_of-signed z wide)
    ∙ ap (λ b. cond (b && bytes_eq (signed_decimal z) (signed_decimal z)) (Some z) None) wide
    ∙ ap (λ b. cond b (Some z) None) (same_bytes (signed_decimal z))

-- ---- numbers in a range

within_is : (least most : ℕ) (z : ℤ) (n : ℕ) → within least most z ≡ Some n → (z ≡ pos n) × (least ≤ n) × (n ≤ most)
within_is least most (pos m) n e =
    let g = guard_some (nat_le least m && nat_le m most) m n e in
    let b = both (nat_le least m) (nat_le m most) g.0 in
    (ap pos g.1, grind (arith, g.1, b.0), grind (arith, g.1, b.1))
within_is least most (negsuc m) n e = (cc)

pub number_in_is : (least most : ℕ) (w : List ℕ) (n : ℕ) → number_in least most w ≡ Some n → (w ≡ decimal n) × (least ≤ n) × (n ≤ most)
unfolding number_in
number_in_is least most w n e =
    let b = bind_some (whole_in w) (within least most) n e in
    let i = within_is least most b.0 n b.2 in
    ((whole_in_is w b.0 b.1).0 ∙ ap signed_decimal i.0, i.1, i.2)

test_le : (a b : ℕ) → a ≤ b → nat_le a b ≡ true
test_le a b h = search rules

pub number_again : (least most n : ℕ) → least ≤ n → n ≤ most → n < 2 ^ 127 → number_in least most (decimal n) ≡ Some n
unfolding number_in
number_again least most n low high small =
    ap (λ o. o >>= within least most) (whole_again (pos n) (lt-ltb n (2 ^ 127) small))
    ∙ ap (λ b. cond (b && nat_le n most) (Some n) None) (test_le least n low)
    ∙ ap (λ b. cond b (Some n) None) (test_le n most high)

-- ---- multipliers

pub multiplier_in_is : (w : List ℕ) (z : ℤ) → multiplier_in w ≡ Some z → (w ≡ signed_decimal z) × (unsigned_abs z < 2 ^ 127)
unfolding multiplier_in
multiplier_in_is w z e =
    let b = bind_some (whole_in w) multiplier_of z e in
    let g = guard_some (nat_lt (unsigned_abs b.0) (2 ^ 127)) b.0 z b.2 in
    ((whole_in_is w b.0 b.1).0 ∙ ap signed_decimal g.1, subst (λ v. unsigned_abs v < 2 ^ 127) g.1 (ltb-true (unsigned_abs b.0) (2 ^ 127) g.0))

multiplier_wide : (z : ℤ) → unsigned_abs z < 2 ^ 127 → is_wide z ≡ true
multiplier_wide (pos n) h = lt-ltb n (2 ^ 127) h
multiplier_wide (negsuc n) h = lt-ltb n (2 ^ 127) (omega arith)

pub multiplier_again : (z : ℤ) → unsigned_abs z < 2 ^ 127 → multiplier_in (signed_decimal z) ≡ Some z
unfolding multiplier_in
multiplier_again z small =
    ap (λ o. o >>= multiplier_of) (whole_again z (multiplier_wide z small)) ∙ ap (λ b. cond b (Some z) None) (lt-ltb (unsigned_abs z) (2 ^ 127) small)
