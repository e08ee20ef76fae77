-- Signs and orders of products of whole numbers, and `lin`, the set by which `omega` reads sums, differences and orders, with each product as one unknown.
use Rattle.std.proofs.Common.{◌≡◌, zero, suc, ◌*◌, ◌<◌, ◌⊎◌, inl, inr, refl, ◌∙◌, ap, arith, mul-pos, ℤ, pos, negsuc, ◌-ℤ◌, ◌*ℤ◌, ◌≤ℤ◌, ◌<ℤ◌, [], ◌∷◌}
use borrow.Author.Differences.{up, down, same_out, same_in, Apart-out, lt_out, le_out, below_in, at_most_in, sum_is_lem, neg_is, fits_in, fits_out, abs_is, ints}
use Rattle.whole_ring.proofs.Laws.{*ℤ-zero}
use Rattle.whole_ring.proofs.Ring.{ring, var, con, ◌⊖◌, ◌⊗◌}

pub ruleset lin = (same_out, same_in, Apart-out, lt_out, le_out, below_in, at_most_in, sum_is_lem, neg_is)

-- the same with the ranges of types and absolute values
pub ruleset within = (lin, fits_in, fits_out, abs_is)

pub nonneg-mul : (a b : ℤ) → pos 0 ≤ℤ a → pos 0 ≤ℤ b → pos 0 ≤ℤ (a *ℤ b)
nonneg-mul (pos a) (pos b) h k = omega (arith, ints)
nonneg-mul (pos a) (negsuc b) h k = absurd (omega (arith, ints))
nonneg-mul (negsuc a) b h k = absurd (omega (arith, ints))

pub pos-mul : (a b : ℤ) → pos 0 <ℤ a → pos 0 <ℤ b → pos 0 <ℤ (a *ℤ b)
pos-mul (pos zero) b h k = absurd (omega (arith, ints))
pos-mul (pos (suc a)) (pos zero) h k = absurd (omega (arith, ints))
pos-mul (pos (suc a)) (pos (suc b)) h k = let p : 0 < suc a * suc b = mul-pos (omega arith) (omega arith) in omega (arith, ints)
pos-mul (pos (suc a)) (negsuc b) h k = absurd (omega (arith, ints))
pos-mul (negsuc a) b h k = absurd (omega (arith, ints))

-- the three cases of a sign
pub data Sign (a : ℤ) : Type 0 where
  below : a <ℤ pos 0 → Sign a
  none : a ≡ pos 0 → Sign a
  above : pos 0 <ℤ a → Sign a

pub sign : (a : ℤ) → Sign a
sign (pos zero) = none refl
sign (pos (suc n)) = above (omega (arith, lin))
sign (negsuc n) = below (omega (arith, lin))

pub either_way : (a b : ℤ) → (a ≤ℤ b) ⊎ (b <ℤ a)
either_way a b = elim (sign (a -ℤ b)) [ below h ↦ inl (omega (arith, lin)) | none h ↦ inl (omega (arith, lin)) | above h ↦ inr (omega (arith, lin)) ]

mul_neg : (a b : ℤ) → a *ℤ (pos 0 -ℤ b) ≡ pos 0 -ℤ a *ℤ b
mul_neg a b = ring (a ∷ b ∷ []) (var 0 ⊗ (con (pos 0) ⊖ var 1)) (con (pos 0) ⊖ var 0 ⊗ var 1) refl

pub neg-mul : (a b : ℤ) → pos 0 <ℤ a → b <ℤ pos 0 → (a *ℤ b) <ℤ pos 0
neg-mul a b h k = let p : pos 0 <ℤ (a *ℤ (pos 0 -ℤ b)) = pos-mul a (pos 0 -ℤ b) h (omega (arith, lin)) in omega (arith, lin, mul_neg a b)

-- a factor above 0 goes
pub nonneg-cancel : (a b : ℤ) → pos 0 <ℤ a → pos 0 ≤ℤ (a *ℤ b) → pos 0 ≤ℤ b
nonneg-cancel a b h k = elim (sign b) [ below n ↦ let p = neg-mul a b h n in absurd (omega (arith, lin)) | none e ↦ omega (arith, lin) | above p ↦ omega (arith, lin) ]

pub pos-cancel : (a b : ℤ) → pos 0 <ℤ a → pos 0 <ℤ (a *ℤ b) → pos 0 <ℤ b
pos-cancel a b h k = elim (sign b) [ below n ↦ let p = neg-mul a b h n in absurd (omega (arith, lin)) | none e ↦ let z : a *ℤ b ≡ pos 0 = ap (λ x. a *ℤ x) e ∙ *ℤ-zero a in absurd (omega (arith, lin)) | above p ↦ p ]

pub zero-cancel : (a b : ℤ) → pos 0 <ℤ a → a *ℤ b ≡ pos 0 → b ≡ pos 0
zero-cancel a b h k = elim (sign b) [ below n ↦ let p = neg-mul a b h n in absurd (omega (arith, lin)) | none e ↦ e | above p ↦ let q = pos-mul a b h p in absurd (omega (arith, lin)) ]

pub same-cancel : (a b c : ℤ) → pos 0 <ℤ a → a *ℤ b ≡ a *ℤ c → b ≡ c
same-cancel a b c h e =
    let split : a *ℤ (b -ℤ c) ≡ a *ℤ b -ℤ a *ℤ c = ring (a ∷ b ∷ c ∷ []) (var 0 ⊗ (var 1 ⊖ var 2)) (var 0 ⊗ var 1 ⊖ var 0 ⊗ var 2) refl in
    let z : b -ℤ c ≡ pos 0 = zero-cancel a (b -ℤ c) h (omega (arith, lin)) in omega (arith, lin)

-- an order times a factor of 0 or more, and back
pub le-mul : (a b c : ℤ) → pos 0 ≤ℤ a → b ≤ℤ c → (a *ℤ b) ≤ℤ (a *ℤ c)
le-mul a b c h k =
    let split : a *ℤ (c -ℤ b) ≡ a *ℤ c -ℤ a *ℤ b = ring (a ∷ b ∷ c ∷ []) (var 0 ⊗ (var 2 ⊖ var 1)) (var 0 ⊗ var 2 ⊖ var 0 ⊗ var 1) refl in
    let p = nonneg-mul a (c -ℤ b) h (omega (arith, lin)) in omega (arith, lin)

pub le-cancel : (a b c : ℤ) → pos 0 <ℤ a → (a *ℤ b) ≤ℤ (a *ℤ c) → b ≤ℤ c
le-cancel a b c h k =
    let split : a *ℤ (c -ℤ b) ≡ a *ℤ c -ℤ a *ℤ b = ring (a ∷ b ∷ c ∷ []) (var 0 ⊗ (var 2 ⊖ var 1)) (var 0 ⊗ var 2 ⊖ var 0 ⊗ var 1) refl in
    let p = nonneg-cancel a (c -ℤ b) h (omega (arith, lin)) in omega (arith, lin)

pub lt-mul : (a b c : ℤ) → pos 0 <ℤ a → b <ℤ c → (a *ℤ b) <ℤ (a *ℤ c)
lt-mul a b c h k =
    let split : a *ℤ (c -ℤ b) ≡ a *ℤ c -ℤ a *ℤ b = ring (a ∷ b ∷ c ∷ []) (var 0 ⊗ (var 2 ⊖ var 1)) (var 0 ⊗ var 2 ⊖ var 0 ⊗ var 1) refl in
    let p = pos-mul a (c -ℤ b) h (omega (arith, lin)) in omega (arith, lin)

pub lt-cancel : (a b c : ℤ) → pos 0 <ℤ a → (a *ℤ b) <ℤ (a *ℤ c) → b <ℤ c
lt-cancel a b c h k =
    let split : a *ℤ (c -ℤ b) ≡ a *ℤ c -ℤ a *ℤ b = ring (a ∷ b ∷ c ∷ []) (var 0 ⊗ (var 2 ⊖ var 1)) (var 0 ⊗ var 2 ⊖ var 0 ⊗ var 1) refl in
    let p = pos-cancel a (c -ℤ b) h (omega (arith, lin)) in omega (arith, lin)
