-- The bytes of a character of two to four bytes, by six bits each.
use Rattle.std.proofs.Common.{◌≡◌, ◌≤◌, ◌<◌, ℕ, ◌+◌, ◌*◌, ◌/◌, ◌%◌, nat_lt, refl, arith, true, false, [], ◌∷◌}
use Rattle.std.proofs.lemmas.Bool.Decides.{nat_tests}
use lib.Utf8.{encode}

pub encode_two : (c f r : ℕ) → c ≡ f * 64 + r → r < 64 → 2 ≤ f → f < 32 → encode c ≡ (192 + f) ∷ (128 + r) ∷ []
unfolding encode
encode_two c f r e hr few most =
    let one : nat_lt c 128 ≡ false = grind (arith, nat_tests) in
    let two : nat_lt c 2048 ≡ true = grind (arith, nat_tests) in
    let q : c / 64 ≡ f = omega arith in
    let m : c % 64 ≡ r = omega arith in
    rw (one, two, q, m) refl

pub encode_three : (c f s r : ℕ) → c ≡ (f * 64 + s) * 64 + r → s < 64 → r < 64 → 32 ≤ f * 64 + s → f < 16 → encode c ≡ (224 + f) ∷ (128 + s) ∷ (128 + r) ∷ []
unfolding encode
encode_three c f s r e hs hr few most =
    let one : nat_lt c 128 ≡ false = grind (arith, nat_tests) in
    let two : nat_lt c 2048 ≡ false = grind (arith, nat_tests) in
    let three : nat_lt c 65536 ≡ true = grind (arith, nat_tests) in
    let first : c / 4096 ≡ f = omega arith in
    let front : c / 64 ≡ f * 64 + s = omega arith in
    let second : (c / 64) % 64 ≡ s = omega arith in
    let m : c % 64 ≡ r = omega arith in
    rw (one, two, three, first, second, m) refl

pub encode_four : (c f s t r : ℕ) → c ≡ ((f * 64 + s) * 64 + t) * 64 + r → s < 64 → t < 64 → r < 64 → 16 ≤ f * 64 + s → encode c ≡ (240 + f) ∷ (128 + s) ∷ (128 + t) ∷ (128 + r) ∷ []
unfolding encode
encode_four c f s t r e hs ht hr few =
    let one : nat_lt c 128 ≡ false = grind (arith, nat_tests) in
    let two : nat_lt c 2048 ≡ false = grind (arith, nat_tests) in
    let three : nat_lt c 65536 ≡ false = grind (arith, nat_tests) in
    let first : c / 262144 ≡ f = omega arith in
    let front : c / 64 ≡ (f * 64 + s) * 64 + t = omega arith in
    let middle : c / 4096 ≡ f * 64 + s = omega arith in
    let second : (c / 4096) % 64 ≡ s = omega arith in
    let third : (c / 64) % 64 ≡ t = omega arith in
    let m : c % 64 ≡ r = omega arith in
    rw (one, two, three, first, second, third, m) refl
