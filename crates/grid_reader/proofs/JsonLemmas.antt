-- A number of JSON is made of ASCII.
use Rattle.std.proofs.Common.{◌≡◌, ℕ, zero, suc, ◌<◌, ◌==◌, ◌&&◌, ◌||◌, nat_lt, not, refl, sym, arith, subst, inl, inr, true, List, [], ◌∷◌, length, drop}
use Rattle.std.proofs.lemmas.Bool.{and_parts, or_cases}
use Rattle.std.specs.Prelude.{slice_index}
use Rattle.std.specs.Str.{IsAscii, IsUtf8}
use Rattle.std.specs.Char.{is_ascii_digit}
use Rattle.std.proofs.lemmas.Bool.Decides.{nat_tests, Decides-eqb}
use Rattle.std.proofs.lemmas.Str.{IsUtf8-from_ascii}
use Rattle.std.proofs.Math.Seq.{drop-length}
use Rattle.json_text.specs.NumberTest.{run, strip_sign, is_digits, is_power, is_fraction, is_rest, is_bare_number, is_json_number}
use Rattle.json_text.proofs.Cases.{by_cases_of}

ascii_none : IsAscii []
ascii_none i = omega arith

ascii_cons : (x : ℕ) (t : List ℕ) → x < 128 → IsAscii t → IsAscii (x ∷ t)
ascii_cons x t h more zero = h
ascii_cons x t h more (suc i) = more i

-- a text behind a first byte
behind_first : (t : List ℕ) (c : ℕ) → c < 128 → (slice_index t 0 == c) ≡ true → IsAscii (drop 1 t) → IsAscii t
behind_first [] c h e more = ascii_none
behind_first (x ∷ t) c h e more = let same : x ≡ c = (Decides-eqb x c).0 e in ascii_cons x t (omega arith) more

digit_small : (x : ℕ) → is_ascii_digit x ≡ true → x < 128
digit_small x e = grind (arith, nat_tests)

-- a text that goes on behind digits
run_ascii : (t : List ℕ) → IsAscii (drop (run t) t) → IsAscii t
run_ascii [] more = ascii_none
run_ascii (x ∷ t) more =
    by_cases_of (is_ascii_digit x) _
    (λ e.
    let n : run (x ∷ t) ≡ suc (run t) = rw e (omega arith) in
    ascii_cons x t (digit_small x e) (run_ascii t (subst (λ (k : ℕ). IsAscii (drop k (x ∷ t))) n more)))
    (λ e.
    let n : run (x ∷ t) ≡ 0 = rw e refl in
    subst (λ (k : ℕ). IsAscii (drop k (x ∷ t))) n more)

unsigned_ascii : (t : List ℕ) → IsAscii (strip_sign t) → IsAscii t
unsigned_ascii t more =
    by_cases_of ((slice_index t 0 == 43) || (slice_index t 0 == 45)) _
    (λ e.
    let behind : IsAscii (drop 1 t) = rw e at more in
    elim (or_cases (slice_index t 0 == 43) (slice_index t 0 == 45) e) [
      | inl k ↦ behind_first t 43 (omega arith) k behind
      | inr k ↦ behind_first t 45 (omega arith) k behind
    ])
    (λ e. rw e at more)

digits_ascii : (t : List ℕ) → is_digits t ≡ true → IsAscii t
digits_ascii t h =
    let all : run t ≡ length t = (Decides-eqb (run t) (length t)).0 (and_parts (nat_lt 0 (run t)) (run t == length t) h).1 in
    run_ascii t (subst (λ (k : ℕ). IsAscii (drop k t)) (sym all) (subst (λ (xs : List ℕ). IsAscii xs) (sym (drop-length t)) ascii_none))

power_ascii : (t : List ℕ) → is_power t ≡ true → IsAscii t
power_ascii [] h = ascii_none
power_ascii (x ∷ t) h =
    elim (or_cases (length (x ∷ t) == 0) (((x == 101) || (x == 69)) && is_digits (strip_sign t)) h) [
      | inl e ↦ absurd (let none : length (x ∷ t) ≡ 0 = (Decides-eqb (length (x ∷ t)) 0).0 e in omega arith)
      | inr e ↦ power_parts x t e
    ]
  where
    power_parts : (x : ℕ) (t : List ℕ) → (((x == 101) || (x == 69)) && is_digits (strip_sign t)) ≡ true → IsAscii (x ∷ t)
    power_parts x t e =
        let parts = and_parts ((x == 101) || (x == 69)) (is_digits (strip_sign t)) e in
        let more : IsAscii t = unsigned_ascii t (digits_ascii (strip_sign t) parts.1) in
        elim (or_cases (x == 101) (x == 69) parts.0) [
          | inl k ↦ (let same : x ≡ 101 = (Decides-eqb x 101).0 k in ascii_cons x t (omega arith) more)
          | inr k ↦ (let same : x ≡ 69 = (Decides-eqb x 69).0 k in ascii_cons x t (omega arith) more)
        ]

fraction_ascii : (t : List ℕ) → is_fraction t ≡ true → IsAscii t
fraction_ascii t h = run_ascii t (power_ascii (drop (run t) t) (and_parts (nat_lt 0 (run t)) (is_power (drop (run t) t)) h).1)

rest_ascii : (t : List ℕ) → is_rest t ≡ true → IsAscii t
rest_ascii t h =
    by_cases_of (slice_index t 0 == 46) _
    (λ e. behind_first t 46 (omega arith) e (fraction_ascii (drop 1 t) (rw e at h)))
    (λ e. power_ascii t (rw e at h))

bare_ascii : (t : List ℕ) → is_bare_number t ≡ true → IsAscii t
bare_ascii t h = run_ascii t (rest_ascii (drop (run t) t) (and_parts (nat_lt 0 (run t) && ((run t == 1) || not (slice_index t 0 == 48))) (is_rest (drop (run t) t)) h).1)

json_ascii : (t : List ℕ) → is_json_number t ≡ true → IsAscii t
json_ascii t h =
    by_cases_of (slice_index t 0 == 45) _
    (λ e. behind_first t 45 (omega arith) e (bare_ascii (drop 1 t) (rw e at h)))
    (λ e. bare_ascii t (rw e at h))

-- a number of JSON is text
pub json_is_text : (t : List ℕ) → is_json_number t ≡ true → IsUtf8 t
json_is_text t h = IsUtf8-from_ascii t (json_ascii t h)
