-- What stands from a place on, and the blanks at the end of a text.
use Rattle.std.proofs.Common.{◌≡◌, ℕ, ◌+◌, ◌-◌, ◌<◌, ◌≤◌, ◌==◌, ◌&&◌, Bool, true, false, cond, List, [], ◌∷◌, ◌++◌, length, get_or, take, drop, sym, ap, refl, ◌∙◌, arith}
use Rattle.std.proofs.lemmas.Bool.Decides.{nat_tests}
use Rattle.std.proofs.lemmas.List.{take_rest, take_more, length-append}
use Rattle.text_words.specs.Words.{is_blank}
use Rattle.class_table.specs.Words.{trim_end}

-- what stands from a place on
pub rest_at : (text : List ℕ) (at place : ℕ) → at ≡ place → take (length text - at) (drop at text) ≡ drop place text
rest_at text at place e = take_rest text at ∙ ap (λ k. drop k text) e

-- a blank at the end is dropped
trim_end_blank : (text : List ℕ) (b : ℕ) → is_blank b ≡ true → trim_end (text ++ b ∷ []) ≡ trim_end text
trim_end_blank [] b e = rw e refl
trim_end_blank (x ∷ text) b e = rw (trim_end_blank text b e) refl

dropped : (b : Bool) (n x : ℕ) (text : List ℕ) → length text ≡ n + 1 → cond (b && (length text == 0)) [] (x ∷ text) ≡ x ∷ text
dropped true n x text e = let filled : (length text == 0) ≡ false = grind (arith, nat_tests) in ap (λ b. cond b [] (x ∷ text)) filled
dropped false n x text e = refl

-- a text that ends otherwise is kept
trim_end_other : (text : List ℕ) (b : ℕ) → is_blank b ≡ false → trim_end (text ++ b ∷ []) ≡ text ++ b ∷ []
trim_end_other [] b e = rw e refl
trim_end_other (x ∷ text) b e = rw (trim_end_other text b e) (dropped (is_blank x) (length text) x (text ++ b ∷ []) (length-append text (b ∷ [])))

-- one more blank before the end
pub end_step : (text : List ℕ) (end : ℕ) → 0 < end → end ≤ length text → is_blank (get_or text (end - 1) 0) ≡ true → trim_end (take end text) ≡ trim_end (take (end - 1) text)
end_step text end some within is =
    let e : end ≡ end - 1 + 1 = omega arith in
    let low : end - 1 < length text = omega arith in
    let more : take end text ≡ take (end - 1) text ++ get_or text (end - 1) 0 ∷ [] = ap (λ k. take k text) e ∙ take_more text (end - 1) 0 low in
    ap trim_end more ∙ trim_end_blank (take (end - 1) text) _ is

-- where the last byte is no blank
pub end_found : (text : List ℕ) (end : ℕ) → 0 < end → end ≤ length text → is_blank (get_or text (end - 1) 0) ≡ false → trim_end (take end text) ≡ take end text
end_found text end some within is =
    let e : end ≡ end - 1 + 1 = omega arith in
    let low : end - 1 < length text = omega arith in
    let more : take end text ≡ take (end - 1) text ++ get_or text (end - 1) 0 ∷ [] = ap (λ k. take k text) e ∙ take_more text (end - 1) 0 low in
    ap trim_end more ∙ trim_end_other (take (end - 1) text) _ is ∙ sym more

pub end_none : (text : List ℕ) (end : ℕ) → end ≡ 0 → trim_end (take end text) ≡ take end text
end_none text end e = rw e refl
