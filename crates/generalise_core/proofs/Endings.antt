-- Texts of lines, one piece after another.
use Rattle.std.proofs.Common.{◌≡◌, ℕ, List, [], ◌∷◌, ◌++◌, refl, ap, sym, ◌∙◌, append_assoc}
use Rattle.agg_base.specs.Texts.{text_of_lines}

pub text_of_lines-append : (xs ys : List (List ℕ)) → text_of_lines (xs ++ ys) ≡ text_of_lines xs ++ text_of_lines ys
text_of_lines-append [] ys = refl
text_of_lines-append (x ∷ xs) ys = ap (λ rest. x ++ 10 ∷ rest) (text_of_lines-append xs ys) ∙ sym (append_assoc x (10 ∷ text_of_lines xs) (text_of_lines ys))

-- what one more piece makes of a text
pub and_then : (x y z a b : List ℕ) → y ≡ x ++ a → z ≡ y ++ b → z ≡ x ++ (a ++ b)
and_then x y z a b e f = f ∙ ap (λ t. t ++ b) e ∙ append_assoc x a b

-- one more line
pub next_line : (text front new : List ℕ) (lines : List (List ℕ)) (line : List ℕ)
    → front ≡ text ++ text_of_lines lines → new ≡ front ++ text_of_lines (line ∷ []) → new ≡ text ++ text_of_lines (lines ++ line ∷ [])
next_line text front new lines line e f = and_then text front new _ _ e f ∙ ap (λ t. text ++ t) (sym (text_of_lines-append lines (line ∷ [])))
