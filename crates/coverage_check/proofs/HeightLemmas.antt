-- The list of the heights of ends.
use Rattle.std.proofs.Common.{◌≡◌, ℕ, ◌+◌, ◌<◌, sym, ◌∙◌, ap, List, [], ◌∷◌, ◌++◌, append_assoc, length, get_or, take, ℤ}
use Rattle.std.proofs.lemmas.List.{take_more, flat_map_more}
use Rattle.plane_edge.specs.declared.edge.Edge.{Edge}
use Rattle.coverage_check.specs.Heights.{end_heights_of}

pub heights_more : (es : List Edge) (i : ℕ) (e : Edge) (low high : ℤ) (hs one two : List ℤ) → i < length es → e ≡ get_or es i e → low ≡ e.low.y → high ≡ e.high.y → hs ≡ end_heights_of (take i es) → one ≡ hs ++ low ∷ [] → two ≡ one ++ high ∷ [] → two ≡ end_heights_of (take (i + 1) es)
heights_more es i e low high hs one two l is is_low is_high before a b =
    let both : two ≡ hs ++ (low ∷ high ∷ []) = b ∙ ap (λ xs. xs ++ high ∷ []) a ∙ append_assoc hs (low ∷ []) (high ∷ []) in
    let read : hs ++ (low ∷ high ∷ []) ≡ end_heights_of (take i es) ++ (e.low.y ∷ e.high.y ∷ []) = ap (λ xs. xs ++ (low ∷ high ∷ [])) before ∙ ap (λ (z : ℤ). end_heights_of (take i es) ++ (z ∷ high ∷ [])) is_low ∙ ap (λ (z : ℤ). end_heights_of (take i es) ++ (e.low.y ∷ z ∷ [])) is_high in
    both ∙ read ∙ flat_map_more (λ (f : Edge). f.low.y ∷ f.high.y ∷ []) [] (take i es) e
    ∙ ap (λ (f : Edge). end_heights_of (take i es ++ f ∷ [])) is ∙ sym (ap end_heights_of (take_more es i e l))
