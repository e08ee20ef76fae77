-- Known bytes that a writer has taken.
use Rattle.std.proofs.Common.{◌≡◌, ℕ, List, ◌++◌, take, drop, Option, None, Some, ap, sym, ◌∙◌}
use Rattle.std.specs.Io.KnownBytes.{Appends}
use Rattle.std.proofs.lemmas.List.{take-append-drop, append_assoc, append-nil}
use Rattle.shelf_io.specs.Files.{IsPartlySpoken}

pub appends_both : (a b c : Option (List ℕ)) (xs ys : List ℕ) → Appends a b xs → Appends b c ys → Appends a c (xs ++ ys)
appends_both None b c xs ys p q = tt
appends_both (Some x) None c xs ys p q = absurd p
appends_both (Some x) (Some y) None xs ys p q = absurd q
appends_both (Some x) (Some y) (Some z) xs ys p q = q ∙ ap (λ l. l ++ ys) p ∙ append_assoc x xs ys

-- what was done before, what is done now, and the rest
pub done_more : (all done rest : List ℕ) (n : ℕ) → all ≡ done ++ rest → all ≡ (done ++ take n rest) ++ drop n rest
done_more all done rest n e = e ∙ ap (λ r. done ++ r) (sym (take-append-drop n rest)) ∙ sym (append_assoc done (take n rest) (drop n rest))

-- where nothing was appended, no bytes of the text were
pub none_spoken : (old new bytes : List ℕ) → new ≡ old → IsPartlySpoken (Some old) (Some new) bytes
none_spoken old new bytes e = (0, ap Some (e ∙ sym (append-nil old)))
