-- What is left of a text, by its bytes.
use Rattle.std.proofs.Common.{◌≡◌, ℕ, ◌+◌, ◌<◌, ◌==◌, Bool, true, false, cond, List, [], ◌∷◌, length, suc, Option, None, Some, refl, ap, sym, ◌∙◌, arith, rules}
use Rattle.std.specs.List.{slice_split, join_with_byte}
use Rattle.std.proofs.lemmas.Bool.Decides.{Decides-eqb}
use Rattle.std.proofs.lemmas.List.Splits.{length-slice_split, join_with_byte-slice_split}
use Rattle.cert_reader.specs.Faults.{Size, texts_in, fault_from}
use Rattle.cert_text.specs.declared.fault.CertFault.TheVariants.{Line}

texts_is : (text : List ℕ) → slice_split (λ b. b == 10) text ≡ texts_in text
unfolding texts_in
texts_is text = refl

pub nothing_left : (text : List ℕ) → length text ≡ 0 → texts_in text ≡ [] ∷ []
unfolding texts_in
nothing_left [] e = refl
nothing_left (b ∷ text) e = absurd (omega arith)

pub some_text : (text : List ℕ) → 0 < length (texts_in text)
unfolding texts_in
some_text text = let n = length-slice_split (λ b. b == 10) text in omega arith

pub is_over : (text : List ℕ) → (length text == 0) ≡ true → texts_in text ≡ [] ∷ []
is_over text e = nothing_left text ((Decides-eqb (length text) 0).0 e)

pub is_over_fault : (text : List ℕ) (n : ℕ) (size : Size) → (length text == 0) ≡ true → fault_from [] n size (texts_in text) ≡ None
is_over_fault text n size e = ap (fault_from [] n size) (is_over text e)

one_or_more : (texts : List (List ℕ)) (n : ℕ) (size : Size) → (texts ≡ [] ∷ [] → ⊥) → fault_from [] n size texts ≡ Some (Line n)
one_or_more [] n size differs = refl
one_or_more ([] ∷ []) n size differs = absurd (differs refl)
one_or_more ((b ∷ bs) ∷ []) n size differs = ap (λ t. cond t None (Some (Line n))) (not_none (length bs))
  where
    not_none : (n : ℕ) → (suc n == 0) ≡ false
    not_none n = search rules
one_or_more (t ∷ u ∷ ts) n size differs = refl

pub is_left : (text : List ℕ) (n : ℕ) (size : Size) → (length text == 0) ≡ false → fault_from [] n size (texts_in text) ≡ Some (Line n)
is_left text n size e = one_or_more (texts_in text) n size (λ none. empty text e none)
  where
    empty : (text : List ℕ) → (length text == 0) ≡ false → texts_in text ≡ [] ∷ [] → ⊥
    empty [] e none = (cc)
    empty (b ∷ text) e none = let back = sym (join_with_byte-slice_split 10 (b ∷ text)) ∙ ap (join_with_byte 10) (texts_is (b ∷ text) ∙ none) in (cc)
