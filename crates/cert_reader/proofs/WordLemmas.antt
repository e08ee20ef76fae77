-- The words that are left of a line, and what is read of them.
use Rattle.std.proofs.Common.{◌≡◌, ℕ, ◌+◌, Bool, true, false, cond, ◌==◌, ◌&&◌, List, [], ◌∷◌, ◌++◌, length, Option, None, Some, refl, ap, sym, ◌∙◌, arith, rules, FitsSigned, IfSome}
use Rattle.std.specs.Prelude.{ℤ}
use Rattle.std.specs.Int.{w128}
use Rattle.std.specs.Fmt.{signed_decimal}
use Rattle.std.specs.List.{slice_split}
use Rattle.std.proofs.lemmas.List.Splits.{length-slice_split}
use Rattle.cert_reader.specs.LineReading.{◌>>=◌, words_in, words_left, whole_in, members_in, is_rising, set_in}
use Rattle.agg_model.specs.Problem.{IsRising}
use Rattle.std.proofs.lemmas.Bool.Decides.{Decides-eqb}
use Rattle.cert_reader.proofs.LineLemmas.{rises, is_rising-from}
use Rattle.cert_reader.proofs.NumberLemmas.{whole_in_is, whole_again, fits_wide, wide_fits}

not_zero : (n : ℕ) → (n + 1 == 0) ≡ false
not_zero n = search rules

some_words : (line : List ℕ) → (length (words_in line) == 0) ≡ false
unfolding words_in
some_words line = ap (λ n. n == 0) (length-slice_split (λ b. b == 32) line) ∙ not_zero _

pub is_over_is : (b : Bool) (line : List ℕ) (ws : List (List ℕ)) → words_left b line ≡ ws → b ≡ (length ws == 0)
is_over_is true line ws e = ap (λ ws. length ws == 0) e
is_over_is false line ws e = sym (some_words line) ∙ ap (λ ws. length ws == 0) e

pub read_whole_is : (w : List ℕ) (r : Option ℤ) → IfSome r (λ n. w ≡ signed_decimal n) → ((n : ℤ) → FitsSigned w128 n → w ≡ signed_decimal n → r ≡ Some n) → IfSome r (FitsSigned w128) → r ≡ whole_in w
read_whole_is w (Some n) found spelled fits = sym (ap whole_in found ∙ whole_again n (fits_wide n fits))
read_whole_is w None found spelled fits = none (whole_in w) refl
  where
    none : (o : Option ℤ) → whole_in w ≡ o → None ≡ o
    none None e = refl
    none (Some z) e = let i = whole_in_is w z e in spelled z (wide_fits z i.1) i.0

-- behind members in front, those that are read
abbrev pub onto : List ℕ → Option (List ℕ) → Option (List ℕ)
onto front None = None
onto front (Some members) = Some (front ++ members)

-- ---- sets

chosen : (a b : Bool) (set : List ℕ) → a ≡ true → b ≡ true → cond (a && b) (Some set) None ≡ Some set
chosen a b set e f = ap (λ a. cond (a && b) (Some set) None) e ∙ ap (λ b. cond b (Some set) None) f

left_out : (a b : Bool) (set : List ℕ) → (a ≡ true → b ≡ true → ⊥) → cond (a && b) (Some set) None ≡ None
left_out true true set never = absurd (never refl refl)
left_out true false set never = refl
left_out false b set never = refl

pub set_found : (count : ℕ) (ws : List (List ℕ)) (members set : List ℕ) (t : Bool) → Some members ≡ members_in ws → set ≡ members → t ≡ (length set == count) → t ≡ true → IsRising set → Some set ≡ set_in count ws
unfolding set_in
set_found count ws members set t e same is there r =
    sym (ap (λ o. o >>= λ set. cond ((length set == count) && is_rising set) (Some set) None) (sym e ∙ ap Some (sym same))
    ∙ chosen (length set == count) (is_rising set) set (sym is ∙ there) (is_rising-from set r))

pub set_unrising : (count : ℕ) (ws : List (List ℕ)) (members : List ℕ) → Some members ≡ members_in ws → ¬ IsRising members → None ≡ set_in count ws
unfolding set_in
set_unrising count ws members e never =
    sym (ap (λ o. o >>= λ set. cond ((length set == count) && is_rising set) (Some set) None) (sym e)
    ∙ left_out (length members == count) (is_rising members) members (λ a b. never (rises members b)))

pub set_miscounted : (count : ℕ) (ws : List (List ℕ)) (members set : List ℕ) (t : Bool) → Some members ≡ members_in ws → set ≡ members → t ≡ (length set == count) → t ≡ false → None ≡ set_in count ws
unfolding set_in
set_miscounted count ws members set t e same is never =
    sym (ap (λ o. o >>= λ set. cond ((length set == count) && is_rising set) (Some set) None) (sym e ∙ ap Some (sym same))
    ∙ ap (λ b. cond (b && is_rising set) (Some set) None) (sym is ∙ never))
