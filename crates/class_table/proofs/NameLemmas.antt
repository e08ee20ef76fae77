-- The rule of names, and the words of a row.
use Rattle.std.proofs.Common.{◌≡◌, ℕ, zero, suc, All, ◌≤◌, ◌&&◌, nat_le, Bool, true, false, List, [], ◌∷◌, ◌++◌, length, Option, Some, None, sym, ap, refl, ◌∙◌, arith}
use Rattle.std.specs.List.{list_all}
use Rattle.std.specs.Str.{is_utf8, IsUtf8}
use Rattle.std.proofs.lemmas.Bool.Decides.{nat_tests}
use Rattle.std.proofs.lemmas.List.{append_assoc, append-nil}
use Rattle.std.proofs.lemmas.Str.{IsUtf8-from_is_utf8, is_utf8-from_IsUtf8}
use Rattle.class_table.specs.Numbers.{number_in}
use Rattle.class_table.specs.Reading.{distances_in, push_front}
use Rattle.class_table.specs.Names.{IsName, is_name}

le_holds : (a b : ℕ) → a ≤ b → nat_le a b ≡ true
le_holds a b l = grind (arith, nat_tests)

-- a name that keeps the rule
pub name_holds : (name : List ℕ) → 1 ≤ length name → length name ≤ 100 → list_all (λ byte. nat_le 32 byte) name ≡ true → IsUtf8 name → is_name name ≡ true
unfolding is_name
name_holds name some few printed text = rw (le_holds 1 (length name) some, le_holds (length name) 100 few, printed, is_utf8-from_IsUtf8 name text) refl

two : (a b : Bool) → (a && b) ≡ true → (a ≡ true) × (b ≡ true)
two true true e = (refl, refl)
two true false e = (cc, cc)
two false b e = (cc, cc)

le_test : (a b : ℕ) → nat_le a b ≡ true → a ≤ b
le_test a b e = grind (arith, nat_tests)

printed_of : (name : List ℕ) → list_all (λ byte. nat_le 32 byte) name ≡ true → All (λ byte. 32 ≤ byte) name
printed_of [] e k d l = absurd (omega arith)
printed_of (b ∷ name) e zero d l = le_test 32 b (two (nat_le 32 b) (list_all (λ byte. nat_le 32 byte) name) e).0
printed_of (b ∷ name) e (suc k) d l = printed_of name (two (nat_le 32 b) (list_all (λ byte. nat_le 32 byte) name) e).1 k d (omega arith)

printed_test : (name : List ℕ) → All (λ byte. 32 ≤ byte) name → list_all (λ byte. nat_le 32 byte) name ≡ true
printed_test [] all = refl
printed_test (b ∷ name) all = rw (le_holds 32 b (all 0 0 (omega arith)), printed_test name (λ k d l. all (suc k) d (omega arith))) refl

-- the test says that the name keeps the rule
pub name_of_test : (name : List ℕ) → is_name name ≡ true → IsName name
unfolding is_name
name_of_test name is =
    let tests = two ((nat_le 1 (length name) && nat_le (length name) 100) && list_all (λ byte. nat_le 32 byte) name) (is_utf8 name) is in
    let first = two (nat_le 1 (length name) && nat_le (length name) 100) (list_all (λ byte. nat_le 32 byte) name) tests.0 in
    let sizes = two (nat_le 1 (length name)) (nat_le (length name) 100) first.0 in
    record {
      some = le_test 1 (length name) sizes.0;
      few = le_test (length name) 100 sizes.1;
      printed = printed_of name first.1;
      utf8 = IsUtf8-from_is_utf8 name tests.1;
    }

-- a name that keeps the rule passes the test
pub name_test : (name : List ℕ) → IsName name → is_name name ≡ true
name_test name is = name_holds name is.some is.few (printed_test name is.printed) is.utf8

-- both of two tests, the second of which fails
second_fails : (a b : Bool) → (b ≡ true → ⊥) → (a && b) ≡ false
second_fails true true f = absurd (f refl)
second_fails true false f = refl
second_fails false b f = refl

-- a name that is not text
pub name_no_text : (name : List ℕ) → (IsUtf8 name → ⊥) → is_name name ≡ false
unfolding is_name
name_no_text name none = second_fails _ (is_utf8 name) (λ e. none (IsUtf8-from_is_utf8 name e))

-- the numbers so far, and those that follow
abbrev pub onto : List ℕ → Option (List ℕ) → Option (List ℕ)
onto row None = None
onto row (Some more) = Some (row ++ more)

onto_push : (row : List ℕ) (n : ℕ) (o : Option (List ℕ)) → onto row (push_front (Some n) o) ≡ onto (row ++ n ∷ []) o
onto_push row n None = refl
onto_push row n (Some more) = ap (λ r. Some r) (sym (append_assoc row (n ∷ []) more))

pub onto_start : (o : Option (List ℕ)) → o ≡ onto [] o
onto_start None = refl
onto_start (Some more) = refl

-- one more distance
pub row_step : (all left more : List (List ℕ)) (row part : List ℕ) (n : ℕ) → left ≡ part ∷ more → Some n ≡ number_in 0 10000 part
    → distances_in all ≡ onto row (distances_in left) → distances_in all ≡ onto (row ++ n ∷ []) (distances_in more)
row_step all left more row part n is number before =
    before ∙ ap (λ ps. onto row (distances_in ps)) is ∙ ap (λ o. onto row (push_front o (distances_in more))) (sym number) ∙ onto_push row n (distances_in more)

-- a word that spells no distance
pub row_none : (all left more : List (List ℕ)) (row part : List ℕ) → left ≡ part ∷ more → None ≡ number_in 0 10000 part
    → distances_in all ≡ onto row (distances_in left) → distances_in all ≡ None
row_none all left more row part is number before =
    before ∙ ap (λ ps. onto row (distances_in ps)) is ∙ ap (λ o. onto row (push_front o (distances_in more))) (sym number)

-- where all words are read
pub row_done : (all left : List (List ℕ)) (row : List ℕ) → left ≡ [] → distances_in all ≡ onto row (distances_in left) → distances_in all ≡ Some row
row_done all left row none before = before ∙ ap (λ ps. onto row (distances_in ps)) none ∙ ap (λ r. Some r) (append-nil row)
