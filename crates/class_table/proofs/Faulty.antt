-- The fault that a line has is that of the first rule that it breaks.
use Rattle.std.proofs.Common.{◌≡◌, ◌≢◌, ℕ, ◌+◌, ◌<◌, ◌≤◌, ◌^◌, nat_lt, nat_le, ◌==◌, ◌&&◌, Bool, true, false, not, cond, List, [], ◌∷◌, length, drop, slice_index, codes, Option, Some, None, Result, Err, IfErr, inl, inr, ◌⊎◌, sym, ap, refl, ◌∙◌, arith}
use Rattle.std.specs.Str.{bytes_eq}
use Rattle.std.proofs.lemmas.Slice.Eq.{bytes_eq-Decides}
use Rattle.agg_base.specs.declared.limits.TheConstants.{CLASSES}
use Rattle.text_words.specs.Words.{words, word}
use Rattle.class_table.specs.Breaks.{SpellsNumber, SpellRow, IsUnitDue, IsBorderDue, IsClassDue, IsRowDue, IsDue, unit_due, border_due, class_due, row_due, BreaksFirst, wrong_version, wrong_words, wrong_factor, wrong_border, class_too_many, wrong_threshold, wrong_name, repeated_name, wrong_count, wrong_distance, far_from_itself}
use Rattle.class_table.specs.Names.{is_name}
use Rattle.class_table.specs.Numbers.{number_in}
use Rattle.class_table.specs.Content.{Content, is_among}
use Rattle.class_table.specs.Words.{is_counted, name_in}
use Rattle.class_table.specs.Reading.{if_number, is_version, version_line, unit_line, border_line, scale_line, named_class, class_line, distances_in, row_line, body_line, due_line, line_says}
use Rattle.class_table.specs.declared.draft.Due.{Due}
use Rattle.class_table.specs.declared.draft.Due.TheVariants.{Head, Scale, Border, Body}
use Rattle.class_table.specs.declared.fault.Why.TheVariants.{Number}
use Rattle.class_table.specs.declared.fault.TableFault.{TableFault}
use Rattle.class_table.specs.declared.fault.TableFault.TheVariants.{Line}
use Rattle.class_table.proofs.Digits.{number_in_is, number_is_in}
use Rattle.class_table.proofs.NameLemmas.{name_test, name_of_test}
use Rattle.class_table.proofs.Steps.{both, same_text, eq_test, lt_test, not_lt_test, not_le_test, le_test, eq_true, lt_true, one_word, two_words, three_words, some_words, distances_ok, distances_back}

-- choices

pub by_choice : {X : Type 0} (P : X → Type 0) (b : Bool) (r s : X) → (b ≡ true → P r) → (b ≡ false → P s) → P (cond b r s)
by_choice P true r s first second = first refl
by_choice P false r s first second = second refl

by_number : {X Y : Type 0} (P : Result Y TableFault → Type 0) (n : ℕ) (o : Option X) (more : X → Result Y TableFault) → (o ≡ None → P (Err (Line n Number))) → ((x : X) → o ≡ Some x → P (more x)) → P (if_number n o more)
by_number P n None more none some = none refl
by_number P n (Some x) more none some = some x refl

-- a word that spells no number
unspelled : (least most : ℕ) (digits : List ℕ) → number_in least most digits ≡ None → ¬ SpellsNumber least most digits
unspelled least most digits none spelled = let some : number_in least most digits ≡ Some spelled.0 = number_is_in least most digits spelled.0 spelled.1 in cc

unspelled_row : (parts : List (List ℕ)) → distances_in parts ≡ None → (row : List ℕ) → ¬ SpellRow parts row
unspelled_row parts none row spelled = let some : distances_in parts ≡ Some row = distances_back parts row spelled in cc

-- a test that came out wrong
pub refuted : (b : Bool) → b ≡ false → b ≡ true → ⊥
refuted b f t = cc

same_bytes : (a b : List ℕ) → a ≡ b → bytes_eq a b ≡ true
same_bytes a b e = (bytes_eq-Decides a b).1 e

-- two texts that a test tells apart
told_apart : (a b : List ℕ) → bytes_eq a b ≡ false → a ≢ b
told_apart a b f e = refuted (bytes_eq a b) f (same_bytes a b e)

-- lines that are not due

first_of : (line head : List ℕ) (rest : List (List ℕ)) → words line ≡ head ∷ rest → word (words line) 0 ≡ head
first_of line head rest e = ap (λ parts. word parts 0) e

scale_due : (d : Content) (line : List ℕ) → d.due ≡ Scale → IsDue d line → ((x : List ℕ) × (y : List ℕ) × (words line ≡ codes "unit" ∷ x ∷ y ∷ [])) ⊎ ((digits : List ℕ) × (words line ≡ codes "border" ∷ digits ∷ []))
scale_due d line due (unit_due x y is) = inl (x, y, is.words_are)
scale_due d line due (border_due digits is) = inr (digits, is.words_are)
scale_due d line due (class_due digits is) = absurd (let other : d.due ≡ Body = is.due in cc)
scale_due d line due (row_due parts is) = absurd (let other : d.due ≡ Body = is.due in cc)

only_border_due : (d : Content) (line : List ℕ) → d.due ≡ Border → IsDue d line → (digits : List ℕ) × (words line ≡ codes "border" ∷ digits ∷ [])
only_border_due d line due (unit_due x y is) = absurd (let other : d.due ≡ Scale = is.due in cc)
only_border_due d line due (border_due digits is) = (digits, is.words_are)
only_border_due d line due (class_due digits is) = absurd (let other : d.due ≡ Body = is.due in cc)
only_border_due d line due (row_due parts is) = absurd (let other : d.due ≡ Body = is.due in cc)

no_border_due : (d : Content) → d.due ≡ Body → (d.due ≡ Scale) ⊎ (d.due ≡ Border) → ⊥
no_border_due d due (inl scale) = cc
no_border_due d due (inr border) = cc

body_due : (d : Content) (line : List ℕ) → d.due ≡ Body → IsDue d line → ((digits : List ℕ) × IsClassDue d line digits) ⊎ ((parts : List (List ℕ)) × IsRowDue d line parts)
body_due d line due (unit_due x y is) = absurd (let other : d.due ≡ Scale = is.due in cc)
body_due d line due (border_due digits is) = absurd (no_border_due d due is.due)
body_due d line due (class_due digits is) = inl (digits, is)
body_due d line due (row_due parts is) = inr (parts, is)

-- the version

version_fault : (d : Content) (n : ℕ) (line : List ℕ) → d.due ≡ Head → IfErr (version_line d n (words line)) (BreaksFirst d n line)
unfolding version_line
version_fault d n line due = by_choice (λ (r : Result Content TableFault). IfErr r (BreaksFirst d n line)) (is_version (words line)) _ _ (λ t. tt)
    (λ f. wrong_version due (λ is. refuted (is_version (words line)) f (ap is_version is)))

-- the unit and the border

no_unit : (d : Content) (line : List ℕ) → d.due ≡ Scale → word (words line) 0 ≡ codes "unit" → (length (words line) == 3) ≡ false → ¬ IsDue d line
no_unit d line due head f is = elim (scale_due d line due is) [
  | inl u ↦ refuted (length (words line) == 3) f (ap (λ parts. length parts == 3) u.2)
  | inr b ↦ told_apart (codes "unit") (codes "border") refl (sym head ∙ first_of line (codes "border") (b.0 ∷ []) b.1)
]

unit_fault : (d : Content) (n : ℕ) (line : List ℕ) → d.due ≡ Scale → word (words line) 0 ≡ codes "unit" → IfErr (unit_line d n (words line)) (BreaksFirst d n line)
unfolding unit_line
unit_fault d n line due head =
    let parts = words line in
    let x = word parts 1 in
    let y = word parts 2 in
    let P = λ (r : Result Content TableFault). IfErr r (BreaksFirst d n line) in
    by_choice P (length parts == 3) _ _
    (λ t. (let is : IsUnitDue d line x y = record { due = due; words_are = three_words parts (eq_test (length parts) 3 t) ∙ ap (λ w. w ∷ x ∷ y ∷ []) head } in
    by_number P n (number_in 1 100 x) _ (λ none. wrong_factor x y is (λ s. unspelled 1 100 x none s.0))
    (λ wide some. by_number P n (number_in 1 100 y) _ (λ none. wrong_factor x y is (λ s. unspelled 1 100 y none s.1)) (λ high more. tt))))
    (λ f. wrong_words (λ other. (cc)) (no_unit d line due head f))

abbrev pub has_border : List (List ℕ) → Bool
has_border parts = (length parts == 2) && bytes_eq (word parts 0) (codes "border")

border_fault : (d : Content) (n : ℕ) (line : List ℕ) → (d.due ≡ Scale) ⊎ (d.due ≡ Border) → d.due ≢ Head → (has_border (words line) ≡ false → ¬ IsDue d line) → IfErr (border_line d n (words line)) (BreaksFirst d n line)
unfolding border_line
border_fault d n line due late other =
    let parts = words line in
    let digits = word parts 1 in
    let P = λ (r : Result Content TableFault). IfErr r (BreaksFirst d n line) in
    by_choice P (has_border parts) _ _
    (λ t. (let tests = both (length parts == 2) (bytes_eq (word parts 0) (codes "border")) t in
    let is : IsBorderDue d line digits = record { due = due; words_are = two_words parts (eq_test (length parts) 2 tests.0) ∙ ap (λ w. w ∷ digits ∷ []) (same_text (word parts 0) (codes "border") tests.1) } in
    by_number P n (number_in 0 10000 digits) _ (λ none. wrong_border digits is (unspelled 0 10000 digits none)) (λ b some. tt)))
    (λ f. wrong_words late (other f))

no_scale : (d : Content) (line : List ℕ) → d.due ≡ Scale → bytes_eq (word (words line) 0) (codes "unit") ≡ false → has_border (words line) ≡ false → ¬ IsDue d line
no_scale d line due unit border is = elim (scale_due d line due is) [
  | inl u ↦ refuted (bytes_eq (word (words line) 0) (codes "unit")) unit (same_bytes _ _ (first_of line (codes "unit") (u.0 ∷ u.1 ∷ []) u.2))
  | inr b ↦ refuted (has_border (words line)) border (ap has_border b.1)
]

scale_fault : (d : Content) (n : ℕ) (line : List ℕ) → d.due ≡ Scale → IfErr (scale_line d n (words line)) (BreaksFirst d n line)
unfolding scale_line
scale_fault d n line due = by_choice (λ (r : Result Content TableFault). IfErr r (BreaksFirst d n line)) (bytes_eq (word (words line) 0) (codes "unit")) _ _
    (λ t. unit_fault d n line due (same_text (word (words line) 0) (codes "unit") t))
    (λ f. border_fault d n line (inl due) (λ other. (cc)) (no_scale d line due f))

-- a class

negated : (b : Bool) → not b ≡ false → b ≡ true
negated true f = refl
negated false f = (cc)

name_fault : (d : Content) (n threshold : ℕ) (line digits : List ℕ) → IsClassDue d line digits → length d.names < CLASSES → SpellsNumber 0 (10 ^ 30) digits → IfErr (named_class d n threshold (name_in line)) (BreaksFirst d n line)
unfolding named_class
name_fault d n threshold line digits is room spelled =
    let name = name_in line in
    let P = λ (r : Result Content TableFault). IfErr r (BreaksFirst d n line) in
    by_choice P (not (is_name name)) _ _
    (λ t. wrong_name digits is room spelled (λ named. (let holds : is_name name ≡ true = name_test name named in cc)))
    (λ f. by_choice P (is_among d.names name) _ _ (λ t. repeated_name digits is room spelled (name_of_test name (negated (is_name name) f)) t) (λ g. tt))

short_class : (d : Content) (line : List ℕ) → d.due ≡ Body → word (words line) 0 ≡ codes "class" → length (words line) < 3 → ¬ IsDue d line
short_class d line due head short is = elim (body_due d line due is) [
  | inl c ↦ (let long = ap length c.1.words_are in omega arith)
  | inr r ↦ told_apart (codes "class") (codes "row") refl (sym head ∙ first_of line (codes "row") r.0 r.1.words_are)
]

class_fault : (d : Content) (n : ℕ) (line : List ℕ) → d.due ≡ Body → word (words line) 0 ≡ codes "class" → d.rows ≡ 0 → IfErr (class_line d n line (words line)) (BreaksFirst d n line)
unfolding class_line
class_fault d n line due head rows =
    let parts = words line in
    let digits = word parts 1 in
    let P = λ (r : Result Content TableFault). IfErr r (BreaksFirst d n line) in
    by_choice P (nat_lt (length parts) 3) _ _
    (λ t. wrong_words (λ other. (cc)) (short_class d line due head (lt_test (length parts) 3 t)))
    (λ f. (let is : IsClassDue d line digits = record {
      due = due;
      before_rows = rows;
      first = word parts 2;
      more = drop 3 parts;
      words_are = some_words parts (not_lt_test (length parts) 3 f) ∙ ap (λ w. w ∷ digits ∷ word parts 2 ∷ drop 3 parts) head;
    } in
    by_choice P (nat_le CLASSES (length d.names)) _ _
    (λ full. class_too_many digits is (le_test CLASSES (length d.names) full))
    (λ room. by_number P n (number_in 0 (10 ^ 30) digits) _
    (λ none. wrong_threshold digits is (not_le_test CLASSES (length d.names) room) (unspelled 0 (10 ^ 30) digits none))
    (λ threshold some. name_fault d n threshold line digits is (not_le_test CLASSES (length d.names) room) (threshold, number_in_is 0 (10 ^ 30) digits threshold some)))))

-- a row

pub some_word : (parts : List (List ℕ)) (a : ℕ) (more : List ℕ) → word parts 0 ≡ a ∷ more → 1 ≤ length parts
some_word [] a more e = absurd (let never : [] ≡ a ∷ more = e in cc)
some_word (x ∷ parts) a more e = omega arith

row_fault : (d : Content) (n : ℕ) (line : List ℕ) → d.due ≡ Body → word (words line) 0 ≡ codes "row" → d.rows < length d.names → IfErr (row_line d n (words line)) (BreaksFirst d n line)
unfolding row_line
row_fault d n line due head room =
    let parts = words line in
    let rest = drop 1 parts in
    let P = λ (r : Result Content TableFault). IfErr r (BreaksFirst d n line) in
    let whole : parts ≡ codes "row" ∷ rest = one_word parts (codes "row") (some_word parts 114 (111 ∷ 119 ∷ []) head) head in
    let long : length parts ≡ length rest + 1 = (let same = ap length whole in omega arith) in
    let is : IsRowDue d line rest = record { due = due; room = room; words_are = whole } in
    by_choice P (length parts == length d.names + 1) _ _
    (λ t. (let count : length rest ≡ length d.names = (let many = eq_test (length parts) (length d.names + 1) t in omega arith) in
    by_number P n (distances_in rest) _ (λ none. wrong_distance rest is count (unspelled_row rest none))
    (λ row some. by_choice P (slice_index row d.rows == 0) _ _ (λ t. tt)
    (λ f. far_from_itself rest row is count (distances_ok rest row some) (λ home. refuted (slice_index row d.rows == 0) f (eq_true (slice_index row d.rows) 0 home))))))
    (λ f. wrong_count rest is (λ count. refuted (length parts == length d.names + 1) f (eq_true (length parts) (length d.names + 1) (omega arith))))

-- any line

abbrev pub is_class_due : Content → List (List ℕ) → Bool
is_class_due d parts = bytes_eq (word parts 0) (codes "class") && (d.rows == 0)

abbrev pub is_row_due : Content → List (List ℕ) → Bool
is_row_due d parts = bytes_eq (word parts 0) (codes "row") && nat_lt d.rows (length d.names)

no_body : (d : Content) (line : List ℕ) → d.due ≡ Body → is_class_due d (words line) ≡ false → is_row_due d (words line) ≡ false → ¬ IsDue d line
no_body d line due class row is = elim (body_due d line due is) [
  | inl c ↦ (let head = ap (λ parts. bytes_eq (word parts 0) (codes "class")) c.1.words_are in
      let none : (d.rows == 0) ≡ true = eq_true d.rows 0 c.1.before_rows in
      refuted (is_class_due d (words line)) class (ap (λ b. b && (d.rows == 0)) head ∙ none))
  | inr r ↦ (let head = ap (λ parts. bytes_eq (word parts 0) (codes "row")) r.1.words_are in
      let room : nat_lt d.rows (length d.names) ≡ true = lt_true d.rows (length d.names) r.1.room in
      refuted (is_row_due d (words line)) row (ap (λ b. b && nat_lt d.rows (length d.names)) head ∙ room))
]

body_fault : (d : Content) (n : ℕ) (line : List ℕ) → d.due ≡ Body → IfErr (body_line d n line (words line)) (BreaksFirst d n line)
unfolding body_line
body_fault d n line due =
    let parts = words line in
    let P = λ (r : Result Content TableFault). IfErr r (BreaksFirst d n line) in
    by_choice P (is_class_due d parts) _ _
    (λ t. (let tests = both (bytes_eq (word parts 0) (codes "class")) (d.rows == 0) t in
    class_fault d n line due (same_text (word parts 0) (codes "class") tests.0) (eq_test d.rows 0 tests.1)))
    (λ f. by_choice P (is_row_due d parts) _ _
    (λ t. (let tests = both (bytes_eq (word parts 0) (codes "row")) (nat_lt d.rows (length d.names)) t in
    row_fault d n line due (same_text (word parts 0) (codes "row") tests.0) (lt_test d.rows (length d.names) tests.1)))
    (λ g. wrong_words (λ other. (cc)) (no_body d line due f g)))

no_border : (d : Content) (line : List ℕ) → d.due ≡ Border → has_border (words line) ≡ false → ¬ IsDue d line
no_border d line due f is = let b = only_border_due d line due is in refuted (has_border (words line)) f (ap has_border b.1)

due_fault : (due : Due) (d : Content) (n : ℕ) (line : List ℕ) → d.due ≡ due → IfErr (due_line due d n line (words line)) (BreaksFirst d n line)
unfolding due_line
due_fault Head d n line due = version_fault d n line due
due_fault Scale d n line due = scale_fault d n line due
due_fault Border d n line due = border_fault d n line (inr due) (λ other. (cc)) (no_border d line due)
due_fault Body d n line due = body_fault d n line due

-- The fault of a line that counts is that of the first rule that it breaks.
pub line_fault : (d : Content) (n : ℕ) (line : List ℕ) → is_counted line ≡ true → IfErr (line_says d n line) (BreaksFirst d n line)
unfolding line_says
line_fault d n line due = by_choice (λ (r : Result Content TableFault). IfErr r (BreaksFirst d n line)) (is_counted line) _ _ (λ t. due_fault d.due d n line refl) (λ f. absurd (refuted (is_counted line) f due))
