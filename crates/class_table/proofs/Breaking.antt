-- A line that breaks a rule first has the fault of that rule, and where lines end too early.
use Rattle.std.proofs.Common.{◌≡◌, ◌≢◌, ℕ, ◌+◌, ◌<◌, ◌≤◌, ◌^◌, nat_lt, nat_le, ◌==◌, ◌&&◌, Bool, true, false, cond, List, [], ◌∷◌, ◌++◌, length, drop, slice_index, codes, Option, Some, None, Result, Ok, Err, IfErr, inl, inr, ◌⊎◌, ap, refl, ◌∙◌, arith}
use Rattle.std.specs.Str.{bytes_eq}
use Rattle.std.proofs.lemmas.Bool.Decides.{nat_tests}
use Rattle.agg_base.specs.declared.limits.TheConstants.{CLASSES}
use Rattle.text_words.specs.Words.{words, word}
use Rattle.class_table.specs.Breaks.{SpellsNumber, SpellRow, IsUnitDue, IsBorderDue, IsClassDue, IsRowDue, IsDue, unit_due, border_due, class_due, row_due, BreaksFirst, wrong_version, wrong_words, wrong_factor, wrong_border, class_too_many, wrong_threshold, wrong_name, repeated_name, wrong_count, wrong_distance, far_from_itself, IsWhole, EndsEarly, no_version, no_last_row}
use Rattle.class_table.specs.Names.{IsName, is_name}
use Rattle.class_table.specs.Numbers.{number_in}
use Rattle.class_table.specs.Content.{Content, is_among}
use Rattle.class_table.specs.Words.{is_counted, name_in}
use Rattle.class_table.specs.Reading.{if_number, is_version, breaks, version_line, unit_line, border_line, scale_line, named_class, class_line, distances_in, row_line, body_line, due_line, line_says, is_whole, whole, whole_at}
use Rattle.class_table.specs.TableTexts.{IsVersionLine}
use Rattle.class_table.specs.declared.draft.Due.{Due}
use Rattle.class_table.specs.declared.draft.Due.TheVariants.{Head, Scale, Border, Body}
use Rattle.class_table.specs.declared.fault.Why.TheVariants.{Version, Word, Number, Name, Count, Diagonal, End}
use Rattle.class_table.specs.declared.fault.TableFault.{TableFault}
use Rattle.class_table.specs.declared.fault.TableFault.TheVariants.{RepeatedClass, Limit}
use Rattle.class_table.proofs.Digits.{number_in_is, number_is_in}
use Rattle.class_table.proofs.NameLemmas.{name_test, name_of_test}
use Rattle.class_table.proofs.Steps.{both, same_text, eq_test, lt_test, not_lt_test, le_test, eq_true, le_false, lt_true, lt_false, one_word, two_words, three_words, some_words, version_of_test, distances_ok, distances_back}
use Rattle.class_table.proofs.Faulty.{by_choice, refuted, has_border, is_class_due, is_row_due, some_word}

le_true : (a b : ℕ) → a ≤ b → nat_le a b ≡ true
le_true a b l = grind (arith, nat_tests)

eq_false : (a b : ℕ) → a ≢ b → (a == b) ≡ false
eq_false a b n = elim (a == b) as (λ t. (a == b) ≡ t → t ≡ false) [ true ↦ λ e. absurd (n (eq_test a b e)) | false ↦ λ e. refl ] refl

is_false : (b : Bool) → ¬ (b ≡ true) → b ≡ false
is_false true n = absurd (n refl)
is_false false n = refl

no_number : (least most : ℕ) (digits : List ℕ) → ¬ SpellsNumber least most digits → number_in least most digits ≡ None
no_number least most digits none = elim (number_in least most digits) as (λ o. number_in least most digits ≡ o → o ≡ None) [
  | None ↦ λ e. refl
  | Some n ↦ λ e. absurd (none (n, number_in_is least most digits n e))
] refl

no_row : (parts : List (List ℕ)) → ((row : List ℕ) → ¬ SpellRow parts row) → distances_in parts ≡ None
no_row parts none = elim (distances_in parts) as (λ o. distances_in parts ≡ o → o ≡ None) [
  | None ↦ λ e. refl
  | Some row ↦ λ e. absurd (none row (distances_ok parts row e))
] refl

-- a line that counts is read as what is due
says_due : (due : Due) (d : Content) (n : ℕ) (line : List ℕ) → is_counted line ≡ true → d.due ≡ due → line_says d n line ≡ due_line due d n line (words line)
unfolding line_says
says_due due d n line counted is = ap (λ b. cond b (due_line d.due d n line (words line)) (Ok d)) counted ∙ ap (λ k. due_line k d n line (words line)) is

-- the words of a line tell its kind

scale_unit : (d : Content) (n : ℕ) (line x y : List ℕ) → words line ≡ codes "unit" ∷ x ∷ y ∷ [] → scale_line d n (words line) ≡ unit_line d n (words line)
unfolding scale_line
scale_unit d n line x y are = ap (λ parts. cond (bytes_eq (word parts 0) (codes "unit")) (unit_line d n (words line)) (border_line d n (words line))) are

scale_border : (d : Content) (n : ℕ) (line digits : List ℕ) → words line ≡ codes "border" ∷ digits ∷ [] → scale_line d n (words line) ≡ border_line d n (words line)
unfolding scale_line
scale_border d n line digits are = ap (λ parts. cond (bytes_eq (word parts 0) (codes "unit")) (unit_line d n (words line)) (border_line d n (words line))) are

abbrev body_choice : Content → ℕ → List ℕ → List (List ℕ) → Bool → Bool → Result Content TableFault
body_choice d n line parts first second = cond (bytes_eq (word parts 0) (codes "class") && first) (class_line d n line (words line)) (cond (bytes_eq (word parts 0) (codes "row") && second) (row_line d n (words line)) (breaks n Word))

body_class : (d : Content) (n : ℕ) (line digits : List ℕ) → IsClassDue d line digits → body_line d n line (words line) ≡ class_line d n line (words line)
unfolding body_line
body_class d n line digits is =
    ap (λ parts. body_choice d n line parts (d.rows == 0) (nat_lt d.rows (length d.names))) is.words_are
    ∙ ap (λ first. body_choice d n line (codes "class" ∷ digits ∷ is.first ∷ is.more) first (nat_lt d.rows (length d.names))) (eq_true d.rows 0 is.before_rows)

body_row : (d : Content) (n : ℕ) (line : List ℕ) (parts : List (List ℕ)) → IsRowDue d line parts → body_line d n line (words line) ≡ row_line d n (words line)
unfolding body_line
body_row d n line parts is =
    ap (λ ps. body_choice d n line ps (d.rows == 0) (nat_lt d.rows (length d.names))) is.words_are
    ∙ ap (λ second. body_choice d n line (codes "row" ∷ parts) (d.rows == 0) second) (lt_true d.rows (length d.names) is.room)

-- the version

version_breaks : (d : Content) (n : ℕ) (line : List ℕ) → ¬ IsVersionLine line → version_line d n (words line) ≡ breaks n Version
unfolding version_line
version_breaks d n line none = ap (λ b. cond b (Ok (record d { due = Scale })) (breaks n Version)) (is_false (is_version (words line)) (λ t. none (version_of_test line t)))

-- a line that is not due

unit_words : (d : Content) (n : ℕ) (line : List ℕ) → d.due ≡ Scale → word (words line) 0 ≡ codes "unit" → ¬ IsDue d line → unit_line d n (words line) ≡ breaks n Word
unfolding unit_line
unit_words d n line due head none =
    let parts = words line in
    by_choice (λ r. r ≡ breaks n Word) (length parts == 3) _ _
    (λ t. absurd (none (unit_due (word parts 1) (word parts 2) (record { due = due; words_are = three_words parts (eq_test (length parts) 3 t) ∙ ap (λ w. w ∷ word parts 1 ∷ word parts 2 ∷ []) head }))))
    (λ f. refl)

border_words : (d : Content) (n : ℕ) (line : List ℕ) → (d.due ≡ Scale) ⊎ (d.due ≡ Border) → ¬ IsDue d line → border_line d n (words line) ≡ breaks n Word
unfolding border_line
border_words d n line due none =
    let parts = words line in
    by_choice (λ r. r ≡ breaks n Word) (has_border parts) _ _
    (λ t. (let tests = both (length parts == 2) (bytes_eq (word parts 0) (codes "border")) t in
    absurd (none (border_due (word parts 1) (record { due = due; words_are = two_words parts (eq_test (length parts) 2 tests.0) ∙ ap (λ w. w ∷ word parts 1 ∷ []) (same_text (word parts 0) (codes "border") tests.1) })))))
    (λ f. refl)

class_words : (d : Content) (n : ℕ) (line : List ℕ) → d.due ≡ Body → word (words line) 0 ≡ codes "class" → d.rows ≡ 0 → ¬ IsDue d line → class_line d n line (words line) ≡ breaks n Word
unfolding class_line
class_words d n line due head rows none =
    let parts = words line in
    by_choice (λ r. r ≡ breaks n Word) (nat_lt (length parts) 3) _ _
    (λ t. refl)
    (λ f. absurd (none (class_due (word parts 1) (record {
      due = due;
      before_rows = rows;
      first = word parts 2;
      more = drop 3 parts;
      words_are = some_words parts (not_lt_test (length parts) 3 f) ∙ ap (λ w. w ∷ word parts 1 ∷ word parts 2 ∷ drop 3 parts) head;
    }))))

scale_words : (d : Content) (n : ℕ) (line : List ℕ) → d.due ≡ Scale → ¬ IsDue d line → scale_line d n (words line) ≡ breaks n Word
unfolding scale_line
scale_words d n line due none = by_choice (λ r. r ≡ breaks n Word) (bytes_eq (word (words line) 0) (codes "unit")) _ _
    (λ t. unit_words d n line due (same_text (word (words line) 0) (codes "unit") t) none)
    (λ f. border_words d n line (inl due) none)

body_words : (d : Content) (n : ℕ) (line : List ℕ) → d.due ≡ Body → ¬ IsDue d line → body_line d n line (words line) ≡ breaks n Word
unfolding body_line
body_words d n line due none =
    let parts = words line in
    by_choice (λ r. r ≡ breaks n Word) (is_class_due d parts) _ _
    (λ t. (let tests = both (bytes_eq (word parts 0) (codes "class")) (d.rows == 0) t in
    class_words d n line due (same_text (word parts 0) (codes "class") tests.0) (eq_test d.rows 0 tests.1) none))
    (λ f. by_choice (λ r. r ≡ breaks n Word) (is_row_due d parts) _ _
    (λ t. (let tests = both (bytes_eq (word parts 0) (codes "row")) (nat_lt d.rows (length d.names)) t in
    let head = same_text (word parts 0) (codes "row") tests.0 in
    absurd (none (row_due (drop 1 parts) (record {
      due = due;
      room = lt_test d.rows (length d.names) tests.1;
      words_are = one_word parts (codes "row") (some_word parts 114 (111 ∷ 119 ∷ []) head) head;
    })))))
    (λ g. refl))

due_words : (due : Due) (d : Content) (n : ℕ) (line : List ℕ) → d.due ≡ due → d.due ≢ Head → ¬ IsDue d line → due_line due d n line (words line) ≡ breaks n Word
unfolding due_line
due_words Head d n line due late none = absurd (late due)
due_words Scale d n line due late none = scale_words d n line due none
due_words Border d n line due late none = border_words d n line (inr due) none
due_words Body d n line due late none = body_words d n line due none

-- the unit and the border

unit_breaks : (d : Content) (n : ℕ) (line x y : List ℕ) → words line ≡ codes "unit" ∷ x ∷ y ∷ [] → ¬ (SpellsNumber 1 100 x × SpellsNumber 1 100 y) → unit_line d n (words line) ≡ breaks n Number
unfolding unit_line
unit_breaks d n line x y are none =
    rw are (elim (number_in 1 100 x) as (λ o. number_in 1 100 x ≡ o → if_number n o (λ wide. if_number n (number_in 1 100 y) (λ high. Ok (record d { due = Border; wide = wide; high = high }))) ≡ breaks n Number) [
      | None ↦ λ e. refl
      | Some wide ↦ λ e. ap (λ o. if_number n o (λ high. Ok (record d { due = Border; wide = wide; high = high }))) (no_number 1 100 y (λ high. none ((wide, number_in_is 1 100 x wide e), high)))
    ] refl)

border_breaks : (d : Content) (n : ℕ) (line digits : List ℕ) → words line ≡ codes "border" ∷ digits ∷ [] → ¬ SpellsNumber 0 10000 digits → border_line d n (words line) ≡ breaks n Number
unfolding border_line
border_breaks d n line digits are none = rw (are, no_number 0 10000 digits none) refl

border_due_says : (d : Content) (n : ℕ) (line digits : List ℕ) → is_counted line ≡ true → IsBorderDue d line digits → line_says d n line ≡ border_line d n (words line)
unfolding due_line
border_due_says d n line digits counted is = elim is.due [
  | inl scale ↦ says_due Scale d n line counted scale ∙ scale_border d n line digits is.words_are
  | inr border ↦ says_due Border d n line counted border
]

unit_due_says : (d : Content) (n : ℕ) (line x y : List ℕ) → is_counted line ≡ true → IsUnitDue d line x y → line_says d n line ≡ unit_line d n (words line)
unfolding due_line
unit_due_says d n line x y counted is = says_due Scale d n line counted is.due ∙ scale_unit d n line x y is.words_are

-- a class

class_due_says : (d : Content) (n : ℕ) (line digits : List ℕ) → is_counted line ≡ true → IsClassDue d line digits → line_says d n line ≡ class_line d n line (words line)
unfolding due_line
class_due_says d n line digits counted is = says_due Body d n line counted is.due ∙ body_class d n line digits is

abbrev class_rules : Content → ℕ → List ℕ → Bool → Bool → Option ℕ → Result Content TableFault
class_rules d n line short full o = cond short (breaks n Word) (cond full (Err (Limit n)) (if_number n o (λ threshold. named_class d n threshold (name_in line))))

class_says : (d : Content) (n : ℕ) (line digits : List ℕ) → IsClassDue d line digits → class_line d n line (words line) ≡ class_rules d n line false (nat_le CLASSES (length d.names)) (number_in 0 (10 ^ 30) digits)
unfolding class_line
class_says d n line digits is =
    let long : 3 ≤ length (words line) = (let m = ap length is.words_are in omega arith) in
    ap (λ short. class_rules d n line short (nat_le CLASSES (length d.names)) (number_in 0 (10 ^ 30) (word (words line) 1))) (lt_false (length (words line)) 3 long)
    ∙ ap (λ parts. class_rules d n line false (nat_le CLASSES (length d.names)) (number_in 0 (10 ^ 30) (word parts 1))) is.words_are

class_limit : (d : Content) (n : ℕ) (line digits : List ℕ) → IsClassDue d line digits → CLASSES ≤ length d.names → class_line d n line (words line) ≡ Err (Limit n)
class_limit d n line digits is full = class_says d n line digits is ∙ ap (λ b. class_rules d n line false b (number_in 0 (10 ^ 30) digits)) (le_true CLASSES (length d.names) full)

class_room : (d : Content) (n : ℕ) (line digits : List ℕ) (o : Option ℕ) → IsClassDue d line digits → length d.names < CLASSES → number_in 0 (10 ^ 30) digits ≡ o → class_line d n line (words line) ≡ class_rules d n line false false o
class_room d n line digits o is room e = class_says d n line digits is ∙ ap (λ b. class_rules d n line false b (number_in 0 (10 ^ 30) digits)) (le_false CLASSES (length d.names) room) ∙ ap (λ r. class_rules d n line false false r) e

name_breaks : (d : Content) (n threshold : ℕ) (name : List ℕ) → ¬ IsName name → named_class d n threshold name ≡ breaks n Name
unfolding named_class
name_breaks d n threshold name none = rw (is_false (is_name name) (λ t. none (name_of_test name t))) refl

name_repeats : (d : Content) (n threshold : ℕ) (name : List ℕ) → IsName name → is_among d.names name ≡ true → named_class d n threshold name ≡ Err (RepeatedClass n)
unfolding named_class
name_repeats d n threshold name named among = rw (name_test name named, among) refl

-- a row

row_due_says : (d : Content) (n : ℕ) (line : List ℕ) (parts : List (List ℕ)) → is_counted line ≡ true → IsRowDue d line parts → line_says d n line ≡ row_line d n (words line)
unfolding due_line
row_due_says d n line parts counted is = says_due Body d n line counted is.due ∙ body_row d n line parts is

abbrev row_rules : Content → ℕ → Bool → Option (List ℕ) → Result Content TableFault
row_rules d n count o = cond count (if_number n o (λ row. cond (slice_index row d.rows == 0) (Ok (record d { rows = d.rows + 1; distance = d.distance ++ row })) (breaks n Diagonal))) (breaks n Count)

row_says : (d : Content) (n : ℕ) (line : List ℕ) (parts : List (List ℕ)) → IsRowDue d line parts → row_line d n (words line) ≡ row_rules d n (length (codes "row" ∷ parts) == length d.names + 1) (distances_in parts)
unfolding row_line
row_says d n line parts is = ap (λ ps. row_rules d n (length ps == length d.names + 1) (distances_in (drop 1 ps))) is.words_are

row_count : (d : Content) (n : ℕ) (line : List ℕ) (parts : List (List ℕ)) → IsRowDue d line parts → length parts ≢ length d.names → row_line d n (words line) ≡ breaks n Count
row_count d n line parts is other = row_says d n line parts is
    ∙ ap (λ b. row_rules d n b (distances_in parts)) (eq_false (length (codes "row" ∷ parts)) (length d.names + 1) (λ same. other (omega arith)))

row_counted : (d : Content) (n : ℕ) (line : List ℕ) (parts : List (List ℕ)) (o : Option (List ℕ)) → IsRowDue d line parts → length parts ≡ length d.names → distances_in parts ≡ o → row_line d n (words line) ≡ row_rules d n true o
row_counted d n line parts o is count e = row_says d n line parts is
    ∙ ap (λ b. row_rules d n b (distances_in parts)) (eq_true (length (codes "row" ∷ parts)) (length d.names + 1) (omega arith)) ∙ ap (λ r. row_rules d n true r) e

row_diagonal : (d : Content) (n : ℕ) (row : List ℕ) → slice_index row d.rows ≢ 0 → row_rules d n true (Some row) ≡ breaks n Diagonal
row_diagonal d n row far = ap (λ b. cond b (Ok (record d { rows = d.rows + 1; distance = d.distance ++ row })) (breaks n Diagonal)) (eq_false (slice_index row d.rows) 0 far)

-- A line that counts has the fault of the first rule that it breaks.
pub breaks_says : (d : Content) (n : ℕ) (line : List ℕ) (f : TableFault) → is_counted line ≡ true → BreaksFirst d n line f → line_says d n line ≡ Err f
unfolding due_line
breaks_says d n line f counted is = elim is as (λ g _. line_says d n line ≡ Err g) [
  | wrong_version due none ↦ says_due Head d n line counted due ∙ version_breaks d n line none
  | wrong_words late none ↦ says_due d.due d n line counted refl ∙ due_words d.due d n line refl late none
  | wrong_factor x y is none ↦ unit_due_says d n line x y counted is ∙ unit_breaks d n line x y is.words_are none
  | wrong_border digits is none ↦ border_due_says d n line digits counted is ∙ border_breaks d n line digits is.words_are none
  | class_too_many digits is full ↦ class_due_says d n line digits counted is ∙ class_limit d n line digits is full
  | wrong_threshold digits is room none ↦ class_due_says d n line digits counted is ∙ class_room d n line digits None is room (no_number 0 (10 ^ 30) digits none)
  | wrong_name digits is room number none ↦ class_due_says d n line digits counted is ∙ class_room d n line digits (Some number.0) is room (number_is_in 0 (10 ^ 30) digits number.0 number.1)
      ∙ name_breaks d n number.0 (name_in line) none
  | repeated_name digits is room number named among ↦ class_due_says d n line digits counted is ∙ class_room d n line digits (Some number.0) is room (number_is_in 0 (10 ^ 30) digits number.0 number.1)
      ∙ name_repeats d n number.0 (name_in line) named among
  | wrong_count parts is other ↦ row_due_says d n line parts counted is ∙ row_count d n line parts is other
  | wrong_distance parts is count none ↦ row_due_says d n line parts counted is ∙ row_counted d n line parts None is count (no_row parts none)
  | far_from_itself parts row is count spelled far ↦ row_due_says d n line parts counted is ∙ row_counted d n line parts (Some row) is count (distances_back parts row spelled) ∙ row_diagonal d n row far
]

-- lines that end too early

whole_of_test : (d : Content) → d.due ≡ Body → is_whole d ≡ true → IsWhole d
whole_of_test d due t = let tests = both (nat_le 1 (length d.names)) (d.rows == length d.names) t in record { due = due; some = le_test 1 (length d.names) tests.0; rows = eq_test d.rows (length d.names) tests.1 }

whole_holds : (d : Content) → IsWhole d → is_whole d ≡ true
whole_holds d is = rw (le_true 1 (length d.names) is.some, eq_true d.rows (length d.names) is.rows) refl

early_at : (due : Due) (d : Content) (last : ℕ) → d.due ≡ due → IfErr (whole_at due d last) (EndsEarly d last)
early_at Head d last due = no_version due
early_at Scale d last due = no_last_row (λ other. (cc)) (λ is. (let other = is.due in cc))
early_at Border d last due = no_last_row (λ other. (cc)) (λ is. (let other = is.due in cc))
early_at Body d last due = by_choice (λ r. IfErr r (EndsEarly d last)) (is_whole d) _ _ (λ t. tt) (λ f. no_last_row (λ other. (cc)) (λ is. refuted (is_whole d) f (whole_holds d is)))

-- the fault of lines that are no whole table
pub whole_fault : (d : Content) (last : ℕ) → IfErr (whole d last) (EndsEarly d last)
unfolding whole
whole_fault d last = early_at d.due d last refl

late_says : (due : Due) (d : Content) (last : ℕ) → d.due ≡ due → d.due ≢ Head → ¬ IsWhole d → whole_at due d last ≡ breaks (last + 1) End
late_says Head d last due late none = absurd (late due)
late_says Scale d last due late none = refl
late_says Border d last due late none = refl
late_says Body d last due late none = by_choice (λ r. r ≡ breaks (last + 1) End) (is_whole d) _ _ (λ t. absurd (none (whole_of_test d due t))) (λ f. refl)

-- lines that end too early have that fault
pub early_says : (d : Content) (last : ℕ) (f : TableFault) → EndsEarly d last f → whole d last ≡ Err f
unfolding whole
early_says d last f is = elim is as (λ g _. whole_at d.due d last ≡ Err g) [
  | no_version due ↦ ap (λ k. whole_at k d last) due
  | no_last_row late none ↦ late_says d.due d last refl late none
]
