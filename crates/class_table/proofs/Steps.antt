-- What a line says follows the rules of its kind, and the other way round.
use Rattle.std.proofs.Common.{◌≡◌, ℕ, ◌+◌, ◌<◌, ◌≤◌, ◌^◌, nat_lt, nat_le, ◌==◌, ◌&&◌, Bool, true, false, not, cond, pos, List, [], ◌∷◌, ◌++◌, length, drop, slice_index, suc, codes, Option, Some, None, Result, Ok, Err, inl, inr, ◌⊎◌, sym, ap, refl, ◌∙◌, subst, arith}
use Rattle.std.specs.List.{AllZip}
use Rattle.std.specs.Str.{bytes_eq}
use Rattle.std.proofs.lemmas.Bool.Decides.{nat_tests, Decides-eqb}
use Rattle.std.proofs.lemmas.Slice.Eq.{bytes_eq-Decides}
use Rattle.class_table.specs.Names.{IsName, is_name}
use Rattle.class_table.specs.Numbers.{IsNumber, number_in}
use Rattle.text_words.specs.Words.{words, word}
use Rattle.class_table.specs.Words.{is_counted, name_in}
use Rattle.class_table.specs.Content.{Content, is_among}
use Rattle.class_table.specs.Reading.{is_version, if_number, breaks, version_line, unit_line, border_line, scale_line, named_class, class_line, distances_in, push_front, row_line, body_line, due_line, line_says}
use Rattle.class_table.specs.TableTexts.{IsVersionLine}
use Rattle.class_table.specs.Steps.{AddsUnit, AddsBorder, AddsClass, AddsRow, AddsDue, Adds}
use Rattle.class_table.specs.declared.draft.Due.{Due}
use Rattle.class_table.specs.declared.draft.Due.TheVariants.{Head, Scale, Border, Body}
use Rattle.class_table.specs.declared.fault.Why.TheVariants.{Word, Number}
use Rattle.class_table.specs.declared.fault.TableFault.{TableFault}
use Rattle.class_table.specs.declared.fault.TableFault.TheVariants.{Line}
use Rattle.class_table.proofs.Digits.{number_in_is, number_is_in}
use Rattle.class_table.proofs.NameLemmas.{name_test, name_of_test}

-- tests

pub both : (a b : Bool) → (a && b) ≡ true → (a ≡ true) × (b ≡ true)
both true true e = (refl, refl)
both true false e = (cc, cc)
both false b e = (cc, cc)

-- a choice that came out right
pub taken : {X : Type 0} (b : Bool) (r : Result X TableFault) (fault : TableFault) (y : X) → cond b r (Err fault) ≡ Ok y → (b ≡ true) × (r ≡ Ok y)
taken true r fault y e = (refl, e)
taken false r fault y e = (cc, cc)

pub not_taken : {X : Type 0} (b : Bool) (r : Result X TableFault) (fault : TableFault) (y : X) → cond b (Err fault) r ≡ Ok y → (b ≡ false) × (r ≡ Ok y)
not_taken true r fault y e = (cc, cc)
not_taken false r fault y e = (refl, e)

pub numbered : {X Y : Type 0} (n : ℕ) (o : Option X) (more : X → Result Y TableFault) (y : Y) → if_number n o more ≡ Ok y → (x : X) × (o ≡ Some x) × (more x ≡ Ok y)
numbered n None more y e = absurd (let never : Err (Line n Number) ≡ Ok y = e in cc)
numbered n (Some x) more y e = (x, refl, e)

pub same_text : (a b : List ℕ) → bytes_eq a b ≡ true → a ≡ b
same_text a b e = (bytes_eq-Decides a b).0 e

pub eq_test : (a b : ℕ) → (a == b) ≡ true → a ≡ b
eq_test a b e = (Decides-eqb a b).0 e

pub lt_test : (a b : ℕ) → nat_lt a b ≡ true → a < b
lt_test a b e = grind (arith, nat_tests)

pub not_lt_test : (a b : ℕ) → nat_lt a b ≡ false → b ≤ a
not_lt_test a b e = grind (arith, nat_tests)

pub le_test : (a b : ℕ) → nat_le a b ≡ true → a ≤ b
le_test a b e = grind (arith, nat_tests)

pub not_le_test : (a b : ℕ) → nat_le a b ≡ false → b < a
not_le_test a b e = grind (arith, nat_tests)

-- words

pub one_word : (parts : List (List ℕ)) (a : List ℕ) → 1 ≤ length parts → word parts 0 ≡ a → parts ≡ a ∷ drop 1 parts
one_word [] a some e = absurd (omega arith)
one_word (x ∷ parts) a some e = ap (λ w. w ∷ parts) e

pub two_words : (parts : List (List ℕ)) → length parts ≡ 2 → parts ≡ word parts 0 ∷ word parts 1 ∷ []
two_words [] e = absurd (omega arith)
two_words (x ∷ []) e = absurd (omega arith)
two_words (x ∷ y ∷ []) e = refl
two_words (x ∷ y ∷ z ∷ parts) e = absurd (omega arith)

pub three_words : (parts : List (List ℕ)) → length parts ≡ 3 → parts ≡ word parts 0 ∷ word parts 1 ∷ word parts 2 ∷ []
three_words [] e = absurd (omega arith)
three_words (x ∷ []) e = absurd (omega arith)
three_words (x ∷ y ∷ []) e = absurd (omega arith)
three_words (x ∷ y ∷ z ∷ []) e = refl
three_words (x ∷ y ∷ z ∷ w ∷ parts) e = absurd (omega arith)

pub some_words : (parts : List (List ℕ)) → 3 ≤ length parts → parts ≡ word parts 0 ∷ word parts 1 ∷ word parts 2 ∷ drop 3 parts
some_words [] e = absurd (omega arith)
some_words (x ∷ []) e = absurd (omega arith)
some_words (x ∷ y ∷ []) e = absurd (omega arith)
some_words (x ∷ y ∷ z ∷ parts) e = refl

-- the version

pub version_of_test : (line : List ℕ) → is_version (words line) ≡ true → IsVersionLine line
version_of_test line is =
    let parts = words line in
    let tests = both ((length parts == 2) && bytes_eq (word parts 0) (codes "classes")) (bytes_eq (word parts 1) (codes "1")) is in
    let first = both (length parts == 2) (bytes_eq (word parts 0) (codes "classes")) tests.0 in
    let a = same_text (word parts 0) (codes "classes") first.1 in
    let b = same_text (word parts 1) (codes "1") tests.1 in
    two_words parts (eq_test (length parts) 2 first.0) ∙ ap (λ w. w ∷ word parts 1 ∷ []) a ∙ ap (λ w. codes "classes" ∷ w ∷ []) b

version_ok : (d : Content) (n : ℕ) (line : List ℕ) (e : Content) → version_line d n (words line) ≡ Ok e → IsVersionLine line × (e ≡ record d { due = Scale })
unfolding version_line
version_ok d n line e is =
    let choice = taken (is_version (words line)) (Ok (record d { due = Scale })) _ e is in
    (version_of_test line choice.0, let same = choice.1 in cc)

version_back : (d : Content) (n : ℕ) (line : List ℕ) (e : Content) → IsVersionLine line → e ≡ record d { due = Scale } → version_line d n (words line) ≡ Ok e
unfolding version_line
version_back d n line e is then_is = rw is (ap (λ x. Ok x) (sym then_is))

-- the unit

unit_ok : (d : Content) (n : ℕ) (line : List ℕ) (e : Content) → word (words line) 0 ≡ codes "unit" → unit_line d n (words line) ≡ Ok e → AddsUnit d line e
unfolding unit_line
unit_ok d n line e head is =
    let parts = words line in
    let choice = taken (length parts == 3) _ _ e is in
    let wide = numbered n (number_in 1 100 (word parts 1)) _ e choice.1 in
    let high = numbered n (number_in 1 100 (word parts 2)) _ e wide.2 in
    record {
      wide = wide.0;
      high = high.0;
      line_is = record {
        x = word parts 1;
        y = word parts 2;
        words_are = three_words parts (eq_test (length parts) 3 choice.0) ∙ ap (λ w. w ∷ word parts 1 ∷ word parts 2 ∷ []) head;
        x_is = number_in_is 1 100 (word parts 1) wide.0 wide.1;
        y_is = number_in_is 1 100 (word parts 2) high.0 high.1;
      };
      then_is = let same = high.2 in cc;
    }

unit_back : (d : Content) (n : ℕ) (line : List ℕ) (e : Content) → AddsUnit d line e → unit_line d n (words line) ≡ Ok e
unfolding unit_line
unit_back d n line e is =
    let l = is.line_is in
    rw (l.words_are, number_is_in 1 100 l.x is.wide l.x_is, number_is_in 1 100 l.y is.high l.y_is) (ap (λ x. Ok x) (sym is.then_is))

-- the border

border_ok : (d : Content) (n : ℕ) (line : List ℕ) (e : Content) → border_line d n (words line) ≡ Ok e → AddsBorder d line e
unfolding border_line
border_ok d n line e is =
    let parts = words line in
    let choice = taken ((length parts == 2) && bytes_eq (word parts 0) (codes "border")) _ _ e is in
    let tests = both (length parts == 2) (bytes_eq (word parts 0) (codes "border")) choice.0 in
    let number = numbered n (number_in 0 10000 (word parts 1)) _ e choice.1 in
    record {
      border = number.0;
      line_is = record {
        digits = word parts 1;
        words_are = two_words parts (eq_test (length parts) 2 tests.0) ∙ ap (λ w. w ∷ word parts 1 ∷ []) (same_text (word parts 0) (codes "border") tests.1);
        number = number_in_is 0 10000 (word parts 1) number.0 number.1;
      };
      then_is = let same = number.2 in cc;
    }

border_back : (d : Content) (n : ℕ) (line : List ℕ) (e : Content) → AddsBorder d line e → border_line d n (words line) ≡ Ok e
unfolding border_line
border_back d n line e is =
    let l = is.line_is in
    rw (l.words_are, number_is_in 0 10000 l.digits is.border l.number) (ap (λ x. Ok x) (sym is.then_is))

-- a class

named_ok : (d : Content) (n least : ℕ) (name : List ℕ) (e : Content) → named_class d n least name ≡ Ok e
    → (is_name name ≡ true) × (is_among d.names name ≡ false) × (e ≡ record d { names = d.names ++ name ∷ []; threshold = d.threshold ++ pos least ∷ [] })
unfolding named_class
named_ok d n least name e is =
    let first = not_taken (not (is_name name)) _ _ e is in
    let next = not_taken (is_among d.names name) _ _ e first.1 in
    (elim (is_name name) as (λ b. not b ≡ false → b ≡ true) [ true ↦ λ f. refl | false ↦ λ f. (cc) ] first.0, next.0, let same = next.1 in cc)

class_ok : (d : Content) (n : ℕ) (line : List ℕ) (e : Content) → word (words line) 0 ≡ codes "class" → d.rows ≡ 0 → class_line d n line (words line) ≡ Ok e → AddsClass d line e
unfolding class_line
class_ok d n line e head rows is =
    let parts = words line in
    let enough = not_taken (nat_lt (length parts) 3) _ _ e is in
    let room = not_taken (nat_le 64 (length d.names)) _ _ e enough.1 in
    let number = numbered n (number_in 0 (10 ^ 30) (word parts 1)) _ e room.1 in
    let named = named_ok d n number.0 (name_in line) e number.2 in
    record {
      threshold = pos number.0;
      name = name_in line;
      line_is = record {
        digits = word parts 1;
        first = word parts 2;
        more = drop 3 parts;
        least = number.0;
        words_are = some_words parts (not_lt_test (length parts) 3 enough.0) ∙ ap (λ w. w ∷ word parts 1 ∷ word parts 2 ∷ drop 3 parts) head;
        number = number_in_is 0 (10 ^ 30) (word parts 1) number.0 number.1;
        threshold_is = refl;
        name_is = refl;
        named = name_of_test (name_in line) named.0;
      };
      before_rows = rows;
      room = not_le_test 64 (length d.names) room.0;
      new = named.1;
      then_is = named.2;
    }

pub le_false : (a b : ℕ) → b < a → nat_le a b ≡ false
le_false a b l = grind (arith, nat_tests)

pub lt_true : (a b : ℕ) → a < b → nat_lt a b ≡ true
lt_true a b l = grind (arith, nat_tests)

pub lt_false : (a b : ℕ) → b ≤ a → nat_lt a b ≡ false
lt_false a b l = grind (arith, nat_tests)

pub eq_true : (a b : ℕ) → a ≡ b → (a == b) ≡ true
eq_true a b e = (Decides-eqb a b).1 e

named_back : (d : Content) (n least : ℕ) (name : List ℕ) (e : Content) → is_name name ≡ true → is_among d.names name ≡ false
    → e ≡ record d { names = d.names ++ name ∷ []; threshold = d.threshold ++ pos least ∷ [] } → named_class d n least name ≡ Ok e
unfolding named_class
named_back d n least name e named new is = rw (named, new) (ap (λ x. Ok x) (sym is))

class_back : (d : Content) (n : ℕ) (line : List ℕ) (e : Content) → AddsClass d line e → class_line d n line (words line) ≡ Ok e
unfolding class_line
class_back d n line e is =
    let l = is.line_is in
    let long : 3 ≤ length (words line) = (let m = ap length l.words_are in omega arith) in
    let then_is : e ≡ record d { names = d.names ++ name_in line ∷ []; threshold = d.threshold ++ pos l.least ∷ [] } = rw (← l.name_is, ← l.threshold_is) is.then_is in
    rw (lt_false (length (words line)) 3 long, le_false 64 (length d.names) is.room, l.words_are, number_is_in 0 (10 ^ 30) l.digits l.least l.number)
    (named_back d n l.least (name_in line) e (name_test (name_in line) (subst IsName l.name_is l.named)) (subst (λ w. is_among d.names w ≡ false) l.name_is is.new) then_is)

-- a row

pushed_ok : (o : Option ℕ) (r : Option (List ℕ)) (row : List ℕ) → push_front o r ≡ Some row → (n : ℕ) × (more : List ℕ) × (o ≡ Some n) × (r ≡ Some more) × (row ≡ n ∷ more)
pushed_ok None r row e = absurd (let never : None ≡ Some row = e in cc)
pushed_ok (Some n) None row e = absurd (let never : None ≡ Some row = e in cc)
pushed_ok (Some n) (Some more) row e = (n, more, refl, refl, let same : Some (n ∷ more) ≡ Some row = e in cc)

pub distances_ok : (parts : List (List ℕ)) (row : List ℕ) → distances_in parts ≡ Some row → AllZip (IsNumber 0 10000) parts row
distances_ok [] [] e = tt
distances_ok [] (d ∷ row) e = absurd (let never : Some [] ≡ Some (d ∷ row) = e in cc)
distances_ok (part ∷ parts) row e =
    let p = pushed_ok (number_in 0 10000 part) (distances_in parts) row e in
    subst (AllZip (IsNumber 0 10000) (part ∷ parts)) (sym p.4) (number_in_is 0 10000 part p.0 p.2, distances_ok parts p.1 p.3)

pub distances_back : (parts : List (List ℕ)) (row : List ℕ) → AllZip (IsNumber 0 10000) parts row → distances_in parts ≡ Some row
distances_back [] [] all = refl
distances_back [] (d ∷ row) all = absurd all
distances_back (part ∷ parts) [] all = absurd all
distances_back (part ∷ parts) (d ∷ row) all = rw (number_is_in 0 10000 part d all.0, distances_back parts row all.1) refl

pub zip_length : {A B : Type 0} (R : A → B → Type 0) (xs : List A) (ys : List B) → AllZip R xs ys → length xs ≡ length ys
zip_length R [] [] all = refl
zip_length R [] (y ∷ ys) all = absurd all
zip_length R (x ∷ xs) [] all = absurd all
zip_length R (x ∷ xs) (y ∷ ys) all = ap suc (zip_length R xs ys all.1)

row_ok : (d : Content) (n : ℕ) (line : List ℕ) (e : Content) → word (words line) 0 ≡ codes "row" → d.rows < length d.names → row_line d n (words line) ≡ Ok e → AddsRow d line e
unfolding row_line
row_ok d n line e head room is =
    let parts = words line in
    let count = taken (length parts == length d.names + 1) _ _ e is in
    let many : length parts ≡ length d.names + 1 = eq_test (length parts) (length d.names + 1) count.0 in
    let row = numbered n (distances_in (drop 1 parts)) _ e count.1 in
    let home = taken (slice_index row.0 d.rows == 0) _ _ e row.2 in
    let whole : parts ≡ codes "row" ∷ drop 1 parts = one_word parts (codes "row") (omega arith) head in
    let numbers = distances_ok (drop 1 parts) row.0 row.1 in
    record {
      row = row.0;
      line_is = record { parts = drop 1 parts; words_are = whole; numbers = numbers };
      room = room;
      count = (let a = zip_length (IsNumber 0 10000) (drop 1 parts) row.0 numbers in let b = ap length whole in omega arith);
      diagonal = eq_test (slice_index row.0 d.rows) 0 home.0;
      then_is = let same = home.1 in cc;
    }

row_back : (d : Content) (n : ℕ) (line : List ℕ) (e : Content) → AddsRow d line e → row_line d n (words line) ≡ Ok e
unfolding row_line
row_back d n line e is =
    let l = is.line_is in
    let long : length l.parts ≡ length is.row = zip_length (IsNumber 0 10000) l.parts is.row l.numbers in
    let count = is.count in
    let many : length (codes "row" ∷ l.parts) ≡ length d.names + 1 = omega arith in
    rw (l.words_are, eq_true (length (codes "row" ∷ l.parts)) (length d.names + 1) many, distances_back l.parts is.row l.numbers, eq_true (slice_index is.row d.rows) 0 is.diagonal) (ap (λ x. Ok x) (sym is.then_is))

-- any line

scale_ok : (d : Content) (n : ℕ) (line : List ℕ) (e : Content) → scale_line d n (words line) ≡ Ok e → AddsUnit d line e ⊎ AddsBorder d line e
unfolding scale_line
scale_ok d n line e is =
    elim (bytes_eq (word (words line) 0) (codes "unit")) as (λ b. bytes_eq (word (words line) 0) (codes "unit") ≡ b → cond b (unit_line d n (words line)) (border_line d n (words line)) ≡ Ok e → AddsUnit d line e ⊎ AddsBorder d line e) [
      | true ↦ λ t is. inl (unit_ok d n line e (same_text (word (words line) 0) (codes "unit") t) is)
      | false ↦ λ t is. inr (border_ok d n line e is)
    ] refl is

scale_back : (d : Content) (n : ℕ) (line : List ℕ) (e : Content) → AddsUnit d line e ⊎ AddsBorder d line e → scale_line d n (words line) ≡ Ok e
unfolding scale_line
scale_back d n line e is = elim is as (λ _. cond (bytes_eq (word (words line) 0) (codes "unit")) (unit_line d n (words line)) (border_line d n (words line)) ≡ Ok e) [
  | inl unit ↦ ap (λ parts. cond (bytes_eq (word parts 0) (codes "unit")) (unit_line d n (words line)) (border_line d n (words line))) unit.line_is.words_are ∙ unit_back d n line e unit
  | inr border ↦ ap (λ parts. cond (bytes_eq (word parts 0) (codes "unit")) (unit_line d n (words line)) (border_line d n (words line))) border.line_is.words_are ∙ border_back d n line e border
]

body_ok : (d : Content) (n : ℕ) (line : List ℕ) (e : Content) → body_line d n line (words line) ≡ Ok e → AddsClass d line e ⊎ AddsRow d line e
unfolding body_line
body_ok d n line e is =
    let parts = words line in
    elim (bytes_eq (word parts 0) (codes "class") && (d.rows == 0)) as (λ b. (bytes_eq (word parts 0) (codes "class") && (d.rows == 0)) ≡ b → cond b (class_line d n line parts)
    (cond (bytes_eq (word parts 0) (codes "row") && nat_lt d.rows (length d.names)) (row_line d n parts) (breaks n Word)) ≡ Ok e → AddsClass d line e ⊎ AddsRow d line e) [
      | true ↦ λ t is. (let tests = both (bytes_eq (word parts 0) (codes "class")) (d.rows == 0) t in
          inl (class_ok d n line e (same_text (word parts 0) (codes "class") tests.0) (eq_test d.rows 0 tests.1) is))
      | false ↦ λ t is. (let choice = taken (bytes_eq (word parts 0) (codes "row") && nat_lt d.rows (length d.names)) _ _ e is in
          let tests = both (bytes_eq (word parts 0) (codes "row")) (nat_lt d.rows (length d.names)) choice.0 in
          inr (row_ok d n line e (same_text (word parts 0) (codes "row") tests.0) (lt_test d.rows (length d.names) tests.1) choice.1))
    ] refl is

body_back : (d : Content) (n : ℕ) (line : List ℕ) (e : Content) → AddsClass d line e ⊎ AddsRow d line e → body_line d n line (words line) ≡ Ok e
unfolding body_line
body_back d n line e is =
    let choice = λ (parts : List (List ℕ)) (first : Bool) (second : Bool). cond (bytes_eq (word parts 0) (codes "class") && first) (class_line d n line (words line)) (cond (bytes_eq (word parts 0) (codes "row") && second) (row_line d n (words line)) (breaks n Word)) in
    elim is as (λ _. choice (words line) (d.rows == 0) (nat_lt d.rows (length d.names)) ≡ Ok e) [
      | inl class ↦ ap (λ parts. choice parts (d.rows == 0) (nat_lt d.rows (length d.names))) class.line_is.words_are ∙ ap (λ first. choice (codes "class" ∷ class.line_is.digits ∷ class.line_is.first ∷ class.line_is.more) first (nat_lt d.rows (length d.names))) (eq_true d.rows 0 class.before_rows) ∙ class_back d n line e class
      | inr row ↦ ap (λ parts. choice parts (d.rows == 0) (nat_lt d.rows (length d.names))) row.line_is.words_are ∙ ap (λ second. choice (codes "row" ∷ row.line_is.parts) (d.rows == 0) second) (lt_true d.rows (length d.names) row.room) ∙ row_back d n line e row
    ]

due_ok : (due : Due) (d : Content) (n : ℕ) (line : List ℕ) (e : Content) → due_line due d n line (words line) ≡ Ok e → AddsDue due d line e
unfolding due_line
due_ok Head d n line e is = version_ok d n line e is
due_ok Scale d n line e is = scale_ok d n line e is
due_ok Border d n line e is = border_ok d n line e is
due_ok Body d n line e is = body_ok d n line e is

due_back : (due : Due) (d : Content) (n : ℕ) (line : List ℕ) (e : Content) → AddsDue due d line e → due_line due d n line (words line) ≡ Ok e
unfolding due_line
due_back Head d n line e is = version_back d n line e is.0 is.1
due_back Scale d n line e is = scale_back d n line e is
due_back Border d n line e is = border_back d n line e is
due_back Body d n line e is = body_back d n line e is

-- a line that counts
pub line_ok : (d : Content) (n : ℕ) (line : List ℕ) (e : Content) → is_counted line ≡ true → line_says d n line ≡ Ok e → Adds d line e
unfolding line_says
line_ok d n line e due is = due_ok d.due d n line e (sym (ap (λ b. cond b (due_line d.due d n line (words line)) (Ok d)) due) ∙ is)

pub line_back : (d : Content) (n : ℕ) (line : List ℕ) (e : Content) → is_counted line ≡ true → Adds d line e → line_says d n line ≡ Ok e
unfolding line_says
line_back d n line e due is = ap (λ b. cond b (due_line d.due d n line (words line)) (Ok d)) due ∙ due_back d.due d n line e is

-- a line that is passed over
pub line_passed : (d : Content) (n : ℕ) (line : List ℕ) → is_counted line ≡ false → line_says d n line ≡ Ok d
unfolding line_says
line_passed d n line due = ap (λ b. cond b (due_line d.due d n line (words line)) (Ok d)) due
