-- Lines that say something follow the rules of their kinds one after the other, and what is kept on the way.
use Rattle.std.proofs.Common.{◌≡◌, ◌≢◌, ℕ, zero, suc, ◌+◌, ◌*◌, ◌-◌, ◌<◌, ◌≤◌, ◌^◌, nat_le, nat_lt, ◌==◌, ◌||◌, Bool, true, false, cond, pos, ◌≤ℤ◌, List, [], ◌∷◌, ◌++◌, length, get_or, Result, Ok, Err, inl, inr, ◌⊎◌, sym, ap, refl, ◌∙◌, subst, arith}
use Rattle.std.specs.List.{AllZip}
use Rattle.std.specs.Str.{bytes_eq}
use Rattle.std.proofs.lemmas.Bool.Decides.{nat_tests, Decides-eqb, eqb_tells}
use Rattle.std.proofs.lemmas.Int.{ints}
use Rattle.std.proofs.lemmas.Nat.{mul-le}
use Rattle.std.proofs.lemmas.List.{length-append, get_or_append_left, get_or_at, get_or-append-add, get_or-append_right}
use Rattle.std.proofs.lemmas.Slice.Eq.{bytes_eq-Decides}
use Rattle.agg_base.specs.declared.limits.TheConstants.{CLASSES}
use Rattle.agg_base.specs.Lines.{Row}
use Rattle.class_table.specs.Table.{IsTable}
use Rattle.class_table.specs.Names.{IsName}
use Rattle.class_table.specs.Numbers.{IsNumber}
use Rattle.class_table.specs.Words.{is_counted}
use Rattle.class_table.specs.Content.{Content, no_content, table_of, is_among}
use Rattle.class_table.specs.Reading.{is_whole, ◌then◌, line_says, lines_say}
use Rattle.class_table.specs.TableTexts.{lines_of}
use Rattle.class_table.specs.Steps.{AddsUnit, AddsBorder, AddsClass, AddsRow, AddsDue, AddAll}
use Rattle.class_table.specs.declared.draft.Due.{Due}
use Rattle.class_table.specs.declared.draft.Due.TheVariants.{Head, Scale, Border, Body}
use Rattle.class_table.specs.declared.fault.TableFault.{TableFault}
use Rattle.class_table.proofs.Steps.{both, line_ok, line_back, line_passed}

-- steps that came out right

pub then_ok : {X Y : Type 0} (r : Result X TableFault) (more : X → Result Y TableFault) (y : Y) → (r then more) ≡ Ok y → (x : X) × (r ≡ Ok x) × (more x ≡ Ok y)
then_ok (Ok x) more y e = (x, refl, e)
then_ok (Err fault) more y e = absurd (let never : Err fault ≡ Ok y = e in cc)

-- Lines that say something follow the rules.
pub lines_add : (d : Content) (rows : List Row) (e : Content) → lines_say d rows ≡ Ok e → AddAll d (lines_of rows) e
lines_add d [] e is = let same : Ok d ≡ Ok e = is in cc
lines_add d (row ∷ rows) e is =
    let step = then_ok (line_says d row.number row.text) (λ m. lines_say m rows) e is in
    elim (is_counted row.text) as (λ b. is_counted row.text ≡ b → AddAll d (cond b (row.text ∷ lines_of rows) (lines_of rows)) e) [
      | true ↦ λ t. (step.0, line_ok d row.number row.text step.0 t step.1, lines_add step.0 rows e step.2)
      | false ↦ λ t. (let passed : line_says d row.number row.text ≡ Ok d = line_passed d row.number row.text t in
          let same : step.0 ≡ d = (let first : line_says d row.number row.text ≡ Ok step.0 = step.1 in cc) in
          subst (λ m. AddAll m (lines_of rows) e) same (lines_add step.0 rows e step.2))
    ] refl

-- Lines that follow the rules say so.
pub lines_back : (d : Content) (rows : List Row) (e : Content) → AddAll d (lines_of rows) e → lines_say d rows ≡ Ok e
lines_back d [] e is = ap (λ m. Ok m) is
lines_back d (row ∷ rows) e is =
    elim (is_counted row.text) as (λ b. is_counted row.text ≡ b → AddAll d (cond b (row.text ∷ lines_of rows) (lines_of rows)) e → lines_say d (row ∷ rows) ≡ Ok e) [
      | true ↦ λ t adds. ap (λ r. r then (λ m. lines_say m rows)) (line_back d row.number row.text adds.0 t adds.1) ∙ lines_back adds.0 rows e adds.2
      | false ↦ λ t adds. ap (λ r. r then (λ m. lines_say m rows)) (line_passed d row.number row.text t) ∙ lines_back d rows e adds
    ] refl is

-- names

is_not : (b : Bool) → (b ≡ true → ⊥) → b ≡ false
is_not true f = absurd (f refl)
is_not false f = refl

either_false : (a b : Bool) → (a || b) ≡ false → b ≡ false
either_false true b e = cc
either_false false b e = e

-- what is not among names differs from each
pub among_apart : (names : List (List ℕ)) (name : List ℕ) (k : ℕ) → is_among names name ≡ false → k < length names → get_or names k [] ≢ name
among_apart [] name k new l e = absurd (omega arith)
among_apart (seen ∷ names) name zero new l e =
    let equal : bytes_eq seen name ≡ true = (bytes_eq-Decides seen name).1 e in
    let never : is_among (seen ∷ names) name ≡ true = rw equal refl in
    cc
among_apart (seen ∷ names) name (suc k) new l e = among_apart names name k (either_false (bytes_eq seen name) (is_among names name) new) (omega arith) e

-- what differs from each is not among them
pub apart_among : (names : List (List ℕ)) (name : List ℕ) → ((k : ℕ) → k < length names → get_or names k [] ≢ name) → is_among names name ≡ false
apart_among [] name apart = refl
apart_among (seen ∷ names) name apart =
    let here : bytes_eq seen name ≡ false = is_not (bytes_eq seen name) (λ t. apart 0 (omega arith) ((bytes_eq-Decides seen name).0 t)) in
    rw here (apart_among names name (λ k l. apart (suc k) (omega arith)))

-- what is kept

-- what every list of right lines keeps
pub record Kept (d : Content) : Type 0 where
  wide_least : 1 ≤ d.wide
  wide_most : d.wide ≤ 100
  high_least : 1 ≤ d.high
  high_most : d.high ≤ 100
  cheap : d.border ≤ 10000
  few : length d.names ≤ CLASSES
  named : (k : ℕ) → k < length d.names → IsName (get_or d.names k [])
  thresholds : length d.threshold ≡ length d.names
  threshold_least : (k : ℕ) → k < length d.names → pos 0 ≤ℤ get_or d.threshold k (pos 0)
  threshold_most : (k : ℕ) → k < length d.names → get_or d.threshold k (pos 0) ≤ℤ pos (10 ^ 30)
  distances : length d.distance ≡ d.rows * length d.names
  near : (i : ℕ) → i < length d.distance → get_or d.distance i 0 ≤ 10000
  no_distance : (k : ℕ) → k < d.rows → get_or d.distance (k * length d.names + k) 0 ≡ 0
  apart : (j k : ℕ) → j < k → k < length d.names → get_or d.names j [] ≢ get_or d.names k []

pub kept_start : Kept no_content
kept_start = record {
  wide_least = omega arith;
  wide_most = omega arith;
  high_least = omega arith;
  high_most = omega arith;
  cheap = omega arith;
  few = omega arith;
  named = λ k l. absurd (omega arith);
  thresholds = refl;
  threshold_least = λ k l. absurd (omega arith);
  threshold_most = λ k l. absurd (omega arith);
  distances = omega arith;
  near = λ i l. absurd (omega arith);
  no_distance = λ k l. absurd (omega arith);
  apart = λ j k l m. absurd (omega arith);
}

le_or_above : (n i : ℕ) → (i < n) ⊎ (n ≤ i)
le_or_above n i = elim (nat_lt i n) as (λ b. nat_lt i n ≡ b → (i < n) ⊎ (n ≤ i)) [
  | true ↦ λ t. inl (let u : nat_lt i n ≡ true = t in grind (arith, nat_tests))
  | false ↦ λ t. inr (let u : nat_lt i n ≡ false = t in grind (arith, nat_tests))
] refl

pub one_more : (r n : ℕ) → r * n + n ≡ (r + 1) * n
one_more r n = grind arith

place_below : (k r n : ℕ) → k < r → k < n → k * n + k < r * n
place_below k r n l m =
    let below : (k + 1) * n ≤ r * n = mul-le (k + 1) n r n (omega arith) (omega arith) in
    let step : k * n + n ≡ (k + 1) * n = one_more k n in
    omega arith

at_first : (n : ℕ) → 0 * n ≡ 0
at_first n = grind arith

kept_class : (d : Content) (line : List ℕ) (e : Content) → Kept d → AddsClass d line e → Kept e
kept_class d line e kept is =
    let n : ℕ = length d.names in
    let l = is.line_is in
    let within = l.number.not_more in
    let more : length (d.names ++ is.name ∷ []) ≡ n + 1 = length-append d.names (is.name ∷ []) in
    let longer : length (d.threshold ++ is.threshold ∷ []) ≡ length d.threshold + 1 = length-append d.threshold (is.threshold ∷ []) in
    let long = kept.thresholds in
    let room = is.room in
    let none : length d.distance ≡ 0 = kept.distances ∙ ap (λ r. r * n) is.before_rows ∙ at_first n in
    let rows = is.before_rows in
    subst Kept (sym is.then_is) (record {
      wide_least = kept.wide_least;
      wide_most = kept.wide_most;
      high_least = kept.high_least;
      high_most = kept.high_most;
      cheap = kept.cheap;
      few = omega arith;
      named = λ k l. elim (eqb_tells k n) as (λ _. IsName (get_or (d.names ++ is.name ∷ []) k [])) [
        | inl same ↦ subst IsName (sym (get_or_at d.names is.name [] [] k (sym same.1))) is.line_is.named
        | inr other ↦ (let apart = other.1 in let low : k < n = omega arith in subst IsName (sym (get_or_append_left d.names (is.name ∷ []) [] k low)) (kept.named k low))
      ];
      thresholds = omega arith;
      threshold_least = λ k l. elim (eqb_tells k n) as (λ _. pos 0 ≤ℤ get_or (d.threshold ++ is.threshold ∷ []) k (pos 0)) [
        | inl same ↦ (let at : k ≡ length d.threshold = (let same_k = same.1 in omega arith) in rw (get_or_at d.threshold is.threshold [] (pos 0) k (sym at), is.line_is.threshold_is) (omega (arith, ints)))
        | inr other ↦ (let apart = other.1 in let low : k < n = omega arith in let inside : k < length d.threshold = omega arith in rw (get_or_append_left d.threshold (is.threshold ∷ []) (pos 0) k inside) (kept.threshold_least k low))
      ];
      threshold_most = λ k l. elim (eqb_tells k n) as (λ _. get_or (d.threshold ++ is.threshold ∷ []) k (pos 0) ≤ℤ pos (10 ^ 30)) [
        | inl same ↦ (let at : k ≡ length d.threshold = (let same_k = same.1 in omega arith) in rw (get_or_at d.threshold is.threshold [] (pos 0) k (sym at), is.line_is.threshold_is) (omega (arith, ints)))
        | inr other ↦ (let apart = other.1 in let low : k < n = omega arith in let inside : k < length d.threshold = omega arith in rw (get_or_append_left d.threshold (is.threshold ∷ []) (pos 0) k inside) (kept.threshold_most k low))
      ];
      distances = none ∙ sym (ap (λ r. r * length (d.names ++ is.name ∷ [])) is.before_rows ∙ at_first (length (d.names ++ is.name ∷ [])));
      near = kept.near;
      no_distance = λ k l. absurd (omega arith);
      apart = λ j k l m. elim (eqb_tells k n) as (λ _. get_or (d.names ++ is.name ∷ []) j [] ≢ get_or (d.names ++ is.name ∷ []) k []) [
        | inl same ↦ (let at : n ≡ k = sym same.1 in let low : j < n = omega arith in
            λ e. among_apart d.names is.name j is.new low (sym (get_or_append_left d.names (is.name ∷ []) [] j low) ∙ e ∙ get_or_at d.names is.name [] [] k at))
        | inr other ↦ (let apart = other.1 in let high : k < n = omega arith in let low : j < n = omega arith in
            λ e. kept.apart j k l high (sym (get_or_append_left d.names (is.name ∷ []) [] j low) ∙ e ∙ get_or_append_left d.names (is.name ∷ []) [] k high))
      ];
    })

row_near : (parts : List (List ℕ)) (row : List ℕ) (i : ℕ) → AllZip (IsNumber 0 10000) parts row → i < length row → get_or row i 0 ≤ 10000
row_near parts [] i all l = absurd (omega arith)
row_near [] (x ∷ row) i all l = absurd all
row_near (part ∷ parts) (x ∷ row) zero all l = all.0.not_more
row_near (part ∷ parts) (x ∷ row) (suc i) all l = row_near parts row i all.1 (omega arith)

pub row_home : (ds row : List ℕ) (r n : ℕ) → length ds ≡ r * n → get_or (ds ++ row) (r * n + r) 0 ≡ get_or row r 0
row_home ds row r n e = ap (λ (m : ℕ). get_or (ds ++ row) (m + r) 0) (sym e) ∙ get_or-append-add ds row r 0

kept_row : (d : Content) (line : List ℕ) (e : Content) → Kept d → AddsRow d line e → Kept e
kept_row d line e kept is =
    let n : ℕ = length d.names in
    let room = is.room in
    let count = is.count in
    let size : length (d.distance ++ is.row) ≡ length d.distance + length is.row = length-append d.distance is.row in
    subst Kept (sym is.then_is) (record {
      wide_least = kept.wide_least;
      wide_most = kept.wide_most;
      high_least = kept.high_least;
      high_most = kept.high_most;
      cheap = kept.cheap;
      few = kept.few;
      named = kept.named;
      thresholds = kept.thresholds;
      threshold_least = kept.threshold_least;
      threshold_most = kept.threshold_most;
      distances = size ∙ ap (λ (m : ℕ). m + length is.row) kept.distances ∙ ap (λ (m : ℕ). d.rows * n + m) is.count ∙ one_more d.rows n;
      near = λ i l. elim (le_or_above (length d.distance) i) as (λ _. get_or (d.distance ++ is.row) i 0 ≤ 10000) [
        | inl low ↦ rw (get_or_append_left d.distance is.row 0 i low) (kept.near i low)
        | inr high ↦ rw (get_or-append_right d.distance is.row (length d.distance) i 0 refl high) (row_near is.line_is.parts is.row (i - length d.distance) is.line_is.numbers (omega arith))
      ];
      no_distance = λ k l. elim (eqb_tells k d.rows) as (λ _. get_or (d.distance ++ is.row) (k * n + k) 0 ≡ 0) [
        | inl same ↦ ap (λ (m : ℕ). get_or (d.distance ++ is.row) (m * n + m) 0) same.1 ∙ row_home d.distance is.row d.rows n kept.distances ∙ is.diagonal
        | inr other ↦ (let apart = other.1 in let low : k < d.rows = omega arith in let less : k < n = omega arith in
            let inside : k * n + k < length d.distance = (let p = place_below k d.rows n low less in let q = kept.distances in omega arith) in
            get_or_append_left d.distance is.row 0 (k * n + k) inside ∙ kept.no_distance k low)
      ];
      apart = kept.apart;
    })

kept_unit : (d : Content) (line : List ℕ) (e : Content) → Kept d → AddsUnit d line e → Kept e
kept_unit d line e kept is = subst Kept (sym is.then_is) (record {
  wide_least = is.line_is.x_is.not_less;
  wide_most = is.line_is.x_is.not_more;
  high_least = is.line_is.y_is.not_less;
  high_most = is.line_is.y_is.not_more;
  cheap = kept.cheap;
  few = kept.few;
  named = kept.named;
  thresholds = kept.thresholds;
  threshold_least = kept.threshold_least;
  threshold_most = kept.threshold_most;
  distances = kept.distances;
  near = kept.near;
  no_distance = kept.no_distance;
  apart = kept.apart;
})

kept_border : (d : Content) (line : List ℕ) (e : Content) → Kept d → AddsBorder d line e → Kept e
kept_border d line e kept is = subst Kept (sym is.then_is) (record {
  wide_least = kept.wide_least;
  wide_most = kept.wide_most;
  high_least = kept.high_least;
  high_most = kept.high_most;
  cheap = is.line_is.number.not_more;
  few = kept.few;
  named = kept.named;
  thresholds = kept.thresholds;
  threshold_least = kept.threshold_least;
  threshold_most = kept.threshold_most;
  distances = kept.distances;
  near = kept.near;
  no_distance = kept.no_distance;
  apart = kept.apart;
})

kept_version : (d e : Content) → Kept d → e ≡ record d { due = Scale } → Kept e
kept_version d e kept is = subst Kept (sym is) (record {
  wide_least = kept.wide_least;
  wide_most = kept.wide_most;
  high_least = kept.high_least;
  high_most = kept.high_most;
  cheap = kept.cheap;
  few = kept.few;
  named = kept.named;
  thresholds = kept.thresholds;
  threshold_least = kept.threshold_least;
  threshold_most = kept.threshold_most;
  distances = kept.distances;
  near = kept.near;
  no_distance = kept.no_distance;
  apart = kept.apart;
})

kept_due : (due : Due) (d : Content) (line : List ℕ) (e : Content) → Kept d → AddsDue due d line e → Kept e
kept_due Head d line e kept is = kept_version d e kept is.1
kept_due Scale d line e kept is = elim is as (λ _. Kept e) [ inl unit ↦ kept_unit d line e kept unit | inr border ↦ kept_border d line e kept border ]
kept_due Border d line e kept is = kept_border d line e kept is
kept_due Body d line e kept is = elim is as (λ _. Kept e) [ inl class ↦ kept_class d line e kept class | inr row ↦ kept_row d line e kept row ]

-- Lines keep it.
pub kept_all : (d : Content) (lines : List (List ℕ)) (e : Content) → Kept d → AddAll d lines e → Kept e
kept_all d [] e kept is = subst Kept is kept
kept_all d (line ∷ lines) e kept is = kept_all is.0 lines e (kept_due d.due d line is.0 kept is.1) is.2

-- a table of what was said
pub whole_table : (e : Content) → Kept e → is_whole e ≡ true → IsTable (table_of e)
whole_table e kept is =
    let tests = both (nat_le 1 (length e.names)) (e.rows == length e.names) is in
    let some : 1 ≤ length e.names = (let t : nat_le 1 (length e.names) ≡ true = tests.0 in grind (arith, nat_tests)) in
    let all : e.rows ≡ length e.names = (Decides-eqb e.rows (length e.names)).0 tests.1 in
    record {
      wide_least = kept.wide_least;
      wide_most = kept.wide_most;
      high_least = kept.high_least;
      high_most = kept.high_most;
      cheap = kept.cheap;
      some = some;
      few = kept.few;
      named = kept.named;
      thresholds = kept.thresholds;
      threshold_least = kept.threshold_least;
      threshold_most = kept.threshold_most;
      distances = kept.distances ∙ ap (λ r. r * length e.names) all;
      near = kept.near;
      no_distance = λ k l. kept.no_distance k (omega arith);
      apart = kept.apart;
    }
