-- What is said in range is read again.
use Rattle.std.proofs.Common.{◌≡◌, ℕ, zero, suc, ◌+◌, ◌^◌, ◌<◌, ◌≤◌, Bool, true, false, cond, ◌==◌, ◌&&◌, nat_lt, not, List, [], ◌∷◌, ◌++◌, length, map, Option, None, Some, refl, ap, sym, subst, ◌∙◌, arith, rules, pos, negsuc, FitsSigned}
use Rattle.std.specs.Prelude.{ℤ, codes, All, unsigned_abs, slice_index}
use Rattle.std.specs.Option.{ForSome}
use Rattle.std.specs.Int.{w128}
use Rattle.std.specs.List.{slice_split, join_with_byte, list_all}
use Rattle.std.specs.Fmt.{decimal, signed_decimal}
use Rattle.std.specs.Str.{bytes_eq}
use Rattle.std.specs.Str.Parse.{AllDigits}
use Rattle.std.proofs.lemmas.Bool.{lt-ltb}
use Rattle.std.proofs.lemmas.Bool.Decides.{Decides-eqb}
use Rattle.std.proofs.lemmas.Str.{digit_value_digit}
use Rattle.std.proofs.lemmas.Str.Parse.{digit_from_value}
use Rattle.std.proofs.lemmas.Fmt.{decimal_is_IsNumeral_wide}
use Rattle.std.proofs.lemmas.List.Splits.{slice_split_none, slice_split_at}
use Rattle.agg_base.specs.declared.limits.TheConstants.{DENOMINATOR, AREAS, CLASSES}
use Rattle.agg_model.specs.Problem.{IsRising}
use Rattle.row_laws.specs.declared.row.Row.{Row as RowValue}
use Rattle.row_laws.specs.declared.row.Row.TheVariants.{Border, Escape}
use Rattle.cert_text.specs.Lines.{status_word, number_or_dash, IsRowInRange}
use Rattle.cert_reader.specs.Lines.{words_of, line_text, IsInRange}
use Rattle.cert_reader.specs.LineReading.{◌>>=◌, whole_in, number_in, number_at, multiplier_at, multiplier_in, alone, only, version_line, status_in, status_line, stated_in, cost_line, bound_line, areas_line, regions_line, class_line, region_line, split_line, sum_line, void_line, border_line, members_in, is_rising, set_in, escape_front, escape_line, head_line, plain_line, line_of_words, words_in, line_in, is_wide}
use Rattle.cert_text.specs.declared.certificate.CertStatus.{CertStatus}
use Rattle.cert_text.specs.declared.certificate.CertStatus.TheVariants.{Optimal, Within, Hopeless}
use Rattle.cert_reader.specs.declared.line.Line.{Line}
use Rattle.cert_reader.specs.declared.line.Line.TheVariants.{Version, Status, Cost, Bound, Areas, Regions, Class, Region, Split, Fixed, Sum, Void, Row, End}
use Rattle.cert_reader.specs.declared.limits.TheConstants.{LAST_AREA, LAST_CLASS, LAST_LINK, MOST_AREAS, MOST_MARKS}
use Rattle.std.proofs.lemmas.Slice.Eq.{bytes_eq-Decides}
use Rattle.std.proofs.lemmas.Bool.{ltb-true}
use Rattle.cert_reader.specs.declared.line_reader.Front.{Front}
use Rattle.cert_reader.proofs.NumberLemmas.{fits_wide, whole_again, number_again, multiplier_again, first_of_digits}
use Rattle.cert_reader.proofs.PlainLemmas.{few_members, member_below, words_plain, words_in_text}
use Rattle.cert_reader.proofs.LineLemmas.{is_rising-from}

number_at_again : (least most n : ℕ) (ws : List (List ℕ)) → least ≤ n → n ≤ most → n < 2 ^ 127 → number_at least most (decimal n ∷ ws) ≡ Some (n, ws)
unfolding number_at
number_at_again least most n ws low high small = ap (λ o. o >>= λ n. Some (n, ws)) (number_again least most n low high small)

multiplier_at_again : (z : ℤ) (ws : List (List ℕ)) → unsigned_abs z < 2 ^ 127 → multiplier_at (signed_decimal z ∷ ws) ≡ Some (z, ws)
unfolding multiplier_at
multiplier_at_again z ws small = ap (λ o. o >>= λ n. Some (n, ws)) (multiplier_again z small)

-- ---- what differs

differ : (a b : List ℕ) → (a ≡ b → ⊥) → bytes_eq a b ≡ false
differ a b never = by_case (bytes_eq a b) refl
  where
    by_case : (t : Bool) → bytes_eq a b ≡ t → t ≡ false
    by_case true e = absurd (never ((bytes_eq-Decides a b).0 e))
    by_case false e = refl

no_digits : (ds : List ℕ) → 0 < length ds → 45 ∷ ds ≡ 45 ∷ [] → ⊥
no_digits [] some e = absurd (omega arith)
no_digits (d ∷ ds) some e = let f = ap (λ t. length t) e in absurd (omega arith)

true_or_false : (b : Bool) → b ≡ true → b ≡ false → ⊥
true_or_false true e f = (cc)
true_or_false false e f = (cc)

dash_differs : (n : ℤ) → is_wide n ≡ true → bytes_eq (signed_decimal n) (codes "-") ≡ false
dash_differs (pos n) wide =
    let small : n < 2 ^ 127 = ltb-true n (2 ^ 127) wide in
    let is = decimal_is_IsNumeral_wide n (omega arith) in
    differ (decimal n) (45 ∷ []) (λ e. true_or_false (slice_index (decimal n) 0 == 45) (ap (λ ds. slice_index ds 0 == 45) e) (first_of_digits (decimal n) is.0))
dash_differs (negsuc n) wide =
    let small : n < 2 ^ 127 = ltb-true n (2 ^ 127) wide in
    let is = decimal_is_IsNumeral_wide (suc n) (omega arith) in
    differ (45 ∷ decimal (suc n)) (45 ∷ []) (no_digits (decimal (suc n)) is.0.0)

stated_again : (o : Option ℤ) → ForSome o (FitsSigned w128) → stated_in (number_or_dash o) ≡ Some o
unfolding stated_in
stated_again None fits = refl
stated_again (Some n) fits =
    let wide = fits_wide n (fits n refl) in
    ap (λ b. cond b (Some None) (whole_in (signed_decimal n) >>= λ n. Some (Some n))) (dash_differs n wide) ∙ ap (λ o. o >>= λ n. Some (Some n)) (whole_again n wide)

status_again : (s : CertStatus) → status_in (status_word s) ≡ Some s
status_again Optimal = refl
status_again Within = refl
status_again Hopeless = refl

members_again : (set : List ℕ) → ((i : ℕ) → i < length set → slice_index set i < AREAS) → members_in (map decimal set) ≡ Some set
members_again [] all = refl
members_again (x ∷ xs) all =
    ap (λ o. o >>= λ n. members_in (map decimal xs) >>= λ ns. Some (n ∷ ns)) (number_again 0 LAST_AREA x (omega arith) (let h = all 0 (omega arith) in omega arith) (let h = all 0 (omega arith) in omega arith))
    ∙ ap (λ o. o >>= λ ns. Some (x ∷ ns)) (members_again xs (λ i h. all (suc i) (omega arith)))

set_again : (set : List ℕ) → ((i : ℕ) → i < length set → slice_index set i < AREAS) → IsRising set → set_in (length set) (map decimal set) ≡ Some set
unfolding set_in
set_again set all rising =
    ap (λ o. o >>= λ s. cond ((length s == length set) && is_rising s) (Some s) None) (members_again set all)
    ∙ ap (λ b. cond (b && is_rising set) (Some set) None) ((Decides-eqb (length set) (length set)).1 refl)
    ∙ ap (λ b. cond b (Some set) None) (is_rising-from set rising)

-- an escape row, one word after another
abbrev after_count : ℤ → ℕ → ℕ → ℕ × List (List ℕ) → Option (Front × List (List ℕ))
after_count m v k d = Some (record { multiplier = m; area = v; class = k; count = d.0 }, d.1)

abbrev after_class : ℤ → ℕ → ℕ × List (List ℕ) → Option (Front × List (List ℕ))
after_class m v c = number_at 0 MOST_MARKS c.1 >>= after_count m v c.0

abbrev after_area : ℤ → ℕ × List (List ℕ) → Option (Front × List (List ℕ))
after_area m b = number_at 0 LAST_CLASS b.1 >>= after_class m b.0

abbrev after_multiplier : ℤ × List (List ℕ) → Option (Front × List (List ℕ))
after_multiplier a = number_at 0 LAST_AREA a.1 >>= after_area a.0

abbrev with_set : Front × List (List ℕ) → Option Line
with_set e = set_in e.0.count e.1 >>= λ set. Some (Row (Escape e.0.area e.0.class set) e.0.multiplier)

escape_again : (v k : ℕ) (set : List ℕ) (m : ℤ) → IsInRange (Row (Escape v k set) m) → length set ≤ MOST_MARKS → line_of_words (words_of (Row (Escape v k set) m)) ≡ Some (Row (Escape v k set) m)
unfolding line_of_words escape_line escape_front
escape_again v k set m fits few =
    let range = fits.0 in
    let area : v < AREAS = range.0 in
    let class : k < CLASSES = range.1 in
    let members = map decimal set in
    let count = decimal (length set) ∷ members in
    ap (λ o. (o >>= after_multiplier) >>= with_set) (multiplier_at_again m (decimal v ∷ decimal k ∷ count) fits.1)
    ∙ ap (λ o. (o >>= after_area m) >>= with_set) (number_at_again 0 LAST_AREA v (decimal k ∷ count) (omega arith) (omega arith) (omega arith))
    ∙ ap (λ o. (o >>= after_class m v) >>= with_set) (number_at_again 0 LAST_CLASS k count (omega arith) (omega arith) (omega arith))
    ∙ ap (λ o. (o >>= after_count m v k) >>= with_set) (number_at_again 0 MOST_MARKS (length set) members (omega arith) few (omega arith))
    ∙ ap (λ o. o >>= λ s. Some (Row (Escape v k s) m)) (set_again set (member_below set range.2) range.3)

-- the words of a line are read again
words_again : (line : Line) → IsInRange line → line_of_words (words_of line) ≡ Some line
unfolding line_of_words plain_line head_line version_line status_line cost_line bound_line areas_line regions_line class_line region_line split_line sum_line void_line border_line escape_line escape_front set_in
words_again Version fits = refl
words_again (Status s) fits = ap (λ o. o >>= λ s. Some (Status s)) (status_again s)
words_again (Cost o) fits = ap (λ o. o >>= λ c. Some (Cost c)) (stated_again o fits)
words_again (Bound o) fits = ap (λ o. o >>= λ c. Some (Bound c)) (stated_again o fits)
words_again (Areas n) fits = ap (λ o. o >>= λ x. alone (Areas x.0) x.1) (number_at_again 0 MOST_AREAS n [] (omega arith) fits (omega arith))
words_again (Regions n) fits = ap (λ o. o >>= λ x. alone (Regions x.0) x.1) (number_at_again 0 MOST_AREAS n [] (omega arith) fits (omega arith))
words_again (Class k) fits = ap (λ o. o >>= λ x. alone (Class x.0) x.1) (number_at_again 0 LAST_CLASS k [] (omega arith) (omega arith) (omega arith))
words_again (Region r) fits = ap (λ o. o >>= λ x. alone (Region x.0) x.1) (number_at_again 0 LAST_AREA r [] (omega arith) (omega arith) (omega arith))
words_again (Split v k) fits =
    ap (λ o. o >>= λ x. number_at 0 LAST_CLASS x.1 >>= λ y. alone (Split x.0 y.0) y.1) (number_at_again 0 LAST_AREA v (decimal k ∷ []) (omega arith) (omega arith) (omega arith))
    ∙ ap (λ o. o >>= λ y. alone (Split v y.0) y.1) (number_at_again 0 LAST_CLASS k [] (omega arith) (omega arith) (omega arith))
words_again Fixed fits = refl
words_again (Sum q n) fits =
    ap (λ o. o >>= λ x. number_at 0 MOST_MARKS x.1 >>= λ y. alone (Sum x.0 y.0) y.1) (number_at_again 1 DENOMINATOR q (decimal n ∷ []) fits.0 fits.1 (omega arith))
    ∙ ap (λ o. o >>= λ y. alone (Sum q y.0) y.1) (number_at_again 0 MOST_MARKS n [] (omega arith) fits.2 (omega arith))
words_again (Void n) fits = ap (λ o. o >>= λ x. alone (Void x.0) x.1) (number_at_again 0 MOST_MARKS n [] (omega arith) fits (omega arith))
words_again (Row (Border l s k) m) fits =
    ap (λ o. o >>= λ a. number_at 0 1 a.1 >>= λ b. number_at 0 LAST_CLASS b.1 >>= λ c. multiplier_at c.1 >>= λ d. alone (Row (Border a.0 b.0 c.0) d.0) d.1)
    (number_at_again 0 LAST_LINK l (decimal s ∷ decimal k ∷ signed_decimal m ∷ []) (omega arith) (omega arith) (omega arith))
    ∙ ap (λ o. o >>= λ b. number_at 0 LAST_CLASS b.1 >>= λ c. multiplier_at c.1 >>= λ d. alone (Row (Border l b.0 c.0) d.0) d.1)
    (number_at_again 0 1 s (decimal k ∷ signed_decimal m ∷ []) (omega arith) (omega arith) (omega arith))
    ∙ ap (λ o. o >>= λ c. multiplier_at c.1 >>= λ d. alone (Row (Border l s c.0) d.0) d.1)
    (number_at_again 0 LAST_CLASS k (signed_decimal m ∷ []) (omega arith) (omega arith) (omega arith))
    ∙ ap (λ o. o >>= λ d. alone (Row (Border l s k) d.0) d.1) (multiplier_at_again m [] fits.1)
words_again (Row (Escape v k set) m) fits = escape_again v k set m fits (let few = few_members set fits.0.3 (member_below set fits.0.2) in omega arith)
words_again End fits = refl

some_words : (line : Line) → 0 < length (words_of line)
some_words Version = omega arith
some_words (Status s) = omega arith
some_words (Cost o) = omega arith
some_words (Bound o) = omega arith
some_words (Areas n) = omega arith
some_words (Regions n) = omega arith
some_words (Class k) = omega arith
some_words (Region r) = omega arith
some_words (Split v k) = omega arith
some_words Fixed = omega arith
some_words (Sum q n) = omega arith
some_words (Void n) = omega arith
some_words (Row (Border l s k) m) = omega arith
some_words (Row (Escape v k set) m) = omega arith
some_words End = omega arith

-- a line in range is read again
pub line_again : (line : Line) → IsInRange line → line_in (line_text line) ≡ Some line
unfolding line_in line_text
line_again line fits = ap line_of_words (words_in_text (words_of line) (some_words line) (words_plain line fits)) ∙ words_again line fits
