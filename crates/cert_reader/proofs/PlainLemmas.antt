-- The bytes of lines: none is a line feed, and none of a word is a space.
use Rattle.std.proofs.Common.{◌≡◌, ℕ, zero, suc, ◌+◌, ◌^◌, ◌<◌, ◌≤◌, Bool, true, false, cond, ◌==◌, ◌&&◌, List, [], ◌∷◌, ◌++◌, length, map, Option, None, Some, refl, ap, sym, subst, ◌∙◌, arith, rules, pos, negsuc, FitsSigned, All}
use Rattle.std.specs.Prelude.{ℤ, codes, unsigned_abs, nat_lt, slice_index}
use Rattle.std.specs.Option.{ForSome}
use Rattle.std.specs.Int.{w128}
use Rattle.std.specs.List.{slice_split, join_with_byte}
use Rattle.std.specs.Fmt.{decimal, signed_decimal}
use Rattle.std.specs.Str.Parse.{AllDigits}
use Rattle.std.proofs.lemmas.Bool.{ltb-true}
use Rattle.std.proofs.lemmas.Bool.Decides.{Decides-eqb}
use Rattle.std.proofs.lemmas.Str.Parse.{digit_from_value}
use Rattle.std.proofs.lemmas.Fmt.{decimal_is_IsNumeral_wide}
use Rattle.std.proofs.lemmas.List.Splits.{slice_split_none, slice_split_at}
use Rattle.agg_base.specs.Texts.{text_of_lines, text_of_words}
use Rattle.agg_base.specs.declared.limits.TheConstants.{DENOMINATOR, AREAS, CLASSES, LINKS, MARKS}
use Rattle.row_laws.specs.declared.row.Row.{Row as RowValue}
use Rattle.row_laws.specs.declared.row.Row.TheVariants.{Border, Escape}
use Rattle.cert_text.specs.Lines.{status_word, number_or_dash, IsRowInRange}
use Rattle.cert_reader.specs.Lines.{words_of, line_text, IsInRange}
use Rattle.cert_text.specs.declared.certificate.CertStatus.{CertStatus}
use Rattle.cert_text.specs.declared.certificate.CertStatus.TheVariants.{Optimal, Within, Hopeless}
use Rattle.cert_reader.specs.declared.line.Line.{Line}
use Rattle.cert_reader.specs.declared.line.Line.TheVariants.{Version, Status, Cost, Bound, Areas, Regions, Class, Region, Split, Fixed, Sum, Void, Row, End}
use Rattle.cert_reader.specs.LineReading.{words_in, is_rising}
use Rattle.cert_reader.specs.Faults.{texts_in}
use Rattle.agg_model.specs.Problem.{IsRising}
use Rattle.cert_reader.proofs.NumberLemmas.{both}
use Rattle.cert_reader.proofs.LineLemmas.{is_rising-from}

-- each byte is above a number
abbrev pub AreAbove : ℕ → List ℕ → Type 0
AreAbove low [] = Unit {0}
AreAbove low (b ∷ bs) = (low < b) × AreAbove low bs

-- each byte of a word is above a space
abbrev pub IsPlain : List ℕ → Type 0
IsPlain w = AreAbove 32 w

abbrev pub ArePlain : List (List ℕ) → Type 0
ArePlain [] = Unit {0}
ArePlain (w ∷ ws) = IsPlain w × ArePlain ws

abbrev above_test : ℕ → List ℕ → Bool
above_test low [] = true
above_test low (b ∷ bs) = nat_lt low b && above_test low bs

plain_from : (w : List ℕ) → above_test 32 w ≡ true → IsPlain w
plain_from [] e = tt
plain_from (b ∷ bs) e = let k = both (nat_lt 32 b) (above_test 32 bs) e in (ltb-true 32 b k.0, plain_from bs k.1)

lower : (low high : ℕ) (w : List ℕ) → low ≤ high → AreAbove high w → AreAbove low w
lower low high [] h a = tt
lower low high (b ∷ bs) h a = let k : high < b = a.0 in (omega arith, lower low high bs h a.1)

above_append : (low : ℕ) (v w : List ℕ) → AreAbove low v → AreAbove low w → AreAbove low (v ++ w)
above_append low [] w a b = b
above_append low (x ∷ v) w a b = (a.0, above_append low v w a.1 b)

differs : (byte b low : ℕ) → byte ≤ low → low < b → (b == byte) ≡ false
differs byte b low h k = by_case (b == byte) refl
  where
    by_case : (t : Bool) → (b == byte) ≡ t → t ≡ false
    by_case true e = let same = (Decides-eqb b byte).0 e in absurd (omega arith)
    by_case false e = refl

-- no byte is that one
pub none_is : (byte low : ℕ) (w : List ℕ) → byte ≤ low → AreAbove low w → All (λ b. (b == byte) ≡ false) w
none_is byte low [] h a k d i = absurd (omega arith)
none_is byte low (b ∷ bs) h a zero d i = differs byte b low h a.0
none_is byte low (b ∷ bs) h a (suc k) d i = none_is byte low bs h a.1 k d (omega arith)

-- ---- words

digits_plain : (ds : List ℕ) → AllDigits 10 ds → IsPlain ds
digits_plain [] d = tt
digits_plain (c ∷ cs) d = let k = digit_from_value c d.0 in (omega arith, digits_plain cs d.1)

pub decimal_plain : (n : ℕ) → n < 2 ^ 128 → IsPlain (decimal n)
decimal_plain n small = digits_plain (decimal n) (decimal_is_IsNumeral_wide n (omega arith)).0.1

pub signed_plain : (z : ℤ) → unsigned_abs z < 2 ^ 128 → IsPlain (signed_decimal z)
signed_plain (pos n) small = decimal_plain n small
signed_plain (negsuc n) small = (omega arith, decimal_plain (suc n) (omega arith))

fits_small : (z : ℤ) → FitsSigned w128 z → unsigned_abs z < 2 ^ 128
fits_small (pos n) f = let h : n < 2 ^ 127 = f.sfits in omega arith
fits_small (negsuc n) f = let h : n < 2 ^ 127 = f.sfits in omega arith

status_plain : (s : CertStatus) → IsPlain (status_word s)
status_plain Optimal = plain_from (codes "optimal") refl
status_plain Within = plain_from (codes "within") refl
status_plain Hopeless = plain_from (codes "none") refl

stated_plain : (o : Option ℤ) → ForSome o (FitsSigned w128) → IsPlain (number_or_dash o)
stated_plain None fits = plain_from (codes "-") refl
stated_plain (Some n) fits = signed_plain n (fits_small n (fits n refl))

members_plain : (set : List ℕ) → ((i : ℕ) → i < length set → slice_index set i < AREAS) → ArePlain (map decimal set)
members_plain [] all = tt
members_plain (x ∷ xs) all = (decimal_plain x (let h = all 0 (omega arith) in omega arith), members_plain xs (λ i h. all (suc i) (omega arith)))

-- ---- rising members below a number are few

few_behind : (x : ℕ) (xs : List ℕ) → is_rising (x ∷ xs) ≡ true → ((i : ℕ) → i < length (x ∷ xs) → slice_index (x ∷ xs) i < AREAS) → length xs + x < AREAS
few_behind x [] e all = let h = all 0 (omega arith) in omega arith
few_behind x (y ∷ xs) e all =
    let b = both (nat_lt x y) (is_rising (y ∷ xs)) e in
    let less = ltb-true x y b.0 in
    let more = few_behind y xs b.1 (λ i h. all (suc i) (omega arith)) in
    omega arith

pub few_members : (set : List ℕ) → IsRising set → ((i : ℕ) → i < length set → slice_index set i < AREAS) → length set ≤ AREAS
few_members [] rising all = omega arith
few_members (x ∷ xs) rising all = let h = few_behind x xs (is_rising-from (x ∷ xs) rising) all in omega arith

-- each member by its place
pub member_below : (set : List ℕ) → All (λ s. s < AREAS) set → (i : ℕ) → i < length set → slice_index set i < AREAS
member_below set all i h = all i 0 h

escape_plain : (v k : ℕ) (set : List ℕ) (m : ℤ) → IsInRange (Row (Escape v k set) m) → ArePlain (words_of (Row (Escape v k set) m))
escape_plain v k set m fits =
    let range = fits.0 in
    let area : v < AREAS = range.0 in
    let class : k < CLASSES = range.1 in
    let small : unsigned_abs m < 2 ^ 127 = fits.1 in
    let below = member_below set range.2 in
    let few = few_members set range.3 below in
    (plain_from (codes "e") refl, (signed_plain m (omega arith), (decimal_plain v (omega arith), (decimal_plain k (omega arith), (decimal_plain (length set) (omega arith), members_plain set below)))))

border_plain : (l s k : ℕ) (m : ℤ) → IsInRange (Row (Border l s k) m) → ArePlain (words_of (Row (Border l s k) m))
border_plain l s k m fits =
    let range = fits.0 in
    let link : l < LINKS = range.0 in
    let side : s < 2 = range.1 in
    let class : k < CLASSES = range.2 in
    let small : unsigned_abs m < 2 ^ 127 = fits.1 in
    (plain_from (codes "b") refl, (decimal_plain l (omega arith), (decimal_plain s (omega arith), (decimal_plain k (omega arith), (signed_plain m (omega arith), tt)))))

-- the words of a line in range are plain
pub words_plain : (line : Line) → IsInRange line → ArePlain (words_of line)
words_plain Version fits = (plain_from (codes "aggregation") refl, (plain_from (codes "1") refl, tt))
words_plain (Status s) fits = (plain_from (codes "status") refl, (status_plain s, tt))
words_plain (Cost o) fits = (plain_from (codes "cost") refl, (stated_plain o fits, tt))
words_plain (Bound o) fits = (plain_from (codes "bound") refl, (stated_plain o fits, tt))
words_plain (Areas n) fits = let h : n ≤ AREAS = fits in (plain_from (codes "areas") refl, (decimal_plain n (omega arith), tt))
words_plain (Regions n) fits = let h : n ≤ AREAS = fits in (plain_from (codes "regions") refl, (decimal_plain n (omega arith), tt))
words_plain (Class k) fits = let h : k < CLASSES = fits in (plain_from (codes "r") refl, (decimal_plain k (omega arith), tt))
words_plain (Region r) fits = let h : r < AREAS = fits in (plain_from (codes "a") refl, (decimal_plain r (omega arith), tt))
words_plain (Split v k) fits =
    let area : v < AREAS = fits.0 in
    let class : k < CLASSES = fits.1 in
    (plain_from (codes "s") refl, (decimal_plain v (omega arith), (decimal_plain k (omega arith), tt)))
words_plain Fixed fits = (plain_from (codes "f") refl, tt)
words_plain (Sum q n) fits =
    let most : q ≤ DENOMINATOR = fits.1 in
    let few : n ≤ MARKS = fits.2 in
    (plain_from (codes "c") refl, (decimal_plain q (omega arith), (decimal_plain n (omega arith), tt)))
words_plain (Void n) fits = let few : n ≤ MARKS = fits in (plain_from (codes "v") refl, (decimal_plain n (omega arith), tt))
words_plain (Row (Border l s k) m) fits = border_plain l s k m fits
words_plain (Row (Escape v k set) m) fits = escape_plain v k set m fits
words_plain End fits = (plain_from (codes "end") refl, tt)

-- ---- words that are cut apart again

words_apart : (w : List ℕ) (ws : List (List ℕ)) → ArePlain (w ∷ ws) → slice_split (λ b. b == 32) (join_with_byte 32 (w ∷ ws)) ≡ w ∷ ws
words_apart w [] p = slice_split_none (λ b. b == 32) w (none_is 32 32 w (omega arith) p.0)
words_apart w (v ∷ ws) p =
    slice_split_at (λ b. b == 32) w 32 (join_with_byte 32 (v ∷ ws)) (none_is 32 32 w (omega arith) p.0) refl
    ∙ ap (λ t. w ∷ t) (words_apart v ws p.1)

pub words_in_text : (ws : List (List ℕ)) → 0 < length ws → ArePlain ws → words_in (text_of_words ws) ≡ ws
unfolding words_in
words_in_text [] some p = absurd (omega arith)
words_in_text (w ∷ ws) some p = words_apart w ws p

-- ---- lines that are cut apart again

text_above : (ws : List (List ℕ)) → ArePlain ws → AreAbove 31 (text_of_words ws)
text_above [] p = tt
text_above (w ∷ []) p = lower 31 32 w (omega arith) p.0
text_above (w ∷ v ∷ ws) p = above_append 31 w (32 ∷ text_of_words (v ∷ ws)) (lower 31 32 w (omega arith) p.0) (omega arith, text_above (v ∷ ws) p.1)

-- a line's text has no line feed
pub no_feed : (line : Line) → IsInRange line → All (λ b. (b == 10) ≡ false) (line_text line)
unfolding line_text
no_feed line fits = none_is 10 31 (text_of_words (words_of line)) (omega arith) (text_above (words_of line) (words_plain line fits))

-- a line and its line feed are cut off
pub line_cut_off : (line : Line) (rest : List ℕ) → IsInRange line → texts_in (line_text line ++ 10 ∷ rest) ≡ line_text line ∷ texts_in rest
unfolding texts_in
line_cut_off line rest fits = slice_split_at (λ b. b == 10) (line_text line) 10 rest (no_feed line fits) refl
