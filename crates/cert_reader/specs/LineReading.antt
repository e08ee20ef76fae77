-- What a line says: each of its words is one that is due there, or spells a number in its range.
use Rattle.std.specs.Prelude.{◌==◌, ◌&&◌, ◌-◌, ◌^◌, nat_le, nat_lt, if◌then◌else◌, Bool, true, ℕ, ℤ, pos, negsuc, List, [], ◌∷◌, length, drop, slice_index, codes, Option, Some, None, unsigned_abs}
use Rattle.std.specs.List.{slice_split}
use Rattle.std.specs.Str.{bytes_eq}
use Rattle.std.specs.Fmt.{signed_decimal}
use Rattle.std.specs.Str.Parse.{digits_value}
use Rattle.agg_base.specs.Numbers.{number_of}
use Rattle.agg_base.specs.declared.limits.TheConstants.{DENOMINATOR}
use Rattle.row_laws.specs.declared.row.Row.TheVariants.{Border, Escape}
use Rattle.cert_text.specs.declared.certificate.CertStatus.{CertStatus}
use Rattle.cert_text.specs.declared.certificate.CertStatus.TheVariants.{Optimal, Within, Hopeless}
use Rattle.cert_reader.specs.declared.line_reader.Front.{Front}
use Rattle.cert_reader.specs.declared.line.Line.{Line}
use Rattle.cert_reader.specs.declared.line.Line.TheVariants.{Version, Status, Cost, Bound, Areas, Regions, Class, Region, Split, Fixed, Sum, Void, Row, End}
use Rattle.cert_reader.specs.declared.limits.TheConstants.{LAST_AREA, LAST_CLASS, LAST_LINK, MOST_AREAS, MOST_MARKS}

infixl 10 ◌>>=◌
abbrev pub ◌>>=◌ : {X Y : Type 0} → Option X → (X → Option Y) → Option Y
None >>= more = None
(Some x) >>= more = more x

-- the words of a line: what stands between its spaces
unfoldable pub words_in : List ℕ → List (List ℕ)
words_in line = slice_split (λ b. b == 32) line

-- the words that are left of a line: none where the last one has been given
abbrev pub words_left : Bool → List ℕ → List (List ℕ)
words_left is_over line = if is_over then [] else words_in line

-- the number that a word spells, where it spells one
abbrev pub value_of : List ℕ → ℤ
value_of word = if slice_index word 0 == 45 then number_of true (drop 1 word) else pos (digits_value 10 word)

-- the number is one of 128 bits
abbrev pub is_wide : ℤ → Bool
is_wide (pos n) = nat_lt n (2 ^ 127)
is_wide (negsuc n) = nat_lt n (2 ^ 127)

-- the number of 128 bits that a word spells
unfoldable pub whole_in : List ℕ → Option ℤ
whole_in word = if is_wide (value_of word) && bytes_eq (signed_decimal (value_of word)) word then Some (value_of word) else None

abbrev pub within : ℕ → ℕ → ℤ → Option ℕ
within least most (pos n) = if nat_le least n && nat_le n most then Some n else None
within least most (negsuc n) = None

-- the number in a range that a word spells
unfoldable pub number_in : ℕ → ℕ → List ℕ → Option ℕ
number_in least most word = whole_in word >>= within least most

abbrev pub multiplier_of : ℤ → Option ℤ
multiplier_of n = if nat_lt (unsigned_abs n) (2 ^ 127) then Some n else None

unfoldable pub multiplier_in : List ℕ → Option ℤ
multiplier_in word = whole_in word >>= multiplier_of

-- ---- the next word, and the words behind it

unfoldable pub number_at : ℕ → ℕ → List (List ℕ) → Option (ℕ × List (List ℕ))
number_at least most [] = None
number_at least most (word ∷ words) = number_in least most word >>= λ n. Some (n, words)

unfoldable pub multiplier_at : List (List ℕ) → Option (ℤ × List (List ℕ))
multiplier_at [] = None
multiplier_at (word ∷ words) = multiplier_in word >>= λ n. Some (n, words)

-- the line, where no word is left
abbrev pub alone : Line → List (List ℕ) → Option Line
alone line [] = Some line
alone line (word ∷ words) = None

-- the only word
abbrev pub only : List (List ℕ) → Option (List ℕ)
only [] = None
only (word ∷ []) = Some word
only (word ∷ next ∷ words) = None

-- ---- the lines

unfoldable pub version_line : List (List ℕ) → Option Line
version_line words = only words >>= λ word. if bytes_eq word (codes "1") then Some Version else None

abbrev pub status_in : List ℕ → Option CertStatus
status_in word =
    if bytes_eq word (codes "optimal") then Some Optimal
    else if bytes_eq word (codes "within") then Some Within
    else if bytes_eq word (codes "none") then Some Hopeless
    else None

unfoldable pub status_line : List (List ℕ) → Option Line
status_line words = only words >>= λ word. status_in word >>= λ status. Some (Status status)

-- a number or a dash
unfoldable pub stated_in : List ℕ → Option (Option ℤ)
stated_in word = if bytes_eq word (codes "-") then Some None else (whole_in word >>= λ n. Some (Some n))

unfoldable pub cost_line : List (List ℕ) → Option Line
cost_line words = only words >>= λ word. stated_in word >>= λ cost. Some (Cost cost)

unfoldable pub bound_line : List (List ℕ) → Option Line
bound_line words = only words >>= λ word. stated_in word >>= λ bound. Some (Bound bound)

unfoldable pub areas_line : List (List ℕ) → Option Line
areas_line words = number_at 0 MOST_AREAS words >>= λ count. alone (Areas count.0) count.1

unfoldable pub regions_line : List (List ℕ) → Option Line
regions_line words = number_at 0 MOST_AREAS words >>= λ count. alone (Regions count.0) count.1

unfoldable pub class_line : List (List ℕ) → Option Line
class_line words = number_at 0 LAST_CLASS words >>= λ class. alone (Class class.0) class.1

unfoldable pub region_line : List (List ℕ) → Option Line
region_line words = number_at 0 LAST_AREA words >>= λ region. alone (Region region.0) region.1

unfoldable pub split_line : List (List ℕ) → Option Line
split_line words = number_at 0 LAST_AREA words >>= λ area. number_at 0 LAST_CLASS area.1 >>= λ class. alone (Split area.0 class.0) class.1

unfoldable pub sum_line : List (List ℕ) → Option Line
sum_line words = number_at 1 DENOMINATOR words >>= λ denominator. number_at 0 MOST_MARKS denominator.1 >>= λ count. alone (Sum denominator.0 count.0) count.1

unfoldable pub void_line : List (List ℕ) → Option Line
void_line words = number_at 0 MOST_MARKS words >>= λ count. alone (Void count.0) count.1

unfoldable pub border_line : List (List ℕ) → Option Line
border_line words =
    number_at 0 LAST_LINK words >>= λ link. number_at 0 1 link.1 >>= λ side. number_at 0 LAST_CLASS side.1 >>= λ class.
    multiplier_at class.1 >>= λ m. alone (Row (Border link.0 side.0 class.0) m.0) m.1

-- the members that the words spell
abbrev pub members_in : List (List ℕ) → Option (List ℕ)
members_in [] = Some []
members_in (word ∷ words) = number_in 0 LAST_AREA word >>= λ member. members_in words >>= λ members. Some (member ∷ members)

abbrev pub is_rising : List ℕ → Bool
is_rising [] = true
is_rising (x ∷ []) = true
is_rising (x ∷ y ∷ xs) = nat_lt x y && is_rising (y ∷ xs)

-- the set of so many members
unfoldable pub set_in : ℕ → List (List ℕ) → Option (List ℕ)
set_in count words = members_in words >>= λ set. if (length set == count) && is_rising set then Some set else None

-- the multiplier, the area, the class and the count of an escape row, and the words behind them
unfoldable pub escape_front : List (List ℕ) → Option (Front × List (List ℕ))
escape_front words =
    multiplier_at words >>= λ m. number_at 0 LAST_AREA m.1 >>= λ area. number_at 0 LAST_CLASS area.1 >>= λ class.
    number_at 0 MOST_MARKS class.1 >>= λ count. Some (record { multiplier = m.0; area = area.0; class = class.0; count = count.0 }, count.1)

unfoldable pub escape_line : List (List ℕ) → Option Line
escape_line words = escape_front words >>= λ e. set_in e.0.count e.1 >>= λ set. Some (Row (Escape e.0.area e.0.class set) e.0.multiplier)

-- a line at the head, or the last one, by its first word
unfoldable pub head_line : List ℕ → List (List ℕ) → Option Line
head_line first words =
    if bytes_eq first (codes "aggregation") then version_line words
    else if bytes_eq first (codes "status") then status_line words
    else if bytes_eq first (codes "cost") then cost_line words
    else if bytes_eq first (codes "bound") then bound_line words
    else if bytes_eq first (codes "areas") then areas_line words
    else if bytes_eq first (codes "regions") then regions_line words
    else if bytes_eq first (codes "end") then alone End words
    else None

-- a line without members
unfoldable pub plain_line : List ℕ → List (List ℕ) → Option Line
plain_line first words =
    if bytes_eq first (codes "b") then border_line words
    else if bytes_eq first (codes "a") then region_line words
    else if bytes_eq first (codes "s") then split_line words
    else if bytes_eq first (codes "f") then alone Fixed words
    else if bytes_eq first (codes "c") then sum_line words
    else if bytes_eq first (codes "v") then void_line words
    else if bytes_eq first (codes "r") then class_line words
    else head_line first words

unfoldable pub line_of_words : List (List ℕ) → Option Line
line_of_words [] = None
line_of_words (first ∷ words) = if bytes_eq first (codes "e") then escape_line words else plain_line first words

-- what a line says; none where it breaks its rule
unfoldable pub line_in : List ℕ → Option Line
line_in line = line_of_words (words_in line)
