-- The lines of a certificate, and their one text: words, parted by single spaces.
use Rattle.std.specs.Prelude.{◌≡◌, ⊤, ◌<◌, ◌≤◌, ◌^◌, ℕ, List, [], ◌∷◌, length, map, codes, Option, None, Some, ℤ, unsigned_abs, FitsSigned, All}
use Rattle.std.specs.Option.{ForSome}
use Rattle.std.specs.Int.{w128}
use Rattle.std.specs.Fmt.{decimal, signed_decimal}
use Rattle.agg_base.specs.Texts.{text_of_words}
use Rattle.agg_base.specs.declared.limits.TheConstants.{AREAS, CLASSES, LINKS, MARKS, DENOMINATOR}
use Rattle.agg_model.specs.Problem.{IsRising}
use Rattle.row_laws.specs.declared.row.Row.{Row}
use Rattle.row_laws.specs.declared.row.Row.TheVariants.{Border, Escape}
use Rattle.cert_text.specs.declared.certificate.CertStatus.{CertStatus}
use Rattle.cert_text.specs.declared.certificate.CertStatus.TheVariants.{Optimal, Within, Hopeless}
use Rattle.cert_text.specs.declared.line.Line.{Line}
use Rattle.cert_text.specs.declared.line.Line.TheVariants.{Version, Status, Cost, Bound, Areas, Regions, Class, Region, Split, Fixed, Sum, Void, Row as RowLine, End}

abbrev pub status_word : CertStatus → List ℕ
status_word Optimal = codes "optimal"
status_word Within = codes "within"
status_word Hopeless = codes "none"

abbrev pub number_or_dash : Option ℤ → List ℕ
number_or_dash None = codes "-"
number_or_dash (Some n) = signed_decimal n

-- a border row is its link, side, class and multiplier; an escape row its multiplier, area and class, how many members its set has, and these
abbrev pub row_words : Row → ℤ → List (List ℕ)
row_words (Border link side class) m = codes "b" ∷ decimal link ∷ decimal side ∷ decimal class ∷ signed_decimal m ∷ []
row_words (Escape area class set) m = codes "e" ∷ signed_decimal m ∷ decimal area ∷ decimal class ∷ decimal (length set) ∷ map decimal set

-- the words of each line
abbrev pub words_of : Line → List (List ℕ)
words_of Version = codes "aggregation" ∷ codes "1" ∷ []
words_of (Status status) = codes "status" ∷ status_word status ∷ []
words_of (Cost cost) = codes "cost" ∷ number_or_dash cost ∷ []
words_of (Bound bound) = codes "bound" ∷ number_or_dash bound ∷ []
words_of (Areas count) = codes "areas" ∷ decimal count ∷ []
words_of (Regions count) = codes "regions" ∷ decimal count ∷ []
words_of (Class class) = codes "r" ∷ decimal class ∷ []
words_of (Region region) = codes "a" ∷ decimal region ∷ []
words_of (Split area class) = codes "s" ∷ decimal area ∷ decimal class ∷ []
words_of Fixed = codes "f" ∷ []
words_of (Sum denominator count) = codes "c" ∷ decimal denominator ∷ decimal count ∷ []
words_of (Void count) = codes "v" ∷ decimal count ∷ []
words_of (RowLine row m) = row_words row m
words_of End = codes "end" ∷ []

-- the text of a line, without its line feed
unfoldable pub line_text : Line → List ℕ
line_text line = text_of_words (words_of line)

-- links, sides, areas, classes and members are in range, and members rise strictly
abbrev pub IsRowInRange : Row → Type 0
IsRowInRange (Border link side class) = (link < LINKS) × (side < 2) × (class < CLASSES)
IsRowInRange (Escape area class set) = (area < AREAS) × (class < CLASSES) × All (λ s. s < AREAS) set × IsRising set

-- a multiplier is -(2^127 - 1) to 2^127 - 1
abbrev pub IsMultiplier : ℤ → Type 0
IsMultiplier m = unsigned_abs m < 2 ^ 127

-- the numbers of a line are in range
abbrev pub IsInRange : Line → Type 0
IsInRange Version = ⊤
IsInRange (Status status) = ⊤
IsInRange (Cost cost) = ForSome cost (FitsSigned w128)
IsInRange (Bound bound) = ForSome bound (FitsSigned w128)
IsInRange (Areas count) = count ≤ AREAS
IsInRange (Regions count) = count ≤ AREAS
IsInRange (Class class) = class < CLASSES
IsInRange (Region region) = region < AREAS
IsInRange (Split area class) = (area < AREAS) × (class < CLASSES)
IsInRange Fixed = ⊤
IsInRange (Sum denominator count) = (1 ≤ denominator) × (denominator ≤ DENOMINATOR) × (count ≤ MARKS)
IsInRange (Void count) = count ≤ MARKS
IsInRange (RowLine row m) = IsRowInRange row × IsMultiplier m
IsInRange End = ⊤
