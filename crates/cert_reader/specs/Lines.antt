-- The lines of a certificate, as the reader names them, and their one text.
use Rattle.std.specs.Prelude.{⊤, ◌<◌, ◌≤◌, ℕ, List, [], ◌∷◌, codes, FitsSigned}
use Rattle.std.specs.Option.{ForSome}
use Rattle.std.specs.Int.{w128}
use Rattle.std.specs.Fmt.{decimal}
use Rattle.agg_base.specs.Texts.{text_of_words}
use Rattle.agg_base.specs.declared.limits.TheConstants.{AREAS, CLASSES, MARKS, DENOMINATOR}
use Rattle.cert_text.specs.Lines.{status_word, number_or_dash, row_words, IsRowInRange, IsMultiplier}
use Rattle.cert_reader.specs.declared.line.Line.{Line}
use Rattle.cert_reader.specs.declared.line.Line.TheVariants.{Version, Status, Cost, Bound, Areas, Regions, Class, Region, Split, Fixed, Sum, Void, Row, End}

-- the words of each line
abbrev pub words_of : Line → List (List ℕ)
words_of Version = codes "aggregation" ∷ codes "1" ∷ []
words_of (Status status) = codes "status" ∷ status_word status ∷ []
words_of (Cost cost) = codes "cost" ∷ number_or_dash cost ∷ []
words_of (Bound bound) = codes "bound" ∷ number_or_dash bound ∷ []
words_of (Areas count) = codes "areas" ∷ decimal count ∷ []
words_of (Regions count) = codes "regions" ∷ decimal count ∷ []
words_of (Class class) = codes "r" ∷ decimal class ∷ []
words_of (Region region) = codes "a" ∷ decimal region ∷ []
words_of (Split area class) = codes "s" ∷ decimal area ∷ decimal class ∷ []
words_of Fixed = codes "f" ∷ []
words_of (Sum denominator count) = codes "c" ∷ decimal denominator ∷ decimal count ∷ []
words_of (Void count) = codes "v" ∷ decimal count ∷ []
words_of (Row row m) = row_words row m
words_of End = codes "end" ∷ []

-- the text of a line, without its line feed
unfoldable pub line_text : Line → List ℕ
line_text line = text_of_words (words_of line)

-- the numbers of a line are in range
abbrev pub IsInRange : Line → Type 0
IsInRange Version = ⊤
IsInRange (Status status) = ⊤
IsInRange (Cost cost) = ForSome cost (FitsSigned w128)
IsInRange (Bound bound) = ForSome bound (FitsSigned w128)
IsInRange (Areas count) = count ≤ AREAS
IsInRange (Regions count) = count ≤ AREAS
IsInRange (Class class) = class < CLASSES
IsInRange (Region region) = region < AREAS
IsInRange (Split area class) = (area < AREAS) × (class < CLASSES)
IsInRange Fixed = ⊤
IsInRange (Sum denominator count) = (1 ≤ denominator) × (denominator ≤ DENOMINATOR) × (count ≤ MARKS)
IsInRange (Void count) = count ≤ MARKS
IsInRange (Row row m) = IsRowInRange row × IsMultiplier m
IsInRange End = ⊤
