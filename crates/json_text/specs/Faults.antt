-- The faults of bytes that are no text of JSON. Byte 34 is the quote, 92 the backslash, 91 and 93 are brackets, and 123 and 125 braces.
use Rattle.std.specs.Prelude.{◌≡◌, ◌==◌, ◌||◌, ◌⊎◌, ◌≤◌, ◌<◌, ◌+◌, ◌-◌, if◌then◌else◌, ℕ, List, [], ◌∷◌, ◌++◌, length, take}
use Rattle.json_text.specs.Tree.{Json}
use Rattle.json_text.specs.Spelling.{Spells}
use Rattle.json_text.specs.declared.fault.JsonFault.{JsonFault}
use Rattle.json_text.specs.declared.fault.JsonFault.TheVariants.{Syntax, TooDeep, Memory}

-- Some text of JSON begins with these bytes, however deep it nests.
pub record IsGoodPrefix (front : List ℕ) : Type 0 where
  pub rest : List ℕ
  pub tree : Json
  pub spelled : Spells (front ++ rest) tree

-- Where a byte stands: between quotes, there behind a backslash, or outside of quotes.
pub data Place : Type 0 where
  Outside : Place
  Quoted : Place
  Escaped : Place

-- how many brackets and braces are open behind the bytes, with so many open before them
abbrev pub nesting_from : Place → ℕ → List ℕ → ℕ
nesting_from place open_before [] = open_before
nesting_from Outside open_before (byte ∷ bytes) =
    if byte == 34 then nesting_from Quoted open_before bytes
    else (if (byte == 91) || (byte == 123) then nesting_from Outside (open_before + 1) bytes
    else (if (byte == 93) || (byte == 125) then nesting_from Outside (open_before - 1) bytes
    else nesting_from Outside open_before bytes))
nesting_from Quoted open_before (byte ∷ bytes) =
    if byte == 34 then nesting_from Outside open_before bytes
    else (if byte == 92 then nesting_from Escaped open_before bytes
    else nesting_from Quoted open_before bytes)
nesting_from Escaped open_before (byte ∷ bytes) = nesting_from Quoted open_before bytes

-- how many brackets and braces are open behind the bytes
abbrev pub nesting : List ℕ → ℕ
nesting bytes = nesting_from Outside 0 bytes

-- none of the first so many bytes nests deeper than 64
abbrev pub IsShallow : List ℕ → ℕ → Type 0
IsShallow bytes count = (k : ℕ) → k ≤ count → nesting (take k bytes) ≤ 64

-- The bytes are no text of JSON; the first so many of them begin one, and no more do. None of these nests too deep.
pub record IsSyntaxFault (bytes : List ℕ) (at : ℕ) : Type 0 where
  pub no_tree : (tree : Json) → ¬ (Spells bytes tree)
  pub within : at ≤ length bytes
  pub begins : IsGoodPrefix (take at bytes)
  pub longest : (k : ℕ) → at < k → k ≤ length bytes → ¬ (IsGoodPrefix (take k bytes))
  pub shallow : IsShallow bytes at

-- The bytes up to that place and the one there begin a text of JSON, and it is the first that nests 65 deep.
pub record IsDepthFault (bytes : List ℕ) (at : ℕ) : Type 0 where
  pub within : at < length bytes
  pub begins : IsGoodPrefix (take (at + 1) bytes)
  pub deep : nesting (take (at + 1) bytes) ≡ 65
  pub first : IsShallow bytes at

-- the fault is that of the bytes
abbrev pub IsFirstFault : List ℕ → JsonFault → Type 0
IsFirstFault bytes (Syntax at) = IsSyntaxFault bytes at
IsFirstFault bytes (TooDeep at) = IsDepthFault bytes at
IsFirstFault bytes Memory = ⊥

-- the fault is that of the bytes, or memory ran out
abbrev pub IsFaultOf : List ℕ → JsonFault → Type 0
IsFaultOf bytes (Syntax at) = IsSyntaxFault bytes at
IsFaultOf bytes (TooDeep at) = IsDepthFault bytes at
IsFaultOf bytes Memory = Unit {0}

-- The bytes spell the value, and none nests deeper than 64.
pub record IsTextOf (bytes : List ℕ) (tree : Json) : Type 0 where
  pub spelled : Spells bytes tree
  pub shallow : IsShallow bytes (length bytes)

-- bytes spell one value at most, however deep they nest
abbrev pub OneTree : Type 0
OneTree = (bytes : List ℕ) (t u : Json) → Spells bytes t → Spells bytes u → t ≡ u

-- bytes have one fault at most
abbrev pub OneFault : Type 0
OneFault = (bytes : List ℕ) (f g : JsonFault) → IsFirstFault bytes f → IsFirstFault bytes g → f ≡ g

-- bytes that spell a value and nest no deeper than 64 have no fault
abbrev pub TreeWithoutFault : Type 0
TreeWithoutFault = (bytes : List ℕ) (t : Json) (f : JsonFault) → IsTextOf bytes t → ¬ IsFirstFault bytes f

-- all bytes spell a value and nest no deeper than 64, or have a fault
abbrev pub TreeOrFault : Type 0
TreeOrFault = (bytes : List ℕ) → ((t : Json) × IsTextOf bytes t) ⊎ ((f : JsonFault) × IsFirstFault bytes f)
