-- The forms of the command line.
use Rattle.std.specs.Prelude.{◌≡◌, ◌≢◌, ◌<◌, ◌≤◌, ◌⊎◌, ℕ, List, [], ◌∷◌, ◌++◌, Option, Some, None, length, codes, slice_index}
use Rattle.std.specs.Str.Parse.{AllDigits, digits_value}
use Rattle.agg_base.specs.declared.limits.TheConstants.{SPLITS}
use Rattle.generalise_steps.specs.declared.map_format.Format.{Format}
use Rattle.generalise_steps.specs.declared.map_format.Format.TheVariants.{Grid, TopoJson, GeoJson}
use Rattle.generalise_core.specs.declared.setting.Setting.{Setting}
use Rattle.generalise_core.specs.declared.setting.Setting.TheVariants.{Splits, Class, Object}
use Rattle.generalise_core.specs.declared.most_splits.TheConstants.{DEFAULT_SPLITS}

-- what the words ask for: the format of the map, the four files, and how many splits there may be at most
pub record Request : Type 0 where
  pub format : Format
  pub map : List ℕ
  pub table : List ℕ
  pub out : List ℕ
  pub certificate : List ℕ
  pub splits : ℕ

-- an operand or a value is not empty, and does not begin with a minus
pub record IsName (name : List ℕ) : Type 0 where
  pub not_empty : 0 < length name
  pub no_minus : slice_index name 0 ≢ 45

-- no two of the names are equal
pub record AreDifferent (a b c d : List ℕ) : Type 0 where
  pub first_second : a ≢ b
  pub first_third : a ≢ c
  pub first_fourth : a ≢ d
  pub second_third : b ≢ c
  pub second_fourth : b ≢ d
  pub third_fourth : c ≢ d

-- what words say: the operands in their order, and the value of each option where it stands
pub record Draft : Type 0 where
  pub operands : List (List ℕ)
  pub splits : Option (List ℕ)
  pub class : Option (List ℕ)
  pub object : Option (List ℕ)

abbrev pub empty_draft : Draft
empty_draft = record { operands = []; splits = None; class = None; object = None }

abbrev pub with_operand : Draft → List ℕ → Draft
with_operand had word = record had { operands = had.operands ++ word ∷ [] }

-- the word of an option
abbrev pub word_of : Setting → List ℕ
word_of Splits = codes "--splits"
word_of Class = codes "--class"
word_of Object = codes "--object"

-- the value of an option, where it stands
abbrev pub value_in : Draft → Setting → Option (List ℕ)
value_in had Splits = had.splits
value_in had Class = had.class
value_in had Object = had.object

abbrev pub with_value : Draft → Setting → List ℕ → Draft
with_value had Splits value = record had { splits = Some value }
with_value had Class value = record had { class = Some value }
with_value had Object value = record had { object = Some value }

-- the word is that of an option that stands first here, and the next may be its value
pub record TakesValue (had : Draft) (word next : List ℕ) (setting : Setting) : Type 0 where
  pub word_is : word ≡ word_of setting
  pub value_is : IsName next
  pub first : value_in had setting ≡ None

-- The words say that much more: each is an operand, or it is an option with its value behind it, and each option stands once at most.
abbrev pub Says : Draft → List (List ℕ) → Draft → Type 0
Says had [] all = had ≡ all
Says had (word ∷ []) all = IsName word × (with_operand had word ≡ all)
Says had (word ∷ next ∷ more) all =
    (IsName word × Says (with_operand had word) (next ∷ more) all)
    ⊎ ((setting : Setting) × TakesValue had word next setting × Says (with_value had setting next) more all)

-- One to seven decimal digits, zeros in front or not, spell the number, and a tree may have that many splits.
pub record SpellsSplits (digits : List ℕ) (n : ℕ) : Type 0 where
  pub some : 1 ≤ length digits
  pub few : length digits ≤ 7
  pub all : AllDigits 10 digits
  pub value : digits_value 10 digits ≡ n
  pub within : n ≤ SPLITS

-- how many splits there may be, by the value of `--splits` where it stands
abbrev pub SaysSplits : Option (List ℕ) → ℕ → Type 0
SaysSplits None n = n ≡ DEFAULT_SPLITS
SaysSplits (Some digits) n = SpellsSplits digits n

-- the name of the property that has the class text
abbrev pub class_name : Option (List ℕ) → List ℕ
class_name None = codes "class"
class_name (Some name) = name

-- The format that its word says, with the values of `--class` and `--object`. A grid takes neither, and GeoJSON no object.
abbrev pub SaysFormat : List ℕ → Option (List ℕ) → Option (List ℕ) → Format → Type 0
SaysFormat word class object Grid = (word ≡ codes "grid") × (class ≡ None) × (object ≡ None)
SaysFormat word class object (TopoJson pick) = (word ≡ codes "topojson") × (pick.class ≡ class_name class) × (pick.object ≡ object)
SaysFormat word class object (GeoJson name) = (word ≡ codes "geojson") × (name ≡ class_name class) × (object ≡ None)

-- the operands are the word of the format and four different files
pub record SaysNames (draft : Draft) (word map table out certificate : List ℕ) : Type 0 where
  pub operands_are : draft.operands ≡ word ∷ map ∷ table ∷ out ∷ certificate ∷ []
  pub differ : AreDifferent map table out certificate

-- The format, the four files and how many splits there may be are said, with no option that the format lacks.
pub record IsForm (draft : Draft) (r : Request) : Type 0 where
  pub word : List ℕ
  pub names : SaysNames draft word r.map r.table r.out r.certificate
  pub format : SaysFormat word draft.class draft.object r.format
  pub splits : SaysSplits draft.splits r.splits

-- The words spell the request: the command, and behind it the operands, with the options anywhere among them.
pub record Spells (words : List (List ℕ)) (r : Request) : Type 0 where
  pub rest : List (List ℕ)
  pub draft : Draft
  pub command : words ≡ codes "generalise" ∷ rest
  pub says : Says empty_draft rest draft
  pub form : IsForm draft r
