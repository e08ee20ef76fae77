-- How a check ends, by what the words and the files say.
use Rattle.std.specs.Prelude.{◌≡◌, ◌⊎◌, ℕ, List}
use Rattle.agg_base.specs.declared.limits.TheConstants.{MAP_BYTES, TABLE_BYTES}
use Rattle.shelf_io.specs.Files.{with_said, IsPartlySpoken}
use Rattle.shelf_io.specs.Causes.{HasRisen}
use Rattle.shelf_io.specs.State.{ShelfState}
use Rattle.cert_text.specs.declared.certificate.Certificate.{Certificate}
use Rattle.cert_check.specs.declared.verdict.Verdict.{Verdict}
use Rattle.check_steps.specs.Cases.{IsVerdictOn, line_on}
use Rattle.generalise_core.specs.FileTexts.{IsText}
use Rattle.generalise_core.specs.Stops.{usage_line}
use Rattle.generalise_core.specs.States.{with_line, OnlyFetches}
use Rattle.generalise_core.specs.Runs.{OnlyMisses}
use Rattle.generalise_core.specs.CheckWords.{CheckRequest, SpellsCheck}
use Rattle.generalise_core.specs.CheckLines.{missed_line, long_line}
use Rattle.generalise_core.specs.Checks.{Checking, IsCheckTo, IsDrawnDue, RefusesCheck}
use Rattle.generalise_core.specs.declared.check_stop.Source.{Source}
use Rattle.generalise_core.specs.declared.check_stop.Source.TheVariants.{Map, Table, Certificate as CertificateFile, Out}
use Rattle.generalise_core.specs.declared.check_stop.CheckStop.{CheckStop}
use Rattle.generalise_core.specs.declared.check_stop.CheckStop.TheVariants.{Missed, TooLong, Refused}
use Rattle.generalise_core.specs.declared.check_stop.NoVerdict.{NoVerdict}
use Rattle.generalise_core.specs.declared.check_stop.NoVerdict.TheVariants.{Stopped, Memory}

-- the words spell a check whose files are judged by that verdict, only its line was said, and that holds of both
abbrev pub Judges : ShelfState → ShelfState → List (List ℕ) → (Checking → Verdict → Type 0) → Type 0
Judges old new words Holds =
    (k : Checking) × (v : Verdict) × IsCheckTo old.files words k × IsVerdictOn k.judged v × (new ≡ with_line old (line_on k.judged v)) × Holds k v

-- the words spell a check whose files are refused by a line, and only the line was said
pub record SaysCheckRefusal (old new : ShelfState) (words : List (List ℕ)) : Type 0 where
  pub request : CheckRequest
  pub line : List ℕ
  pub spelled : SpellsCheck words request
  pub refused : RefusesCheck old.files request line
  pub heard : new ≡ with_line old line

-- what an earlier step needs is there, so that the file is due to be fetched
abbrev pub IsDue : ShelfState → CheckRequest → Source → Type 0
IsDue old q Map = Unit {0}
IsDue old q Table = (map : List ℕ) × IsText old.files q.map MAP_BYTES map
IsDue old q CertificateFile = (map table : List ℕ) × IsText old.files q.map MAP_BYTES map × IsText old.files q.table TABLE_BYTES table
IsDue old q Out = (s : Certificate) × IsDrawnDue old.files q s

abbrev pub name_of : CheckRequest → Source → List ℕ
name_of q Map = q.map
name_of q Table = q.table
name_of q CertificateFile = q.certificate
name_of q Out = q.out

-- a fetch of this run failed, so the count has risen, and this file was missed, which was due
pub record MissesFile (old new : ShelfState) (q : CheckRequest) (source : Source) : Type 0 where
  pub rose : HasRisen old.fetch_faults new.fetch_faults
  pub missed : new.missed ≡ name_of q source
  pub due : IsDue old q source

-- a file was missed, and only the line that tells which was said
pub record SaysCheckReadFault (old new : ShelfState) (words : List (List ℕ)) : Type 0 where
  pub request : CheckRequest
  pub source : Source
  pub spelled : SpellsCheck words request
  pub misses : MissesFile old new request source
  pub said : new.said ≡ with_said old.said (missed_line source)
  pub same : OnlyMisses old new

-- the line that a check is due to say
pub data IsCheckLine (old new : ShelfState) (words : List (List ℕ)) : List ℕ → Type 0 where
  usage : ((q : CheckRequest) → ¬ SpellsCheck words q) → IsCheckLine old new words usage_line
  refusal : (q : CheckRequest) (line : List ℕ) → SpellsCheck words q → RefusesCheck old.files q line → IsCheckLine old new words line
  missed : (q : CheckRequest) (source : Source) → SpellsCheck words q → MissesFile old new q source → IsCheckLine old new words (missed_line source)
  judged : (k : Checking) (v : Verdict) → IsCheckTo old.files words k → IsVerdictOn k.judged v → IsCheckLine old new words (line_on k.judged v)

-- what was said is a prefix of the due line or all of it
abbrev pub IsCheckHeard : ShelfState → ShelfState → List (List ℕ) → Type 0
IsCheckHeard old new words = (new.said ≡ old.said) ⊎ ((line : List ℕ) × IsCheckLine old new words line × IsPartlySpoken old.said new.said line)

-- ---- why there is no verdict

-- Unless a file was missed, the shelf is as it was.
abbrev pub StopsCheck : ShelfState → ShelfState → CheckRequest → CheckStop → Type 0
StopsCheck old new q (Missed source) = MissesFile old new q source
StopsCheck old new q (TooLong source) = RefusesCheck old.files q (long_line source) × (new ≡ old)
StopsCheck old new q (Refused line) = RefusesCheck old.files q line × (new ≡ old)

abbrev pub GivesNone : ShelfState → ShelfState → CheckRequest → NoVerdict → Type 0
GivesNone old new q (Stopped why) = StopsCheck old new q why × OnlyFetches old new
GivesNone old new q Memory = new ≡ old
