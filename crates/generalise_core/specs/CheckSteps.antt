-- What the steps of a check give.
use Rattle.std.specs.Prelude.{◌≡◌, ℕ, List, Option, IfSome, not, is_some}
use Rattle.agg_base.specs.declared.limits.TheConstants.{OUT_BYTES}
use Rattle.plane_edge.specs.declared.coverage.Coverage.{Coverage}
use Rattle.shelf_io.specs.Files.{Files}
use Rattle.shelf_io.specs.Causes.{HasRisen}
use Rattle.shelf_io.specs.State.{ShelfState}
use Rattle.cert_text.specs.CertTexts.{Spells, is_hopeless}
use Rattle.cert_text.specs.declared.certificate.Certificate.{Certificate}
use Rattle.cert_text.specs.declared.certificate.CertStatus.{CertStatus}
use Rattle.cert_check.specs.declared.verdict.Verdict.TheVariants.{Valid}
use Rattle.generalise_steps.specs.Loads.{Loads}
use Rattle.generalise_steps.specs.Refusals.{Refuses}
use Rattle.generalise_steps.specs.declared.map_format.Format.{Format}
use Rattle.generalise_steps.specs.declared.loading.Loaded.{Loaded}
use Rattle.check_steps.specs.CertificateTexts.{RefusesCertificate}
use Rattle.check_steps.specs.DrawnTexts.{RefusesDrawn}
use Rattle.check_steps.specs.Cases.{SpellsOut, IsVerdictOn, HoldsCase, line_on}
use Rattle.check_steps.specs.declared.judging.Judgement.{Judgement}
use Rattle.generalise_core.specs.FileTexts.{IsText, IsTooLong}
use Rattle.generalise_core.specs.States.{OnlyFetches}
use Rattle.generalise_core.specs.CheckWords.{CheckRequest}
use Rattle.generalise_core.specs.Checks.{Checking, IsCheckOf}
use Rattle.generalise_core.specs.declared.check_stop.Source.{Source}
use Rattle.generalise_core.specs.declared.check_stop.Source.TheVariants.{Out}
use Rattle.generalise_core.specs.declared.check_stop.CheckStop.TheVariants.{Missed, TooLong, Refused}
use Rattle.generalise_core.specs.declared.check_stop.NoVerdict.{NoVerdict}
use Rattle.generalise_core.specs.declared.check_stop.NoVerdict.TheVariants.{Stopped, Memory}

-- why a fetch of that file gives no bytes
abbrev pub IsUnfetched : ShelfState → ShelfState → Source → List ℕ → ℕ → NoVerdict → Type 0
IsUnfetched old new source name limit (Stopped (Missed s)) = (s ≡ source) × HasRisen old.fetch_faults new.fetch_faults × (new.missed ≡ name) × OnlyFetches old new
IsUnfetched old new source name limit (Stopped (TooLong s)) = (s ≡ source) × IsTooLong old.files name limit × (new ≡ old)
IsUnfetched old new source name limit (Stopped (Refused line)) = ⊥
IsUnfetched old new source name limit Memory = new ≡ old

-- the line that refuses texts, unless memory ran out
abbrev pub IsRefusedBy : (List ℕ → Type 0) → NoVerdict → Type 0
IsRefusedBy Refuses (Stopped (Missed s)) = ⊥
IsRefusedBy Refuses (Stopped (TooLong s)) = ⊥
IsRefusedBy Refuses (Stopped (Refused line)) = Refuses line
IsRefusedBy Refuses Memory = Unit {0}

-- the first step that refuses the first three texts
pub data RefusesTexts (format : Format) (map table certificate line : List ℕ) : Type 0 where
  files : Refuses format map table line → RefusesTexts format map table certificate line
  certificate_text : (l : Loaded) → Loads format map table l.checked l.table l.problem → RefusesCertificate certificate line → RefusesTexts format map table certificate line

-- the drawn map was read where the certificate has a grouping, and the shelf is as it was
pub record IsDrawnRead (old new : ShelfState) (name : List ℕ) (status : CertStatus) (drawn : Option Coverage) : Type 0 where
  pub out : Option (List ℕ)
  pub is_read : is_some out ≡ not (is_hopeless status)
  pub out_is : IfSome out (λ text. IsText old.files name OUT_BYTES text)
  pub spelled : SpellsOut out drawn
  pub same : new ≡ old

-- why it was not: it was not fetched, or its text is refused
abbrev pub IsUndrawn : ShelfState → ShelfState → List ℕ → NoVerdict → Type 0
IsUndrawn old new name (Stopped (Refused line)) = (text : List ℕ) × IsText old.files name OUT_BYTES text × RefusesDrawn text line × (new ≡ old)
IsUndrawn old new name (Stopped (Missed s)) = IsUnfetched old new Out name OUT_BYTES (Stopped (Missed s))
IsUndrawn old new name (Stopped (TooLong s)) = IsUnfetched old new Out name OUT_BYTES (Stopped (TooLong s))
IsUndrawn old new name Memory = new ≡ old

-- the files of the request are judged, and the shelf is as it was
pub record IsJudged (old new : ShelfState) (q : CheckRequest) (j : Judgement) : Type 0 where
  pub checking : Checking
  pub request_is : checking.request ≡ q
  pub check : IsCheckOf old.files checking
  pub verdict : IsVerdictOn checking.judged j.verdict
  pub line_is : j.line ≡ line_on checking.judged j.verdict
  pub holds : j.verdict ≡ Valid → HoldsCase checking.judged
  pub same : new ≡ old
