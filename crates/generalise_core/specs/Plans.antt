-- What a run makes of its files before it stores or says anything.
use Rattle.std.specs.Prelude.{◌≡◌, ℕ, List, Result, Ok, Err, Option, ⊤}
use Rattle.agg_base.specs.declared.limits.TheConstants.{MAP_BYTES, TABLE_BYTES}
use Rattle.shelf_io.specs.Files.{Files}
use Rattle.shelf_io.specs.State.{ShelfState}
use Rattle.generalise_steps.specs.Refusals.{Refuses}
use Rattle.generalise_steps.specs.declared.map_format.Format.{Format}
use Rattle.cert_text.specs.CertTexts.{spelling}
use Rattle.generalise_core.specs.Texts.{text_of}
use Rattle.generalise_core.specs.Words.{Request}
use Rattle.generalise_core.specs.Certificates.{Outcome, report}
use Rattle.generalise_core.specs.Answers.{AnswersTexts}
use Rattle.generalise_core.specs.FileTexts.{AnswersFiles, IsText, IsTooLong}
use Rattle.generalise_core.specs.Runs.{MissesMap, MissesTable}
use Rattle.generalise_core.specs.States.{OnlyFetches}
use Rattle.generalise_core.specs.declared.plan.NoPlan.{NoPlan}
use Rattle.generalise_core.specs.declared.plan.NoPlan.TheVariants.{Stopped, Memory}
use Rattle.generalise_core.specs.declared.plan.Plan.{Plan}
use Rattle.generalise_core.specs.declared.stop.Stop.{Stop}
use Rattle.generalise_core.specs.declared.stop.Stop.TheVariants as stop

-- the plan's texts state this
pub record Writes (plan : Plan) (s : Outcome) : Type 0 where
  pub status : plan.status ≡ s.certificate.status
  pub certificate_is : plan.certificate.items ≡ spelling s.certificate
  pub report_is : plan.report.items ≡ report s
  pub map_is : text_of plan.map ≡ s.map

-- a plan states an answer to the texts with so many splits at most, and a refusal is that of the texts
abbrev pub PlansTexts : Format → List ℕ → List ℕ → ℕ → Result Plan NoPlan → Type 0
PlansTexts format map table n (Ok plan) = (s : Outcome) × AnswersTexts format map table n s × Writes plan s
PlansTexts format map table n (Err (Stopped (stop.Refused line))) = Refuses format map table line
PlansTexts format map table n (Err (Stopped stop.Usage)) = ⊥
PlansTexts format map table n (Err (Stopped stop.MapMissed)) = ⊥
PlansTexts format map table n (Err (Stopped stop.TableMissed)) = ⊥
PlansTexts format map table n (Err (Stopped stop.MapTooLong)) = ⊥
PlansTexts format map table n (Err (Stopped stop.TableTooLong)) = ⊥
PlansTexts format map table n (Err Memory) = ⊤

-- the plan states an answer to the files
pub record PlansFiles (files : Option Files) (r : Request) (plan : Plan) : Type 0 where
  pub stated : Outcome
  pub answers : AnswersFiles files r stated
  pub writes : Writes plan stated

-- Why nothing is stored, once the words spell a request. Unless a file was missed, the shelf is as it was.
abbrev pub StopsFiles : ShelfState → ShelfState → Request → Stop → Type 0
StopsFiles old new r stop.Usage = ⊥
StopsFiles old new r stop.MapMissed = MissesMap old new r
StopsFiles old new r stop.TableMissed = MissesTable old new r
StopsFiles old new r stop.MapTooLong = IsTooLong old.files r.map MAP_BYTES × (new ≡ old)
StopsFiles old new r stop.TableTooLong = (map : List ℕ) × IsText old.files r.map MAP_BYTES map × IsTooLong old.files r.table TABLE_BYTES × (new ≡ old)
StopsFiles old new r (stop.Refused line) =
    (map table : List ℕ) × IsText old.files r.map MAP_BYTES map × IsText old.files r.table TABLE_BYTES table × Refuses r.format map table line × (new ≡ old)

-- what is decided of the files, and that the shelf is as it was unless a file was missed
abbrev pub Decides : ShelfState → ShelfState → Request → Result Plan NoPlan → Type 0
Decides old new r (Ok plan) = PlansFiles old.files r plan × (new ≡ old)
Decides old new r (Err (Stopped why)) = StopsFiles old new r why × OnlyFetches old new
Decides old new r (Err Memory) = new ≡ old
