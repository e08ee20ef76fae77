-- What a run says and stores, of what it is due to.
use Rattle.std.proofs.Common.{◌≡◌, ◌≢◌, ◌⊎◌, inl, inr, ℕ, List, ◌∷◌, refl, sym, ◌∙◌, ap, subst}
use Rattle.shelf_io.specs.Files.{with_said, IsPartlySpoken}
use Rattle.shelf_io.specs.Causes.{HasRisen}
use Rattle.shelf_io.specs.State.{ShelfState}
use Rattle.generalise_core.specs.Words.{Request, Spells}
use Rattle.generalise_core.specs.Certificates.{Outcome, report}
use Rattle.generalise_core.specs.Texts.{text_of}
use Rattle.generalise_core.specs.Stops.{line_of, status_of_stop, usage_line}
use Rattle.generalise_core.specs.Puts.{all_stored, IsPartlyPut}
use Rattle.generalise_core.specs.States.{with_line, OnlyFetches, OnlySays}
use Rattle.generalise_core.specs.Runs.{map_due, dues, IsHeard, IsDueLine, usage, refusal, map_missed, table_missed, reported, MissesMap, MissesTable, OnlyMisses, KeepsPartly, SaysRefusal, SaysReadFault}
use Rattle.generalise_core.specs.Plans.{StopsFiles, PlansFiles, Writes}
use Rattle.generalise_core.specs.Codes.{status_of, MayEndAs, MayFailAs}
use Rattle.cert_text.specs.CertTexts.{spelling}
use Rattle.cert_text.specs.declared.certificate.CertStatus.{CertStatus}
use Rattle.cert_text.specs.declared.certificate.CertStatus.TheVariants.{Optimal}
use Rattle.cert_text.specs.declared.certificate.CertStatus.TheVariants as cert
use Rattle.generalise_core.specs.declared.plan.Plan.{Plan}
use Rattle.generalise_core.specs.declared.stop.Stop.{Stop}
use Rattle.generalise_core.specs.declared.stop.Stop.TheVariants as stop
use Rattle.generalise_core.specs.declared.status.Status.{Status}
use Rattle.generalise_core.specs.declared.status.Status.TheVariants as status
use Rattle.generalise_core.proofs.Exclusions.{stopped_refused}

-- ---- lines that are said

pub heard_usage : (old new : ShelfState) (words : List (List ℕ)) → ((r : Request) → ¬ Spells words r) → IsPartlySpoken old.said new.said usage_line → IsHeard old new words
heard_usage old new words never part = inr (usage_line, usage never, part)

-- to say a line changes neither the count of fetching nor the missed name
still_misses_map : (old between new : ShelfState) (r : Request) → OnlySays between new → MissesMap old between r → MissesMap old new r
still_misses_map old between new r says misses =
    (subst (HasRisen old.fetch_faults) (sym (ap (λ s. s.fetch_faults) says)) misses.0, ap (λ s. s.missed) says ∙ misses.1)

still_misses_table : (old between new : ShelfState) (r : Request) → OnlySays between new → MissesTable old between r → MissesTable old new r
still_misses_table old between new r says misses =
    (subst (HasRisen old.fetch_faults) (sym (ap (λ s. s.fetch_faults) says)) misses.0, ap (λ s. s.missed) says ∙ misses.1, misses.2)

-- the line of a run that is stopped is due
stopped_line : (old between new : ShelfState) (words : List (List ℕ)) (r : Request) (why : Stop)
    → Spells words r → OnlySays between new → StopsFiles old between r why → IsDueLine old new words (line_of why)
stopped_line old between new words r stop.Usage spelled says is = absurd is
stopped_line old between new words r stop.MapMissed spelled says is = map_missed r spelled (still_misses_map old between new r says is)
stopped_line old between new words r stop.TableMissed spelled says is = table_missed r spelled (still_misses_table old between new r says is)
stopped_line old between new words r stop.MapTooLong spelled says is = refusal r (line_of stop.MapTooLong) spelled (stopped_refused old between r stop.MapTooLong is refl).0
stopped_line old between new words r stop.TableTooLong spelled says is = refusal r (line_of stop.TableTooLong) spelled (stopped_refused old between r stop.TableTooLong is refl).0
stopped_line old between new words r (stop.Refused line) spelled says is = refusal r line spelled (stopped_refused old between r (stop.Refused line) is refl).0

pub heard_stop : (old between new : ShelfState) (words : List (List ℕ)) (r : Request) (why : Stop)
    → Spells words r → StopsFiles old between r why → OnlyFetches old between → OnlySays between new → IsPartlySpoken between.said new.said (line_of why)
    → IsHeard old new words
heard_stop old between new words r why spelled is fetches says part =
    inr (line_of why, stopped_line old between new words r why spelled says is, subst (λ b. IsPartlySpoken b new.said (line_of why)) (ap (λ s. s.said) fetches) part)

-- ---- what is due, by a plan and by the outcome that it states

pub due_is : (r : Request) (plan : Plan) (s : Outcome) → Writes plan s → (r.certificate, plan.certificate.items) ∷ map_due r.out (text_of plan.map) ≡ dues r s
due_is r plan s writes =
    ap (λ t. (r.certificate, t) ∷ map_due r.out (text_of plan.map)) writes.certificate_is
    ∙ ap (λ m. (r.certificate, spelling s.certificate) ∷ map_due r.out m) writes.map_is

pub heard_report : (old between new : ShelfState) (words : List (List ℕ)) (r : Request) (plan : Plan)
    → Spells words r → PlansFiles old.files r plan → between ≡ old
    → (new.said ≡ between.said)
    ⊎ (new.files ≡ all_stored between.files ((r.certificate, plan.certificate.items) ∷ map_due r.out (text_of plan.map))) × IsPartlySpoken between.said new.said plan.report.items
    → IsHeard old new words
heard_report old between new words r plan spelled plans same part =
    elim part [
      | inl none ↦ inl (none ∙ ap (λ s. s.said) same)
      | inr some ↦ inr (
        report plans.stated,
        reported r plans.stated spelled plans.answers
            (subst (λ due. new.files ≡ all_stored old.files due) (due_is r plan plans.stated plans.writes)
            (subst (λ s. new.files ≡ all_stored s.files ((r.certificate, plan.certificate.items) ∷ map_due r.out (text_of plan.map))) same some.0)),
        subst (λ t. IsPartlySpoken old.said new.said t) plans.writes.report_is (subst (λ s. IsPartlySpoken s.said new.said plan.report.items) same some.1),
      )
    ]

pub partly_kept : (old between new : ShelfState) (words : List (List ℕ)) (r : Request) (plan : Plan)
    → Spells words r → PlansFiles old.files r plan → between ≡ old
    → IsPartlyPut between.files new.files ((r.certificate, plan.certificate.items) ∷ map_due r.out (text_of plan.map)) → KeepsPartly old.files new.files words
partly_kept old between new words r plan spelled plans same part =
    inr (
      r,
      plans.stated,
      spelled,
      plans.answers,
      subst (IsPartlyPut old.files new.files) (due_is r plan plans.stated plans.writes)
          (subst (λ s. IsPartlyPut s.files new.files ((r.certificate, plan.certificate.items) ∷ map_due r.out (text_of plan.map))) same part),
    )

-- ---- statuses

pub ends_as : (kind wanted : CertStatus) (result : Status) → kind ≡ wanted → MayEndAs (status_of kind) result → MayFailAs (status_of wanted) result
ends_as kind wanted result e may = subst (λ k. MayFailAs (status_of k) result) e (inr may)

pub fails_as : (wanted ends result : Status) → ends ≡ status.ReadFault → MayEndAs ends result → MayFailAs wanted result
fails_as wanted ends result e may =
    elim may [ inl same ↦ inl (same ∙ e) | inr other ↦ inr (inr other) ]

pub fails_any : (ends result : Status) → ends ≡ status.ReadFault → MayEndAs ends result → (kind : CertStatus) × MayFailAs (status_of kind) result
fails_any ends result e may = (Optimal, fails_as (status_of Optimal) ends result e may)

-- what the run ends with is what stopped it, where that is neither a fault of putting nor out of memory
pub ended : (ends result wanted : Status) → MayEndAs ends result → result ≡ wanted → wanted ≢ status.WriteFault → wanted ≢ status.Memory → ends ≡ wanted
ended ends result wanted may e f g =
    elim may [
      | inl same ↦ sym same ∙ e
      | inr other ↦ elim other [ inl fault ↦ absurd (f (sym e ∙ fault)) | inr memory ↦ absurd (g (sym e ∙ memory)) ]
    ]

pub as_refused : (old between new : ShelfState) (r : Request) (words : List (List ℕ)) (why : Stop) (result : Status)
    → Spells words r → StopsFiles old between r why → MayEndAs (status_of_stop why) result
    → (result ≡ status_of_stop why → new ≡ with_line between (line_of why)) → result ≡ status.Refused
    → SaysRefusal old new words
as_refused old between new r words why result spelled is may heard e =
    let stops : status_of_stop why ≡ status.Refused = ended (status_of_stop why) result status.Refused may e (λ x. (cc)) (λ x. (cc)) in
    let refused = stopped_refused old between r why is stops in
    record {
      request = r;
      line = line_of why;
      spelled = spelled;
      refused = refused.0;
      heard = subst (λ s. new ≡ with_line s (line_of why)) refused.1 (heard (e ∙ sym stops));
    }

-- a line that is said after a fetch
pub said_after : (old between new : ShelfState) (line : List ℕ) → OnlyFetches old between → new ≡ with_line between line
    → (new.said ≡ with_said old.said line) × (new.fetch_faults ≡ between.fetch_faults) × (new.missed ≡ between.missed) × OnlyMisses old new
said_after old between new line fetches is = (
  ap (λ s. s.said) is ∙ ap (λ s. with_said s.said line) fetches,
  ap (λ s. s.fetch_faults) is,
  ap (λ s. s.missed) is,
  subst (λ n. n ≡ record old { said = n.said; fetch_faults = n.fetch_faults; missed = n.missed }) (sym is)
      (subst (λ b. with_line b line ≡ record old { said = with_said b.said line; fetch_faults = b.fetch_faults; missed = b.missed }) (sym fetches) refl),
)

pub as_missed : (old between new : ShelfState) (r : Request) (words : List (List ℕ)) (why : Stop) (result : Status)
    → Spells words r → StopsFiles old between r why → OnlyFetches old between → MayEndAs (status_of_stop why) result
    → (result ≡ status_of_stop why → new ≡ with_line between (line_of why)) → result ≡ status.ReadFault
    → SaysReadFault old new words
as_missed old between new r words why result spelled is fetches may heard e =
    let stops : status_of_stop why ≡ status.ReadFault = ended (status_of_stop why) result status.ReadFault may e (λ x. (cc)) (λ x. (cc)) in
    missed_by old between new r words why spelled is stops (said_after old between new (line_of why) fetches (heard (e ∙ sym stops)))
  where
    missed_by : (old between new : ShelfState) (r : Request) (words : List (List ℕ)) (why : Stop) → Spells words r → StopsFiles old between r why
        → status_of_stop why ≡ status.ReadFault
        → (new.said ≡ with_said old.said (line_of why)) × (new.fetch_faults ≡ between.fetch_faults) × (new.missed ≡ between.missed) × OnlyMisses old new
        → SaysReadFault old new words
    missed_by old between new r words stop.Usage spelled is e after = absurd is
    missed_by old between new r words stop.MapMissed spelled is e after =
        record { request = r; spelled = spelled; which = inl ((subst (HasRisen old.fetch_faults) (sym after.1) is.0, after.2 ∙ is.1), after.0); same = after.3 }
    missed_by old between new r words stop.TableMissed spelled is e after =
        record { request = r; spelled = spelled; which = inr ((subst (HasRisen old.fetch_faults) (sym after.1) is.0, after.2 ∙ is.1, is.2), after.0); same = after.3 }
    missed_by old between new r words stop.MapTooLong spelled is e after = (cc)
    missed_by old between new r words stop.TableTooLong spelled is e after = (cc)
    missed_by old between new r words (stop.Refused line) spelled is e after = (cc)

-- ---- no verdict

-- a run that is to end otherwise does not end as a check that found a flaw
pub never_invalid : (ends result : Status) → ends ≢ status.Invalid → MayEndAs ends result → result ≢ status.Invalid
never_invalid ends result other may e =
    elim may [
      | inl same ↦ other (sym same ∙ e)
      | inr more ↦ elim more [ inl fault ↦ apart_fault (sym fault ∙ e) | inr memory ↦ apart_memory (sym memory ∙ e) ]
    ]
  where
    apart_fault : status.WriteFault ≡ status.Invalid → ⊥
    apart_fault e = cc

    apart_memory : status.Memory ≡ status.Invalid → ⊥
    apart_memory e = cc

pub answer_never : (s : CertStatus) → status_of s ≢ status.Invalid
answer_never Optimal e = cc
answer_never cert.Within e = cc
answer_never cert.Hopeless e = cc

pub stop_never : (why : Stop) → status_of_stop why ≢ status.Invalid
stop_never stop.Usage e = cc
stop_never stop.MapMissed e = cc
stop_never stop.TableMissed e = cc
stop_never stop.MapTooLong e = cc
stop_never stop.TableTooLong e = cc
stop_never (stop.Refused line) e = cc
