-- How a check ends, by the verdict or by why there is none.
use Rattle.std.proofs.Common.{◌≡◌, ◌≢◌, ◌⊎◌, inl, inr, ℕ, List, refl, sym, ◌∙◌, ap, subst}
use Rattle.shelf_io.specs.Files.{with_said, IsPartlySpoken}
use Rattle.shelf_io.specs.Causes.{HasRisen}
use Rattle.shelf_io.specs.State.{ShelfState}
use Rattle.cert_check.specs.declared.verdict.Verdict.{Verdict}
use Rattle.cert_check.specs.declared.verdict.Verdict.TheVariants as verdicts
use Rattle.check_steps.specs.Cases.{IsVerdictOn, IsValidCase, HoldsCase, line_on}
use Rattle.check_steps.specs.declared.judging.Judgement.{Judgement}
use Rattle.check_steps.proofs.CaseLemmas.{valid_verdict}
use Rattle.generalise_core.specs.Codes.{MayEndAs, MayFailAs}
use Rattle.generalise_core.specs.States.{with_line, OnlyFetches, OnlySays}
use Rattle.generalise_core.specs.Stops.{usage_line}
use Rattle.generalise_core.specs.Runs.{OnlyMisses}
use Rattle.generalise_core.specs.CheckWords.{CheckRequest, SpellsCheck}
use Rattle.generalise_core.specs.CheckLines.{line_of_stop, status_of_check_stop, status_of_verdict, missed_line}
use Rattle.generalise_core.specs.Checks.{Checking, IsCheckOf, IsCheckTo, IsCheckTold, RefusesCheck, RefusesCheckTold}
use Rattle.generalise_core.specs.CheckRuns.{Judges, SaysCheckRefusal, SaysCheckReadFault, MissesFile, IsCheckLine, usage, refusal, missed, judged, IsCheckHeard, StopsCheck, name_of}
use Rattle.generalise_core.specs.CheckSteps.{IsJudged}
use Rattle.generalise_core.specs.declared.check_stop.Source.{Source}
use Rattle.generalise_core.specs.declared.check_stop.CheckStop.{CheckStop}
use Rattle.generalise_core.specs.declared.check_stop.CheckStop.TheVariants.{Missed, TooLong, Refused as RefusedBy}
use Rattle.generalise_core.specs.declared.status.Status.{Status}
use Rattle.generalise_core.specs.declared.status.Status.TheVariants as status
use Rattle.generalise_core.proofs.RunLemmas.{ended, said_after}
use Rattle.generalise_core.proofs.CheckFiles.{told_valid, told_flawed, told_not_refused, judged_not_refused}

-- ---- statuses

-- a verdict is `Valid`, or it ends a run as a flaw
which_status : (v : Verdict) → (v ≡ verdicts.Valid) ⊎ (status_of_verdict v ≡ status.Invalid)
which_status verdicts.Valid = inl refl
which_status (verdicts.Areas due) = inr refl
which_status (verdicts.Range area) = inr refl
which_status (verdicts.ClassRange region) = inr refl
which_status verdicts.Frame = inr refl
which_status (verdicts.Regions drawn) = inr refl
which_status (verdicts.DrawnClass region) = inr refl
which_status (verdicts.DrawnEdges region edge) = inr refl
which_status (verdicts.Empty region) = inr refl
which_status (verdicts.Loose region) = inr refl
which_status (verdicts.NoOwn region) = inr refl
which_status (verdicts.TooSmall region) = inr refl
which_status (verdicts.Cost due) = inr refl
which_status (verdicts.Split node) = inr refl
which_status (verdicts.Denominator node) = inr refl
which_status (verdicts.Row node row) = inr refl
which_status (verdicts.Negative node row) = inr refl
which_status (verdicts.NotFixed node area) = inr refl
which_status (verdicts.NotVoid node total) = inr refl
which_status (verdicts.Wide node entry) = inr refl
which_status (verdicts.Bound due) = inr refl
which_status verdicts.Status = inr refl

done_apart : status.Done ≡ status.Invalid → ⊥
done_apart e = cc

-- what the run ends with, where it is neither a fault of putting nor want of memory
pub verdict_neither : (v : Verdict) → (status_of_verdict v ≢ status.WriteFault) × (status_of_verdict v ≢ status.Memory)
verdict_neither v = elim (which_status v) [
  | inl valid ↦ (λ e. apart (sym (ap status_of_verdict valid) ∙ e), λ e. apart_memory (sym (ap status_of_verdict valid) ∙ e))
  | inr flaw ↦ (λ e. flaw_apart (sym flaw ∙ e), λ e. flaw_memory (sym flaw ∙ e))
]
  where
    apart : status.Done ≡ status.WriteFault → ⊥
    apart e = cc

    apart_memory : status.Done ≡ status.Memory → ⊥
    apart_memory e = cc

    flaw_apart : status.Invalid ≡ status.WriteFault → ⊥
    flaw_apart e = cc

    flaw_memory : status.Invalid ≡ status.Memory → ⊥
    flaw_memory e = cc

pub stop_neither : (why : CheckStop) → (status_of_check_stop why ≢ status.WriteFault) × (status_of_check_stop why ≢ status.Memory)
stop_neither (Missed s) = (λ e. cc, λ e. cc)
stop_neither (TooLong s) = (λ e. cc, λ e. cc)
stop_neither (RefusedBy line) = (λ e. cc, λ e. cc)

-- ---- a run that judged

pub record Judged (old new : ShelfState) (words : List (List ℕ)) (result : Status) : Type 0 where
  pub checking : Checking
  pub verdict : Verdict
  pub check : IsCheckTo old.files words checking
  pub is : IsVerdictOn checking.judged verdict
  pub holds : verdict ≡ verdicts.Valid → HoldsCase checking.judged
  pub may : MayEndAs (status_of_verdict verdict) result
  pub heard : result ≡ status_of_verdict verdict → new ≡ with_line old (line_on checking.judged verdict)
  pub partly : IsPartlySpoken old.said new.said (line_on checking.judged verdict)

pub as_judged : (old between new : ShelfState) (words : List (List ℕ)) (q : CheckRequest) (j : Judgement) (line : List ℕ) (result : Status)
    → SpellsCheck words q → IsJudged old between q j → line ≡ j.line → MayEndAs (status_of_verdict j.verdict) result
    → (result ≡ status_of_verdict j.verdict → new ≡ with_line between line) → IsPartlySpoken between.said new.said line → Judged old new words result
as_judged old between new words q j line result spelled is e may heard partly = record {
  checking = is.checking;
  verdict = j.verdict;
  check = record { spelled = subst (SpellsCheck words) (sym is.request_is) spelled; check = is.check };
  is = is.verdict;
  holds = is.holds;
  may = may;
  heard = λ ends. subst (λ t. new ≡ with_line old t) (e ∙ is.line_is) (subst (λ s. new ≡ with_line s line) is.same (heard ends));
  partly = subst (IsPartlySpoken old.said new.said) (e ∙ is.line_is) (subst (λ s. IsPartlySpoken s.said new.said line) is.same partly);
}

-- the case of a judged check
case_valid : (old new : ShelfState) (words : List (List ℕ)) (result : Status) → (j : Judged old new words result) → j.verdict ≡ verdicts.Valid → IsValidCase j.checking.judged
case_valid old new words result j e =
    let k = j.checking in
    (valid_verdict k.request.format k.map k.table k.certificate k.out k.judged j.verdict j.check.check.spells j.is).0 e

valid_case : (old new : ShelfState) (words : List (List ℕ)) (result : Status) → (j : Judged old new words result) → IsValidCase j.checking.judged → j.verdict ≡ verdicts.Valid
valid_case old new words result j valid =
    let k = j.checking in
    (valid_verdict k.request.format k.map k.table k.certificate k.out k.judged j.verdict j.check.check.spells j.is).1 valid

pub done_valid : (old new : ShelfState) (words : List (List ℕ)) (result : Status) → Judged old new words result → result ≡ status.Done
    → Judges old new words (λ k v. (v ≡ verdicts.Valid) × IsValidCase k.judged × HoldsCase k.judged)
done_valid old new words result j e =
    let ends : status_of_verdict j.verdict ≡ status.Done = ended (status_of_verdict j.verdict) result status.Done j.may e (λ x. (cc)) (λ x. (cc)) in
    elim (which_status j.verdict) [
      | inl valid ↦ (j.checking, j.verdict, j.check, j.is, j.heard (e ∙ sym ends), (valid, case_valid old new words result j valid, j.holds valid))
      | inr flaw ↦ absurd (done_apart (sym ends ∙ flaw))
    ]

pub invalid_flawed : (old new : ShelfState) (words : List (List ℕ)) (result : Status) → Judged old new words result → result ≡ status.Invalid
    → Judges old new words (λ k v. (v ≢ verdicts.Valid) × (¬ IsValidCase k.judged))
invalid_flawed old new words result j e =
    let ends : status_of_verdict j.verdict ≡ status.Invalid = ended (status_of_verdict j.verdict) result status.Invalid j.may e (λ x. (cc)) (λ x. (cc)) in
    let never : j.verdict ≢ verdicts.Valid = λ valid. done_apart (sym (ap status_of_verdict valid) ∙ ends) in
    (j.checking, j.verdict, j.check, j.is, j.heard (e ∙ sym ends), (never, λ valid. never (valid_case old new words result j valid)))

pub judged_told_valid : (old new : ShelfState) (words : List (List ℕ)) (result : Status) → Judged old new words result
    → (k : Checking) → IsCheckTold old.files words k → IsValidCase k.judged → MayFailAs status.Done result
judged_told_valid old new words result j k told valid =
    inr (subst (λ v. MayEndAs (status_of_verdict v) result) (told_valid old.files words k j.checking j.verdict told j.check j.is valid) j.may)

pub judged_told_flawed : (old new : ShelfState) (words : List (List ℕ)) (result : Status) → Judged old new words result
    → (k : Checking) → IsCheckTold old.files words k → (¬ IsValidCase k.judged) → MayFailAs status.Invalid result
judged_told_flawed old new words result j k told flawed =
    elim (which_status j.verdict) [
      | inl valid ↦ absurd (told_flawed old.files words k j.checking j.verdict told j.check j.is flawed valid)
      | inr flaw ↦ inr (subst (λ s. MayEndAs s result) flaw j.may)
    ]

pub judged_either : (old new : ShelfState) (words : List (List ℕ)) (result : Status) → Judged old new words result → MayFailAs status.Done result ⊎ MayFailAs status.Invalid result
judged_either old new words result j =
    elim (which_status j.verdict) [
      | inl valid ↦ inl (inr (subst (λ v. MayEndAs (status_of_verdict v) result) valid j.may))
      | inr flaw ↦ inr (inr (subst (λ s. MayEndAs s result) flaw j.may))
    ]

pub judged_heard : (old new : ShelfState) (words : List (List ℕ)) (result : Status) → Judged old new words result → IsCheckHeard old new words
judged_heard old new words result j = inr (line_on j.checking.judged j.verdict, judged j.checking j.verdict j.check j.is, j.partly)

-- a judged run ends in no other way
pub judged_other : (old new : ShelfState) (words : List (List ℕ)) (result other : Status) → Judged old new words result → result ≡ other
    → other ≢ status.WriteFault → other ≢ status.Memory → other ≢ status.Done → other ≢ status.Invalid → ⊥
judged_other old new words result other j e fault memory done invalid =
    let ends : status_of_verdict j.verdict ≡ other = ended (status_of_verdict j.verdict) result other j.may e fault memory in
    elim (which_status j.verdict) [
      | inl valid ↦ done (sym ends ∙ ap status_of_verdict valid)
      | inr flaw ↦ invalid (sym ends ∙ flaw)
    ]

-- ---- a run that gives no verdict

still_misses : (old between new : ShelfState) (q : CheckRequest) (s : Source) → OnlySays between new → MissesFile old between q s → MissesFile old new q s
still_misses old between new q s says misses = record {
  rose = subst (HasRisen old.fetch_faults) (sym (ap (λ t. t.fetch_faults) says)) misses.rose;
  missed = ap (λ t. t.missed) says ∙ misses.missed;
  due = misses.due;
}

stop_line : (old between new : ShelfState) (words : List (List ℕ)) (q : CheckRequest) (why : CheckStop) → SpellsCheck words q → OnlySays between new
    → StopsCheck old between q why → IsCheckLine old new words (line_of_stop why)
stop_line old between new words q (Missed s) spelled says is = missed q s spelled (still_misses old between new q s says is)
stop_line old between new words q (TooLong s) spelled says is = refusal q (line_of_stop (TooLong s)) spelled is.0
stop_line old between new words q (RefusedBy line) spelled says is = refusal q line spelled is.0

pub stop_heard : (old between new : ShelfState) (words : List (List ℕ)) (q : CheckRequest) (why : CheckStop) → SpellsCheck words q → StopsCheck old between q why
    → OnlyFetches old between → OnlySays between new → IsPartlySpoken between.said new.said (line_of_stop why) → IsCheckHeard old new words
stop_heard old between new words q why spelled is fetches says part =
    inr (line_of_stop why, stop_line old between new words q why spelled says is, subst (λ b. IsPartlySpoken b new.said (line_of_stop why)) (ap (λ s. s.said) fetches) part)

stop_refused : (old between : ShelfState) (q : CheckRequest) (why : CheckStop) → StopsCheck old between q why → status_of_check_stop why ≡ status.Refused
    → RefusesCheck old.files q (line_of_stop why) × (between ≡ old)
stop_refused old between q (Missed s) is e = (cc)
stop_refused old between q (TooLong s) is e = is
stop_refused old between q (RefusedBy line) is e = is

pub stopped_refused : (old between new : ShelfState) (words : List (List ℕ)) (q : CheckRequest) (why : CheckStop) (result : Status) → SpellsCheck words q
    → StopsCheck old between q why → MayEndAs (status_of_check_stop why) result → (result ≡ status_of_check_stop why → new ≡ with_line between (line_of_stop why))
    → result ≡ status.Refused → SaysCheckRefusal old new words
stopped_refused old between new words q why result spelled is may heard e =
    let stops : status_of_check_stop why ≡ status.Refused = ended (status_of_check_stop why) result status.Refused may e (λ x. (cc)) (λ x. (cc)) in
    let refused = stop_refused old between q why is stops in
    record {
      request = q;
      line = line_of_stop why;
      spelled = spelled;
      refused = refused.0;
      heard = subst (λ s. new ≡ with_line s (line_of_stop why)) refused.1 (heard (e ∙ sym stops));
    }

pub stopped_missed : (old between new : ShelfState) (words : List (List ℕ)) (q : CheckRequest) (why : CheckStop) (result : Status) → SpellsCheck words q
    → StopsCheck old between q why → OnlyFetches old between → MayEndAs (status_of_check_stop why) result
    → (result ≡ status_of_check_stop why → new ≡ with_line between (line_of_stop why)) → result ≡ status.ReadFault → SaysCheckReadFault old new words
stopped_missed old between new words q why result spelled is fetches may heard e =
    let stops : status_of_check_stop why ≡ status.ReadFault = ended (status_of_check_stop why) result status.ReadFault may e (λ x. (cc)) (λ x. (cc)) in
    missed_by why is stops (said_after old between new (line_of_stop why) fetches (heard (e ∙ sym stops)))
  where
    missed_by : (why : CheckStop) → StopsCheck old between q why → status_of_check_stop why ≡ status.ReadFault
        → (new.said ≡ with_said old.said (line_of_stop why)) × (new.fetch_faults ≡ between.fetch_faults) × (new.missed ≡ between.missed) × OnlyMisses old new
        → SaysCheckReadFault old new words
    missed_by (Missed s) is e after = record {
      request = q;
      source = s;
      spelled = spelled;
      misses = record { rose = subst (HasRisen old.fetch_faults) (sym after.1) is.rose; missed = after.2 ∙ is.missed; due = is.due };
      said = after.0;
      same = after.3;
    }
    missed_by (TooLong s) is e after = (cc)
    missed_by (RefusedBy line) is e after = (cc)

-- told files that may be judged are stopped by a fetch alone
pub stop_told : (old between : ShelfState) (words : List (List ℕ)) (q : CheckRequest) (why : CheckStop) (k : Checking) (wanted result : Status) → SpellsCheck words q
    → StopsCheck old between q why → MayEndAs (status_of_check_stop why) result → IsCheckTold old.files words k → MayFailAs wanted result
stop_told old between words q (Missed s) k wanted result spelled is may told = elim may [ inl same ↦ inl same | inr other ↦ inr (inr other) ]
stop_told old between words q (TooLong s) k wanted result spelled is may told = absurd (told_not_refused old.files words k q (line_of_stop (TooLong s)) told spelled is.0)
stop_told old between words q (RefusedBy line) k wanted result spelled is may told = absurd (told_not_refused old.files words k q line told spelled is.0)

-- told files that are refused are stopped by a fetch, or by a line
pub stop_refusing : (why : CheckStop) (result : Status) → MayEndAs (status_of_check_stop why) result → MayFailAs status.Refused result
stop_refusing (Missed s) result may = elim may [ inl same ↦ inl same | inr other ↦ inr (inr other) ]
stop_refusing (TooLong s) result may = inr may
stop_refusing (RefusedBy line) result may = inr may

-- a stopped run ends in no other way
pub stop_other : (why : CheckStop) (result other : Status) → MayEndAs (status_of_check_stop why) result → result ≡ other → other ≢ status.WriteFault → other ≢ status.Memory
    → other ≢ status.ReadFault → other ≢ status.Refused → ⊥
stop_other why result other may e fault memory no_miss no_refusal =
    let ends : status_of_check_stop why ≡ other = ended (status_of_check_stop why) result other may e fault memory in
    apart why ends
  where
    apart : (why : CheckStop) → status_of_check_stop why ≡ other → ⊥
    apart (Missed s) ends = no_miss (sym ends)
    apart (TooLong s) ends = no_refusal (sym ends)
    apart (RefusedBy line) ends = no_refusal (sym ends)

pub usage_heard : (old new : ShelfState) (words : List (List ℕ)) → ((q : CheckRequest) → ¬ SpellsCheck words q) → IsPartlySpoken old.said new.said usage_line → IsCheckHeard old new words
usage_heard old new words never part = inr (usage_line, usage never, part)
