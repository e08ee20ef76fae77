-- From what the steps of a check give to what the check gives.
use Rattle.std.proofs.Common.{◌≡◌, ℕ, List, Option, Some, None, Result, Err, true, false, refl, sym, ◌∙◌, ap, subst}
use Rattle.std.specs.Prelude.{IfSome, not}
use Rattle.agg_base.specs.declared.limits.TheConstants.{OUT_BYTES}
use Rattle.plane_edge.specs.declared.coverage.Coverage.{Coverage}
use Rattle.topo_reader.specs.Outcomes.{layer_of}
use Rattle.shelf_io.specs.Files.{Files}
use Rattle.shelf_io.specs.State.{ShelfState}
use Rattle.cert_text.specs.CertTexts.{Spells, is_hopeless}
use Rattle.cert_text.specs.declared.certificate.Certificate.{Certificate}
use Rattle.cert_text.specs.declared.certificate.CertStatus.{CertStatus}
use Rattle.cert_check.specs.declared.verdict.Verdict.TheVariants.{Valid}
use Rattle.generalise_steps.specs.Loads.{Loads}
use Rattle.generalise_steps.specs.Refusals.{Refuses}
use Rattle.generalise_steps.specs.declared.map_format.Format.{Format}
use Rattle.generalise_steps.specs.declared.halt.Halt.{Halt}
use Rattle.generalise_steps.specs.declared.halt.Halt.TheVariants as halt
use Rattle.generalise_steps.specs.declared.loading.Loaded.{Loaded}
use Rattle.generalise_steps.specs.Halts.{IfRefused}
use Rattle.check_steps.specs.CertificateTexts.{RefusesCertificate}
use Rattle.check_steps.specs.DrawnTexts.{SpellsDrawn, RefusesDrawn}
use Rattle.check_steps.specs.Cases.{SpellsOut, SpellsCase, IsVerdictOn, HoldsCase, line_on}
use Rattle.check_steps.specs.Judgements.{case_of}
use Rattle.check_steps.specs.declared.judging.Judgement.{Judgement}
use Rattle.generalise_core.specs.FileTexts.{IsText, IsTooLong}
use Rattle.generalise_core.specs.States.{OnlyFetches}
use Rattle.generalise_core.specs.CheckWords.{CheckRequest}
use Rattle.generalise_core.specs.CheckHalts.{none_of}
use Rattle.generalise_core.specs.CheckLines.{long_line}
use Rattle.generalise_core.specs.Checks.{AreFetched, Checking, IsCheckOf, IsDrawnDue, RefusesCheck, texts, certificate_text, long_out, out_text}
use Rattle.generalise_core.specs.CheckRuns.{MissesFile, IsDue, GivesNone, name_of}
use Rattle.generalise_core.specs.CheckSteps.{IsUnfetched, IsRefusedBy, RefusesTexts, IsDrawnRead, IsUndrawn, IsJudged}
use Rattle.generalise_core.specs.CheckSteps as steps
use Rattle.generalise_core.specs.declared.check_stop.Source.{Source}
use Rattle.generalise_core.specs.declared.check_stop.Source.TheVariants as source
use Rattle.generalise_core.specs.declared.check_stop.CheckStop.TheVariants.{Missed, TooLong, Refused}
use Rattle.generalise_core.specs.declared.check_stop.NoVerdict.{NoVerdict}
use Rattle.generalise_core.specs.declared.check_stop.NoVerdict.TheVariants.{Stopped, Memory}
use Rattle.generalise_core.proofs.Decisions.{unchanged}

-- ---- fetches

-- a file that was not fetched, by a shelf that was still the same
pub unfetched : (old later new : ShelfState) (q : CheckRequest) (file : Source) (limit : ℕ) (n : NoVerdict) → later ≡ old
    → IsUnfetched later new file (name_of q file) limit n → IsDue old q file → (IsTooLong old.files (name_of q file) limit → RefusesCheck old.files q (long_line file))
    → GivesNone old new q n
unfetched old later new q file limit (Stopped (Missed s)) same h due refuse =
    let here : IsUnfetched old new file (name_of q file) limit (Stopped (Missed s)) = subst (λ t. IsUnfetched t new file (name_of q file) limit (Stopped (Missed s))) same h in
    (subst (MissesFile old new q) (sym here.0) (record { rose = here.1; missed = here.2; due = due }), here.3)
unfetched old later new q file limit (Stopped (TooLong s)) same h due refuse =
    let here : IsUnfetched old new file (name_of q file) limit (Stopped (TooLong s)) = subst (λ t. IsUnfetched t new file (name_of q file) limit (Stopped (TooLong s))) same h in
    ((subst (λ t. RefusesCheck old.files q (long_line t)) (sym here.0) (refuse here.1), here.2), unchanged old new here.2)
unfetched old later new q file limit (Stopped (Refused line)) same h due refuse = absurd h
unfetched old later new q file limit Memory same h due refuse = h ∙ same

-- ---- texts

pub refused_by : (h : Halt) (Refuses : List ℕ → Type 0) → IfRefused h Refuses → IsRefusedBy Refuses (none_of h)
refused_by (halt.Refused line) Refuses is = is
refused_by halt.Memory Refuses is = tt

-- a map and a table that are refused
pub load_refused : (format : Format) (map table certificate : List ℕ) (r : Result Loaded Halt) (h : Halt) → r ≡ Err h → ((line : List ℕ) → r ≡ Err (halt.Refused line) → Refuses format map table line)
    → IsRefusedBy (RefusesTexts format map table certificate) (none_of h)
load_refused format map table certificate r (halt.Refused line) e refuses = steps.files (refuses line e)
load_refused format map table certificate r halt.Memory e refuses = tt

-- a certificate that is refused
pub certificate_refused : (format : Format) (map table certificate : List ℕ) (l : Loaded) (h : Halt) → Loads format map table l.checked l.table l.problem → IfRefused h (RefusesCertificate certificate)
    → IsRefusedBy (RefusesTexts format map table certificate) (none_of h)
certificate_refused format map table certificate l (halt.Refused line) loads refuses = steps.certificate_text l loads refuses
certificate_refused format map table certificate l halt.Memory loads refuses = tt

pub texts_refused : (old new : ShelfState) (q : CheckRequest) (map table certificate : List ℕ) (n : NoVerdict) → AreFetched old.files q map table certificate → new ≡ old
    → IsRefusedBy (RefusesTexts q.format map table certificate) n → GivesNone old new q n
texts_refused old new q map table certificate (Stopped (Missed s)) fetched same h = absurd h
texts_refused old new q map table certificate (Stopped (TooLong s)) fetched same h = absurd h
texts_refused old new q map table certificate (Stopped (Refused line)) fetched same h = ((by_text h, same), unchanged old new same)
  where
    by_text : RefusesTexts q.format map table certificate line → RefusesCheck old.files q line
    by_text (steps.files refuses) = texts map table certificate line fetched refuses
    by_text (steps.certificate_text l loads refuses) = certificate_text map table certificate line l.checked l.table l.problem fetched loads refuses
texts_refused old new q map table certificate Memory fetched same h = same

-- ---- the drawn map

-- the drawn map of a certificate with a grouping
pub drawn_read : (old new : ShelfState) (name : List ℕ) (status : CertStatus) (d : Coverage) → is_hopeless status ≡ false
    → (text : List ℕ) × IsText old.files name OUT_BYTES text × SpellsDrawn text (layer_of d) → new ≡ old → IsDrawnRead old new name status (Some d)
drawn_read old new name status d grouping read same =
    record { out = Some read.0; is_read = ap not (sym grouping); out_is = read.1; spelled = read.2; same = same }

pub undrawn_by : (old new : ShelfState) (name text : List ℕ) (h : Halt) → IsText old.files name OUT_BYTES text → new ≡ old → IfRefused h (RefusesDrawn text) → IsUndrawn old new name (none_of h)
undrawn_by old new name text (halt.Refused line) is same refuses = (text, is, refuses, same)
undrawn_by old new name text halt.Memory is same refuses = same

pub undrawn_unfetched : (old new : ShelfState) (name : List ℕ) (n : NoVerdict) → IsUnfetched old new source.Out name OUT_BYTES n → IsUndrawn old new name n
undrawn_unfetched old new name (Stopped (Missed s)) h = h
undrawn_unfetched old new name (Stopped (TooLong s)) h = h
undrawn_unfetched old new name (Stopped (Refused line)) h = absurd h
undrawn_unfetched old new name Memory h = h

pub undrawn : (old later new : ShelfState) (q : CheckRequest) (s : Certificate) (n : NoVerdict) → later ≡ old → IsDrawnDue old.files q s → IsUndrawn later new q.out n → GivesNone old new q n
undrawn old later new q s (Stopped (Missed file)) same due h = unfetched old later new q source.Out OUT_BYTES (Stopped (Missed file)) same h (s, due) (λ long. long_out s due long)
undrawn old later new q s (Stopped (TooLong file)) same due h = unfetched old later new q source.Out OUT_BYTES (Stopped (TooLong file)) same h (s, due) (λ long. long_out s due long)
undrawn old later new q s (Stopped (Refused line)) same due h =
    let is : IsText old.files q.out OUT_BYTES h.0 = subst (λ t. IsText t.files q.out OUT_BYTES h.0) same h.1 in
    let whole : new ≡ old = h.3 ∙ same in
    ((out_text s h.0 line due is h.2, whole), unchanged old new whole)
undrawn old later new q s Memory same due h = h ∙ same

-- ---- the judgement

pub is_judged : (old later new : ShelfState) (q : CheckRequest) (map table certificate : List ℕ) (l : Loaded) (c : Certificate) (drawn : Option Coverage) (j : Judgement)
    → AreFetched old.files q map table certificate → later ≡ old → Loads q.format map table l.checked l.table l.problem → Spells certificate c
    → IsDrawnRead later new q.out c.status drawn → IsVerdictOn (case_of l c drawn) j.verdict → j.line ≡ line_on (case_of l c drawn) j.verdict
    → (j.verdict ≡ Valid → HoldsCase (case_of l c drawn)) → IsJudged old new q j
is_judged old later new q map table certificate l c drawn j fetched same loads spelled read verdict line holds = record {
  checking = record { request = q; map = map; table = table; certificate = certificate; out = read.out; judged = case_of l c drawn };
  request_is = refl;
  check = record {
    fetched = fetched;
    out_is = subst (λ s. IfSome read.out (λ t. IsText s.files q.out OUT_BYTES t)) same read.out_is;
    spells = record { loads = loads; spelled = spelled; is_read = read.is_read; drawn = read.spelled };
  };
  verdict = verdict;
  line_is = line;
  holds = holds;
  same = read.same ∙ same;
}
