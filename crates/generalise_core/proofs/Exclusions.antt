-- A run that may end in one way may end in no other.
use Rattle.std.proofs.Common.{◌≡◌, ◌≤◌, ◌<◌, inl, inr, ℕ, List, length, Option, Some, IfSome, refl, sym, ◌∙◌, subst, arith}
use Rattle.shelf_io.specs.Files.{Files, text_at}
use Rattle.agg_model.specs.Problem.{Problem, Grouping, IsFeasible}
use Rattle.generalise_core.specs.Words.{Request, Spells}
use Rattle.generalise_core.specs.Certificates.{Outcome}
use Rattle.generalise_steps.specs.Refusals.{Refuses}
use Rattle.generalise_steps.specs.declared.map_format.Format.{Format}
use Rattle.generalise_steps.proofs.LoadLemmas.{one_load}
use Rattle.generalise_steps.proofs.RefusalLemmas.{loaded_not_refused}
use Rattle.generalise_core.specs.Answers.{AcceptsTexts}
use Rattle.search_answer.specs.Answers.{States}
use Rattle.generalise_core.proofs.DraftLemmas.{one_request}
use Rattle.generalise_core.specs.Stops.{line_of, status_of_stop}
use Rattle.agg_base.specs.declared.limits.TheConstants.{MAP_BYTES, TABLE_BYTES}
use Rattle.shelf_io.specs.State.{ShelfState}
use Rattle.generalise_core.specs.FileTexts.{IsText, IsTooLong, RefusesFiles, long_map, long_table, texts, AnswersFiles, AcceptsFiles, AcceptsTold, RefusesTold}
use Rattle.generalise_core.specs.Plans.{StopsFiles}
use Rattle.cert_text.specs.declared.certificate.CertStatus.TheVariants.{Hopeless}
use Rattle.generalise_core.specs.declared.stop.Stop.{Stop}
use Rattle.generalise_core.specs.declared.stop.Stop.TheVariants as stop
use Rattle.generalise_core.specs.declared.status.Status.TheVariants as status

-- ---- texts that told files hold

pub told_text : (files : Option Files) (m : Files) (name : List ℕ) (limit : ℕ) (bytes : List ℕ)
    → files ≡ Some m → IsText files name limit bytes → bytes ≡ text_at m name
told_text files m name limit bytes told text = subst (λ f. IfSome f (λ m. bytes ≡ text_at m name)) told text.told

pub one_text : (m : Files) (name : List ℕ) (limit : ℕ) (a b : List ℕ) → IsText (Some m) name limit a → IsText (Some m) name limit b → a ≡ b
one_text m name limit a b h k = told_text (Some m) m name limit a refl h ∙ sym (told_text (Some m) m name limit b refl k)

pub not_too_long : (m : Files) (name : List ℕ) (limit : ℕ) (bytes : List ℕ) → IsText (Some m) name limit bytes → ¬ IsTooLong (Some m) name limit
not_too_long m name limit bytes text long =
    let e = told_text (Some m) m name limit bytes refl text in
    let fits : length (text_at m name) ≤ limit = subst (λ b. length b ≤ limit) e text.fits in
    let over : limit < length (text_at m name) = long in
    omega arith

-- ---- accepted texts are refused by no line

accepted_texts : (format : Format) (map table line : List ℕ) (p : Problem) → AcceptsTexts format map table p → ¬ Refuses format map table line
accepted_texts format map table line p a = loaded_not_refused format map table line a.checked a.classes p a.loads

accepted_files : (m : Files) (r : Request) (line : List ℕ) (p : Problem) → AcceptsFiles (Some m) r p → ¬ RefusesFiles (Some m) r line
accepted_files m r line p a (long_map long) = not_too_long m r.map MAP_BYTES a.map a.map_is long
accepted_files m r line p a (long_table map is long) = not_too_long m r.table TABLE_BYTES a.table a.table_is long
accepted_files m r line p a (texts map table l is_map is_table refuses) =
    let e = one_text m r.map MAP_BYTES map a.map is_map a.map_is in
    let f = one_text m r.table TABLE_BYTES table a.table is_table a.table_is in
    accepted_texts r.format a.map a.table l p a.accepted (subst (λ t. Refuses r.format a.map t l) f (subst (λ b. Refuses r.format b table l) e refuses))

accepts_of : (files : Option Files) (r : Request) (s : Outcome) → (a : AnswersFiles files r s) → AcceptsFiles files r a.answers.problem
accepts_of files r s a = record { map = a.map; table = a.table; map_is = a.map_is; table_is = a.table_is; accepted = record { checked = a.answers.checked; classes = a.answers.classes; loads = a.answers.loads } }

-- an answered request is refused by no line
pub answered_not_refused : (files : Option Files) (words : List (List ℕ)) (r : Request) (s : Outcome) (line : List ℕ)
    → Spells words r → AnswersFiles files r s → ¬ RefusesTold files words line
answered_not_refused files words r s line spelled answered refused =
    let same : refused.request ≡ r = one_request words refused.request r refused.spelled spelled in
    let here : AnswersFiles (Some refused.told) r s = subst (λ f. AnswersFiles f r s) refused.told_is answered in
    accepted_files refused.told r line here.answers.problem (accepts_of (Some refused.told) r s here) (subst (λ q. RefusesFiles (Some refused.told) q line) same refused.refused)

one_problem : (m : Files) (r : Request) (p q : Problem) → AcceptsFiles (Some m) r p → AcceptsFiles (Some m) r q → p ≡ q
one_problem m r p q a b =
    let e : b.map ≡ a.map = one_text m r.map MAP_BYTES b.map a.map b.map_is a.map_is in
    let f : b.table ≡ a.table = one_text m r.table TABLE_BYTES b.table a.table b.table_is a.table_is in
    let there : AcceptsTexts r.format a.map a.table q = subst (λ x. AcceptsTexts r.format x a.table q) e (subst (λ x. AcceptsTexts r.format b.map x q) f b.accepted) in
    (one_load r.format a.map a.table a.accepted.checked there.checked a.accepted.classes there.classes p q a.accepted.loads there.loads).2

-- what is stated of the problem of told files
stated_problem : (files : Option Files) (words : List (List ℕ)) (r : Request) (s : Outcome) (p : Problem)
    → Spells words r → AnswersFiles files r s → AcceptsTold files words p → States p r.splits s.certificate
stated_problem files words r s p spelled answered problem =
    let same : problem.request ≡ r = one_request words problem.request r problem.spelled spelled in
    let here : AnswersFiles (Some problem.told) r s = subst (λ f. AnswersFiles f r s) problem.told_is answered in
    let one : here.answers.problem ≡ p = one_problem problem.told r here.answers.problem p (accepts_of (Some problem.told) r s here) (subst (λ q. AcceptsFiles (Some problem.told) q p) same problem.accepts) in
    subst (λ q. States q r.splits s.certificate) one here.answers.answers.states

-- where no grouping is feasible, that is what is stated
pub stated_hopeless : (files : Option Files) (words : List (List ℕ)) (r : Request) (s : Outcome) (p : Problem)
    → Spells words r → AnswersFiles files r s → AcceptsTold files words p → ((g : Grouping) → ¬ IsFeasible p g) → s.certificate.status ≡ Hopeless
stated_hopeless files words r s p spelled answered problem never =
    elim (stated_problem files words r s p spelled answered problem).1 [
      | inl grouped ↦ absurd (never s.certificate.grouping grouped.feasible)
      | inr none ↦ none.status
    ]

-- ---- where nothing is stored

-- told files are not both accepted and refused
clash : (files : Option Files) (words : List (List ℕ)) (r : Request) (line : List ℕ) (p : Problem)
    → Spells words r → AcceptsTold files words p → ¬ RefusesFiles files r line
clash files words r line p spelled problem refused =
    let same : problem.request ≡ r = one_request words problem.request r problem.spelled spelled in
    accepted_files problem.told r line p (subst (λ q. AcceptsFiles (Some problem.told) q p) same problem.accepts) (subst (λ f. RefusesFiles f r line) problem.told_is refused)

pub stopped_refused : (old new : ShelfState) (r : Request) (why : Stop)
    → StopsFiles old new r why → status_of_stop why ≡ status.Refused → RefusesFiles old.files r (line_of why) × (new ≡ old)
stopped_refused old new r stop.Usage is e = absurd is
stopped_refused old new r stop.MapMissed is e = (cc)
stopped_refused old new r stop.TableMissed is e = (cc)
stopped_refused old new r stop.MapTooLong is e = (long_map is.0, is.1)
stopped_refused old new r stop.TableTooLong is e = (long_table is.0 is.1 is.2, is.3)
stopped_refused old new r (stop.Refused line) is e = (texts is.0 is.1 line is.2 is.3 is.4, is.5)

-- a run that is stopped though its files are accepted has missed a file
pub stopped_accepted : (old new : ShelfState) (words : List (List ℕ)) (r : Request) (why : Stop) (p : Problem)
    → Spells words r → AcceptsTold old.files words p → StopsFiles old new r why → status_of_stop why ≡ status.ReadFault
stopped_accepted old new words r stop.MapMissed p spelled problem is = refl
stopped_accepted old new words r stop.TableMissed p spelled problem is = refl
stopped_accepted old new words r stop.Usage p spelled problem is = absurd is
stopped_accepted old new words r stop.MapTooLong p spelled problem is = absurd (clash old.files words r (line_of stop.MapTooLong) p spelled problem (long_map is.0))
stopped_accepted old new words r stop.TableTooLong p spelled problem is = absurd (clash old.files words r (line_of stop.TableTooLong) p spelled problem (long_table is.0 is.1 is.2))
stopped_accepted old new words r (stop.Refused line) p spelled problem is = absurd (clash old.files words r line p spelled problem (texts is.0 is.1 line is.2 is.3 is.4))
