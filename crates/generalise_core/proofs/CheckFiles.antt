-- Told files are judged in one way at most, and are not both judged and refused.
use Rattle.std.proofs.Common.{◌≡◌, ◌≢◌, ◌⊎◌, inl, inr, ℕ, List, Option, Some, None, IfSome, true, false, true≢false, Bool, refl, sym, ◌∙◌, ap, subst}
use Rattle.std.specs.Prelude.{not, is_some}
use Rattle.agg_base.specs.declared.limits.TheConstants.{MAP_BYTES, TABLE_BYTES, TEXT_BYTES, OUT_BYTES}
use Rattle.shelf_io.specs.Files.{Files}
use Rattle.plane_edge.specs.declared.coverage.Coverage.{Coverage}
use Rattle.topo_reader.specs.Outcomes.{layer_of}
use Rattle.cert_text.specs.CertTexts.{Spells, is_hopeless}
use Rattle.cert_text.specs.declared.certificate.Certificate.{Certificate}
use Rattle.cert_check.specs.declared.verdict.Verdict.{Verdict}
use Rattle.cert_check.specs.declared.verdict.Verdict.TheVariants.{Valid}
use Rattle.generalise_steps.specs.Refusals.{Refuses}
use Rattle.generalise_steps.proofs.RefusalLemmas.{loaded_not_refused}
use Rattle.check_steps.specs.CertificateTexts.{RefusesCertificate}
use Rattle.check_steps.specs.DrawnTexts.{SpellsDrawn, RefusesDrawn}
use Rattle.check_steps.specs.Cases.{SpellsOut, SpellsCase, IsVerdictOn, IsValidCase}
use Rattle.check_steps.proofs.CaseLemmas.{valid_on, same_case, same_hopeless, one_verdict, valid_verdict}
use Rattle.check_steps.proofs.ReadLemmas.{certificate_lines, drawn_lines}
use Rattle.generalise_core.specs.FileTexts.{IsText, IsTooLong}
use Rattle.generalise_core.specs.CheckWords.{CheckRequest, SpellsCheck}
use Rattle.generalise_core.specs.Checks.{AreFetched, Checking, IsCheckOf, IsCheckTo, IsCheckTold, IsDrawnDue, RefusesCheck, RefusesCheckTold, long_map, long_table, long_certificate, texts, certificate_text, long_out, out_text}
use Rattle.generalise_core.proofs.Exclusions.{one_text, not_too_long}
use Rattle.generalise_core.proofs.CheckWordLemmas.{one_check}

-- ---- the same bytes

one_out : (m : Files) (name : List ℕ) (o p : Option (List ℕ)) → is_some o ≡ is_some p → IfSome o (λ t. IsText (Some m) name OUT_BYTES t) → IfSome p (λ t. IsText (Some m) name OUT_BYTES t) → o ≡ p
one_out m name None None e h k = refl
one_out m name None (Some u) e h k = absurd (true≢false (sym e))
one_out m name (Some t) None e h k = absurd (true≢false e)
one_out m name (Some t) (Some u) e h k = ap Some (one_text m name OUT_BYTES t u h k)

-- what one request of told files spells, by the bytes of the other
pub same_spells : (m : Files) (k l : Checking) → k.request ≡ l.request → IsCheckOf (Some m) k → IsCheckOf (Some m) l
    → SpellsCase k.request.format k.map k.table k.certificate k.out l.judged
same_spells m k l e h g =
    let q = k.request in
    let here : IsCheckOf (Some m) (record l { request = q }) = moved e g in
    let map : l.map ≡ k.map = one_text m q.map MAP_BYTES l.map k.map here.fetched.map_is h.fetched.map_is in
    let table : l.table ≡ k.table = one_text m q.table TABLE_BYTES l.table k.table here.fetched.table_is h.fetched.table_is in
    let certificate : l.certificate ≡ k.certificate = one_text m q.certificate TEXT_BYTES l.certificate k.certificate here.fetched.certificate_is h.fetched.certificate_is in
    let there : Spells k.certificate l.judged.certificate = subst (λ t. Spells t l.judged.certificate) certificate here.spells.spelled in
    let read : is_some l.out ≡ is_some k.out =
    here.spells.is_read ∙ ap not (same_hopeless k.certificate l.judged.certificate k.judged.certificate there h.spells.spelled) ∙ sym h.spells.is_read
    in
    let out : l.out ≡ k.out = one_out m q.out l.out k.out read here.out_is h.out_is in
    subst (λ o. SpellsCase q.format k.map k.table k.certificate o l.judged) out
    (subst (λ t. SpellsCase q.format k.map k.table t l.out l.judged) certificate
    (subst (λ t. SpellsCase q.format k.map t l.certificate l.out l.judged) table
    (subst (λ t. SpellsCase q.format t l.table l.certificate l.out l.judged) map here.spells)))
  where
    moved : k.request ≡ l.request → IsCheckOf (Some m) l → IsCheckOf (Some m) (record l { request = k.request })
    moved e g = subst (λ (q : CheckRequest). IsCheckOf (Some m) (record l { request = q })) (sym e) g

-- ---- one verdict

-- a told check, by the words of another one of the same files
pub told_beside : (files : Option Files) (words : List (List ℕ)) (k l : Checking) → IsCheckTold files words k → IsCheckTo files words l
    → SpellsCase k.request.format k.map k.table k.certificate k.out k.judged × SpellsCase k.request.format k.map k.table k.certificate k.out l.judged
told_beside files words k l h g =
    let here : IsCheckTo (Some h.told) words l = subst (λ f. IsCheckTo f words l) h.told_is g in
    (h.check.check.spells, same_spells h.told k l (one_check words k.request l.request h.check.spelled here.spelled) h.check.check here.check)

pub told_valid : (files : Option Files) (words : List (List ℕ)) (k l : Checking) (v : Verdict) → IsCheckTold files words k → IsCheckTo files words l
    → IsVerdictOn l.judged v → IsValidCase k.judged → v ≡ Valid
told_valid files words k l v h g is valid =
    let both = told_beside files words k l h g in
    sym (one_verdict k.request.format k.map k.table k.certificate k.out k.judged l.judged Valid v both.0 both.1 (valid_on k.judged valid) is).0

pub told_flawed : (files : Option Files) (words : List (List ℕ)) (k l : Checking) (v : Verdict) → IsCheckTold files words k → IsCheckTo files words l
    → IsVerdictOn l.judged v → (¬ IsValidCase k.judged) → v ≢ Valid
told_flawed files words k l v h g is flawed e =
    let both = told_beside files words k l h g in
    let there : IsVerdictOn k.judged v = same_case k.request.format k.map k.table k.certificate k.out l.judged k.judged v both.1 both.0 is in
    flawed ((valid_verdict k.request.format k.map k.table k.certificate k.out k.judged v both.0 there).0 e)

-- ---- not refused

-- the fetched texts are those of the check
same_fetched : (m : Files) (k : Checking) (map table certificate : List ℕ) → IsCheckOf (Some m) k → AreFetched (Some m) k.request map table certificate
    → (map ≡ k.map) × (table ≡ k.table) × (certificate ≡ k.certificate)
same_fetched m k map table certificate h f = (
  one_text m k.request.map MAP_BYTES map k.map f.map_is h.fetched.map_is,
  one_text m k.request.table TABLE_BYTES table k.table f.table_is h.fetched.table_is,
  one_text m k.request.certificate TEXT_BYTES certificate k.certificate f.certificate_is h.fetched.certificate_is,
)

-- where a text of the drawn map is read, it spells it
found : (files : Option Files) (name : List ℕ) (out : Option (List ℕ)) (drawn : Option Coverage) → is_some out ≡ true → IfSome out (λ t. IsText files name OUT_BYTES t) → SpellsOut out drawn
    → (text : List ℕ) × (d : Coverage) × IsText files name OUT_BYTES text × SpellsDrawn text (layer_of d)
found files name None drawn read is spells = absurd (true≢false (sym read))
found files name (Some text) None read is spells = absurd spells
found files name (Some text) (Some d) read is spells = (text, d, is, spells)

-- where the drawn map is due, it is read
drawn_text : (m : Files) (k : Checking) (s : Certificate) → IsCheckOf (Some m) k → IsDrawnDue (Some m) k.request s
    → (text : List ℕ) × (d : Coverage) × IsText (Some m) k.request.out OUT_BYTES text × SpellsDrawn text (layer_of d)
drawn_text m k s h due =
    let same = same_fetched m k due.map due.table due.certificate h due.fetched in
    let spelled : Spells k.certificate s = subst (λ t. Spells t s) same.2 due.spelled in
    let read : is_some k.out ≡ true = h.spells.is_read ∙ ap not (same_hopeless k.certificate k.judged.certificate s h.spells.spelled spelled ∙ due.grouping) in
    found (Some m) k.request.out k.out k.judged.drawn read h.out_is h.spells.drawn

not_refused : (m : Files) (k : Checking) (line : List ℕ) → IsCheckOf (Some m) k → ¬ RefusesCheck (Some m) k.request line
not_refused m k line h (long_map long) = not_too_long m k.request.map MAP_BYTES k.map h.fetched.map_is long
not_refused m k line h (long_table map is long) = not_too_long m k.request.table TABLE_BYTES k.table h.fetched.table_is long
not_refused m k line h (long_certificate map table is also long) = not_too_long m k.request.certificate TEXT_BYTES k.certificate h.fetched.certificate_is long
not_refused m k line h (texts map table certificate l fetched refuses) =
    let same = same_fetched m k map table certificate h fetched in
    loaded_not_refused k.request.format k.map k.table l k.judged.checked k.judged.classes k.judged.problem h.spells.loads
    (subst (λ t. Refuses k.request.format k.map t l) same.1 (subst (λ b. Refuses k.request.format b table l) same.0 refuses))
not_refused m k line h (certificate_text map table certificate l c t p fetched loads refuses) =
    let same = same_fetched m k map table certificate h fetched in
    certificate_lines.0 k.certificate l k.judged.certificate h.spells.spelled (subst (λ b. RefusesCertificate b l) same.2 refuses)
not_refused m k line h (long_out s due long) =
    let drawn = drawn_text m k s h due in
    not_too_long m k.request.out OUT_BYTES drawn.0 drawn.2 long
not_refused m k line h (out_text s out l due is refuses) =
    let drawn = drawn_text m k s h due in
    drawn_lines.0 drawn.0 l (layer_of drawn.1) drawn.3 (subst (λ b. RefusesDrawn b l) (one_text m k.request.out OUT_BYTES out drawn.0 is drawn.2) refuses)

-- what is told is not both judged and refused
pub told_not_refused : (files : Option Files) (words : List (List ℕ)) (k : Checking) (q : CheckRequest) (line : List ℕ) → IsCheckTold files words k → SpellsCheck words q
    → ¬ RefusesCheck files q line
told_not_refused files words k q line h spelled refused =
    let here : RefusesCheck (Some h.told) q line = subst (λ f. RefusesCheck f q line) h.told_is refused in
    not_refused h.told k line h.check.check (subst (λ r. RefusesCheck (Some h.told) r line) (one_check words q k.request spelled h.check.spelled) here)

pub judged_not_refused : (files : Option Files) (words : List (List ℕ)) (k : Checking) (line : List ℕ) → IsCheckTo files words k → ¬ RefusesCheckTold files words line
judged_not_refused files words k line g h =
    let here : IsCheckTo (Some h.told) words k = subst (λ f. IsCheckTo f words k) h.told_is g in
    not_refused h.told k line here.check (subst (λ r. RefusesCheck (Some h.told) r line) (one_check words h.request k.request h.spelled here.spelled) h.refused)
