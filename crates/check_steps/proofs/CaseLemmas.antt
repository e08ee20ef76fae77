-- The same texts have one verdict, and what a valid certificate states holds.
use Rattle.std.proofs.Common.{◌≡◌, inl, ℕ, List, refl, sym, ◌∙◌, ap, subst, true, false, true≢false, Bool, Option, Some, None}
use Rattle.std.specs.Prelude.{◌↔◌, ℤ, not, is_some}
use Rattle.plane_edge.specs.declared.coverage.Coverage.{Coverage}
use Rattle.map_values.specs.Layers.{Layer}
use Rattle.topo_reader.specs.Outcomes.{layer_of}
use Rattle.class_table.specs.Table.{Table}
use Rattle.coverage_check.specs.Checked.{Checked}
use Rattle.agg_model.specs.Problem.{Problem, IsProblem}
use Rattle.cert_text.specs.Lines.{status_word, number_or_dash}
use Rattle.cert_text.specs.CertTexts.{Spells, is_hopeless}
use Rattle.cert_text.specs.declared.certificate.Certificate.{Certificate}
use Rattle.cert_text.specs.declared.certificate.CertStatus.{CertStatus}
use Rattle.cert_reader.specs.Same.{IsSameCertificate}
use Rattle.cert_reader.proofs.SameLemmas.{one_certificate}
use Rattle.cert_check.specs.declared.verdict.Verdict.{Verdict}
use Rattle.cert_check.specs.declared.verdict.Verdict.TheVariants as verdict
use Rattle.cert_check.specs.Verdicts.{IsVerdict}
use Rattle.cert_check.specs.Laws.{IsDrawnWhere}
use Rattle.cert_check.proofs.VerdictLemmas.{verdict_law, proof_law}
use Rattle.generalise_steps.specs.declared.map_format.Format.{Format}
use Rattle.generalise_steps.specs.declared.map_format.Format.TheVariants.{TopoJson}
use Rattle.generalise_steps.proofs.LoadLemmas.{one_load}
use Rattle.generalise_steps.proofs.MapLemmas.{one_map_text}
use Rattle.check_steps.specs.VerdictLines.{valid_line, verdict_line}
use Rattle.check_steps.specs.DrawnTexts.{drawn_pick}
use Rattle.check_steps.specs.Cases.{Case, SpellsOut, SpellsCase, IsValidCase, IsVerdictOn, line_on}
use Rattle.check_steps.specs.Laws.{OneVerdict, ValidVerdict, ValidHolds}
use Rattle.check_steps.proofs.SameVerdicts.{IsSameDrawn, same_verdict}

-- ---- the drawn map

-- there is a drawn map exactly where a text is read
pub out_there : (out : Option (List ℕ)) (drawn : Option Coverage) → SpellsOut out drawn → is_some drawn ≡ is_some out
out_there None None h = refl
out_there None (Some d) h = absurd h
out_there (Some text) None h = absurd h
out_there (Some text) (Some d) h = refl

one_drawn : (out : Option (List ℕ)) (drawn other : Option Coverage) → SpellsOut out drawn → SpellsOut out other → IsSameDrawn drawn other
one_drawn None None None h k = tt
one_drawn None None (Some e) h k = absurd k
one_drawn None (Some d) other h k = absurd h
one_drawn (Some text) None other h k = absurd h
one_drawn (Some text) (Some d) None h k = absurd k
one_drawn (Some text) (Some d) (Some e) h k = one_map_text (TopoJson drawn_pick) text (layer_of d) (layer_of e) h k

pub drawn_where : (format : Format) (map table certificate : List ℕ) (out : Option (List ℕ)) (x : Case) → SpellsCase format map table certificate out x → IsDrawnWhere x.certificate.status x.drawn
drawn_where format map table certificate out x h = out_there out x.drawn h.drawn ∙ h.is_read

-- ---- one verdict

-- certificates of one text have a grouping, or have none, together
pub same_hopeless : (text : List ℕ) (c d : Certificate) → Spells text c → Spells text d → is_hopeless c.status ≡ is_hopeless d.status
same_hopeless text c d h k = ap is_hopeless (one_certificate text c d h k).status_is

same_line : (c d : Certificate) (v : Verdict) → IsSameCertificate c d → verdict_line c v ≡ verdict_line d v
unfolding verdict_line
same_line c d verdict.Valid h =
    ap (λ (s : CertStatus). valid_line (record c { status = s })) h.status_is
    ∙ ap (λ (o : Option ℤ). valid_line (record c { status = d.status; cost = o })) h.cost_is
    ∙ ap (λ (o : Option ℤ). valid_line (record c { status = d.status; cost = d.cost; bound = o })) h.bound_is
same_line c d (verdict.Areas due) h = refl
same_line c d (verdict.Range area) h = refl
same_line c d (verdict.ClassRange region) h = refl
same_line c d verdict.Frame h = refl
same_line c d (verdict.Regions drawn) h = refl
same_line c d (verdict.DrawnClass region) h = refl
same_line c d (verdict.DrawnEdges region edge) h = refl
same_line c d (verdict.Empty region) h = refl
same_line c d (verdict.Loose region) h = refl
same_line c d (verdict.NoOwn region) h = refl
same_line c d (verdict.TooSmall region) h = refl
same_line c d (verdict.Cost due) h = refl
same_line c d (verdict.Split node) h = refl
same_line c d (verdict.Denominator node) h = refl
same_line c d (verdict.Row node row) h = refl
same_line c d (verdict.Negative node row) h = refl
same_line c d (verdict.NotFixed node area) h = refl
same_line c d (verdict.NotVoid node total) h = refl
same_line c d (verdict.Wide node entry) h = refl
same_line c d (verdict.Bound due) h = refl
same_line c d verdict.Status h = refl

-- a verdict on what texts spell is one on whatever else they spell
pub same_case : (format : Format) (map table certificate : List ℕ) (out : Option (List ℕ)) (x y : Case) (v : Verdict)
    → SpellsCase format map table certificate out x → SpellsCase format map table certificate out y → IsVerdictOn x v → IsVerdictOn y v
same_case format map table certificate out x y v h k is =
    let loads = one_load format map table x.checked y.checked x.classes y.classes x.problem y.problem h.loads k.loads in
    let again = one_certificate certificate x.certificate y.certificate h.spelled k.spelled in
    let moved : IsVerdict x.checked x.problem x.classes.names y.drawn y.certificate v =
    same_verdict x.checked x.problem x.classes.names x.drawn y.drawn x.certificate y.certificate v (one_drawn out x.drawn y.drawn h.drawn k.drawn) again is
    in
    subst (λ (c : Checked). IsVerdict c y.problem y.classes.names y.drawn y.certificate v) loads.0
    (subst (λ (t : Table). IsVerdict x.checked y.problem t.names y.drawn y.certificate v) loads.1
    (subst (λ (p : Problem). IsVerdict x.checked p x.classes.names y.drawn y.certificate v) loads.2 moved))

pub one_verdict : OneVerdict
one_verdict format map table certificate out x y v w h k is other =
    let again : IsSameCertificate x.certificate y.certificate = one_certificate certificate x.certificate y.certificate h.spelled k.spelled in
    let there : IsVerdictOn y v = same_case format map table certificate out x y v h k is in
    let same : v ≡ w =
    (verdict_law y.checked y.problem y.classes.names y.drawn y.certificate k.spelled.has_spelling (drawn_where format map table certificate out y k)).0 v w there other
    in (same, same_line x.certificate y.certificate v again ∙ ap (λ (u : Verdict). verdict_line y.certificate u) same)

-- that a certificate is valid is its verdict
pub valid_on : (x : Case) → IsValidCase x → IsVerdictOn x verdict.Valid
valid_on x valid = inl (refl, valid)

pub valid_verdict : ValidVerdict
valid_verdict format map table certificate out x v h is =
    (verdict_law x.checked x.problem x.classes.names x.drawn x.certificate h.spelled.has_spelling (drawn_where format map table certificate out x h)).1 v is

pub valid_holds : ValidHolds
valid_holds x ok valid = proof_law x.checked x.problem x.classes.names x.drawn x.certificate ok valid
