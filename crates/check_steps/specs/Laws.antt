-- What holds of all texts that are judged.
use Rattle.std.specs.Prelude.{◌≡◌, ◌↔◌, ℕ, List, Option}
use Rattle.plane_edge.specs.declared.coverage.Coverage.{Coverage}
use Rattle.map_values.specs.Layers.{Layer}
use Rattle.agg_model.specs.Problem.{IsProblem}
use Rattle.cert_text.specs.CertTexts.{Spells}
use Rattle.cert_text.specs.declared.certificate.Certificate.{Certificate}
use Rattle.cert_check.specs.declared.verdict.Verdict.{Verdict}
use Rattle.cert_check.specs.declared.verdict.Verdict.TheVariants.{Valid}
use Rattle.generalise_steps.specs.declared.map_format.Format.{Format}
use Rattle.check_steps.specs.CertificateTexts.{RefusesCertificate}
use Rattle.check_steps.specs.DrawnTexts.{SpellsDrawn, RefusesDrawn}
use Rattle.check_steps.specs.Cases.{Case, SpellsCase, IsValidCase, IsVerdictOn, HoldsCase, line_on}

-- no line refuses the text of a certificate, and one line at most refuses another text
abbrev pub CertificateLines : Type 0
CertificateLines =
    ((text line : List ℕ) (c : Certificate) → Spells text c → ¬ RefusesCertificate text line)
    × ((text l m : List ℕ) → RefusesCertificate text l → RefusesCertificate text m → l ≡ m)

-- the same of the text of a drawn map
abbrev pub DrawnLines : Type 0
DrawnLines =
    ((text line : List ℕ) (layer : Layer) → SpellsDrawn text layer → ¬ RefusesDrawn text line)
    × ((text l m : List ℕ) → RefusesDrawn text l → RefusesDrawn text m → l ≡ m)

-- the same texts have one verdict at most, and one line that says it
abbrev pub OneVerdict : Type 0
OneVerdict =
    (format : Format) (map table certificate : List ℕ) (out : Option (List ℕ)) (x y : Case) (v w : Verdict)
    → SpellsCase format map table certificate out x → SpellsCase format map table certificate out y → IsVerdictOn x v → IsVerdictOn y w
    → (v ≡ w) × (line_on x v ≡ line_on y w)

-- the verdict is `Valid` exactly where the certificate is valid
abbrev pub ValidVerdict : Type 0
ValidVerdict =
    (format : Format) (map table certificate : List ℕ) (out : Option (List ℕ)) (x : Case) (v : Verdict)
    → SpellsCase format map table certificate out x → IsVerdictOn x v → (v ≡ Valid) ↔ IsValidCase x

-- what a valid certificate states holds, whoever made it
abbrev pub ValidHolds : Type 0
ValidHolds = (x : Case) → IsProblem x.problem → IsValidCase x → HoldsCase x
