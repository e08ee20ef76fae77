-- What a check reads from its files, what it judges, and what refuses it.
use Rattle.std.specs.Prelude.{◌≡◌, ◌⊎◌, ℕ, List, Option, Some, IfSome, false}
use Rattle.agg_base.specs.declared.limits.TheConstants.{MAP_BYTES, TABLE_BYTES, TEXT_BYTES, OUT_BYTES}
use Rattle.shelf_io.specs.Files.{Files}
use Rattle.agg_model.specs.Problem.{Problem}
use Rattle.class_table.specs.Table.{Table}
use Rattle.coverage_check.specs.Checked.{Checked}
use Rattle.cert_text.specs.CertTexts.{Spells, is_hopeless}
use Rattle.cert_text.specs.declared.certificate.Certificate.{Certificate}
use Rattle.generalise_steps.specs.Loads.{Loads}
use Rattle.generalise_steps.specs.Refusals.{Refuses}
use Rattle.check_steps.specs.CertificateTexts.{RefusesCertificate}
use Rattle.check_steps.specs.DrawnTexts.{RefusesDrawn}
use Rattle.check_steps.specs.Cases.{Case, SpellsCase}
use Rattle.generalise_core.specs.FileTexts.{IsText, IsTooLong}
use Rattle.generalise_core.specs.CheckWords.{CheckRequest, SpellsCheck}
use Rattle.generalise_core.specs.CheckLines.{long_line}
use Rattle.generalise_core.specs.declared.check_stop.Source.TheVariants as source

-- the files of the map, the class table and the certificate hold these texts
pub record AreFetched (files : Option Files) (q : CheckRequest) (map table certificate : List ℕ) : Type 0 where
  pub map_is : IsText files q.map MAP_BYTES map
  pub table_is : IsText files q.table TABLE_BYTES table
  pub certificate_is : IsText files q.certificate TEXT_BYTES certificate

-- ---- what is judged

-- what a check judges, and from what: the request of its words, the bytes of its files, and what these spell; the drawn map has bytes where it
-- is read
pub record Checking : Type 0 where
  pub request : CheckRequest
  pub map : List ℕ
  pub table : List ℕ
  pub certificate : List ℕ
  pub out : Option (List ℕ)
  pub judged : Case

-- the files of the request hold the bytes, and these spell the rest
pub record IsCheckOf (files : Option Files) (k : Checking) : Type 0 where
  pub fetched : AreFetched files k.request k.map k.table k.certificate
  pub out_is : IfSome k.out (λ out. IsText files k.request.out OUT_BYTES out)
  pub spells : SpellsCase k.request.format k.map k.table k.certificate k.out k.judged

-- the words spell the request
pub record IsCheckTo (files : Option Files) (words : List (List ℕ)) (k : Checking) : Type 0 where
  pub spelled : SpellsCheck words k.request
  pub check : IsCheckOf files k

-- the same of told files
pub record IsCheckTold (files : Option Files) (words : List (List ℕ)) (k : Checking) : Type 0 where
  pub told : Files
  pub told_is : files ≡ Some told
  pub check : IsCheckTo (Some told) words k

-- ---- what refuses

-- the first three files are right, and their certificate has a grouping, so that the drawn map is to be read
pub record IsDrawnDue (files : Option Files) (q : CheckRequest) (s : Certificate) : Type 0 where
  pub map : List ℕ
  pub table : List ℕ
  pub certificate : List ℕ
  pub fetched : AreFetched files q map table certificate
  pub checked : Checked
  pub classes : Table
  pub problem : Problem
  pub loads : Loads q.format map table checked classes problem
  pub spelled : Spells certificate s
  pub grouping : is_hopeless s.status ≡ false

-- The line of the first step that refuses: the lengths of the map, the table and the certificate; what the map and the table hold; the text of
-- the certificate; and, where it has a grouping, the length and the text of the drawn map.
pub data RefusesCheck (files : Option Files) (q : CheckRequest) : List ℕ → Type 0 where
  long_map : IsTooLong files q.map MAP_BYTES → RefusesCheck files q (long_line source.Map)
  long_table : (map : List ℕ) → IsText files q.map MAP_BYTES map → IsTooLong files q.table TABLE_BYTES → RefusesCheck files q (long_line source.Table)
  long_certificate : (map table : List ℕ) → IsText files q.map MAP_BYTES map → IsText files q.table TABLE_BYTES table → IsTooLong files q.certificate TEXT_BYTES
      → RefusesCheck files q (long_line source.Certificate)
  texts : (map table certificate line : List ℕ) → AreFetched files q map table certificate → Refuses q.format map table line → RefusesCheck files q line
  certificate_text : (map table certificate line : List ℕ) (c : Checked) (t : Table) (p : Problem) → AreFetched files q map table certificate
      → Loads q.format map table c t p → RefusesCertificate certificate line → RefusesCheck files q line
  long_out : (s : Certificate) → IsDrawnDue files q s → IsTooLong files q.out OUT_BYTES → RefusesCheck files q (long_line source.Out)
  out_text : (s : Certificate) (out line : List ℕ) → IsDrawnDue files q s → IsText files q.out OUT_BYTES out → RefusesDrawn out line → RefusesCheck files q line

-- told files are refused by the line
pub record RefusesCheckTold (files : Option Files) (words : List (List ℕ)) (line : List ℕ) : Type 0 where
  pub told : Files
  pub told_is : files ≡ Some told
  pub request : CheckRequest
  pub spelled : SpellsCheck words request
  pub refused : RefusesCheck (Some told) request line
