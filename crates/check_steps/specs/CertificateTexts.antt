-- The line by which the text of a certificate is refused.
use Rattle.std.specs.Prelude.{◌≡◌, ℕ, List, [], ◌∷◌, codes}
use Rattle.std.specs.Fmt.{decimal}
use Rattle.cert_text.specs.declared.fault.CertFault.{CertFault}
use Rattle.cert_text.specs.declared.fault.CertFault.TheVariants.{Line, TooDeep, Limit, Memory}
use Rattle.cert_reader.specs.FirstFaults.{IsFirstFault}
use Rattle.generalise_steps.specs.FaultLines.{refusal}

-- want of memory has no words, for it is no fault of a text
abbrev pub certificate_words : CertFault → List (List ℕ)
certificate_words (Line number) = codes "Line" ∷ decimal number ∷ []
certificate_words (TooDeep line) = codes "TooDeep" ∷ decimal line ∷ []
certificate_words (Limit line) = codes "Limit" ∷ decimal line ∷ []
certificate_words Memory = []

unfoldable pub certificate_line : CertFault → List ℕ
certificate_line fault = refusal (codes "certificate") (certificate_words fault)

-- the line of the first fault of the text
pub record RefusesCertificate (text line : List ℕ) : Type 0 where
  pub fault : CertFault
  pub first : IsFirstFault text fault
  pub line_is : line ≡ certificate_line fault
