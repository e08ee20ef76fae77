-- Laws of the texts of certificates.
use Rattle.std.specs.Prelude.{◌≡◌, ℕ, List}
use Rattle.cert_text.specs.CertTexts.{Spells}
use Rattle.cert_text.specs.declared.certificate.Certificate.{Certificate}
use Rattle.cert_text.specs.declared.fault.CertFault.{CertFault}
use Rattle.cert_reader.specs.FirstFaults.{IsFirstFault}
use Rattle.cert_reader.specs.Same.{IsSameCertificate}

-- a text spells one certificate at most
abbrev pub SpellsOne : Type 0
SpellsOne = (text : List ℕ) (c d : Certificate) → Spells text c → Spells text d → IsSameCertificate c d

-- a text that spells a certificate has no first fault
abbrev pub IsRightWhereSpelled : Type 0
IsRightWhereSpelled = (text : List ℕ) (c : Certificate) (f : CertFault) → Spells text c → IsFirstFault text f → ⊥

-- a text has one first fault at most
abbrev pub HasOneFault : Type 0
HasOneFault = (text : List ℕ) (f g : CertFault) → IsFirstFault text f → IsFirstFault text g → f ≡ g
