-- What the clauses of `read` say of a text that spells a certificate, and of one that does not.
use Rattle.std.proofs.Common.{◌≡◌, Option, None, Some, Result, Ok, Err, List, ℕ, refl, ap, sym, ◌∙◌, inl, inr, IfOk, IfErr, MatchResult}
use Rattle.std.specs.Prelude.{◌⊎◌}
use Rattle.cert_text.specs.CertTexts.{Spells}
use Rattle.cert_text.specs.declared.certificate.Certificate.{Certificate}
use Rattle.cert_text.specs.declared.fault.CertFault.{CertFault}
use Rattle.cert_text.specs.declared.fault.CertFault.TheVariants.{Memory}
use Rattle.cert_reader.specs.Faults.{first_fault}
use Rattle.cert_reader.specs.FirstFaults.{IsFirstFault}
use Rattle.cert_reader.specs.Same.{IsSameCertificate}
use Rattle.cert_reader.proofs.FirstFaultLemmas.{is_first, first_is}
use Rattle.cert_reader.proofs.SpellingLemmas.{spelled_without_fault}
use Rattle.cert_reader.proofs.SameLemmas.{one_certificate}

-- a text that spells a certificate has no first fault
pub spelled_or_faulty : (text : List ℕ) (c : Certificate) (f : CertFault) → Spells text c → IsFirstFault text f → ⊥
spelled_or_faulty text c f s is = let e : Some f ≡ None = sym (is_first text f is) ∙ spelled_without_fault text c s in (cc)

-- a text has one first fault at most
pub one_fault : (text : List ℕ) (f g : CertFault) → IsFirstFault text f → IsFirstFault text g → f ≡ g
one_fault text f g a b = let e : Some f ≡ Some g = sym (is_first text f a) ∙ is_first text g b in cc

pub first_fault_is : (text : List ℕ) (r : Result Certificate CertFault) → IfErr r (λ f. (f ≡ Memory) ⊎ (first_fault text ≡ Some f)) → IfErr r (λ f. (f ≡ Memory) ⊎ IsFirstFault text f)
first_fault_is text (Ok c) fault = tt
first_fault_is text (Err f) (inl e) = inl e
first_fault_is text (Err f) (inr e) = inr (first_is text f e)

pub spelled_is_read : (text : List ℕ) (r : Result Certificate CertFault) → IfOk r (Spells text) → IfErr r (λ f. (f ≡ Memory) ⊎ IsFirstFault text f)
    → (c : Certificate) → Spells text c → MatchResult r (λ d. IsSameCertificate d c) (λ f. f ≡ Memory)
spelled_is_read text (Ok d) found fault c s = one_certificate text d c found s
spelled_is_read text (Err f) found fault c s = by_fault fault
  where
    by_fault : ((f ≡ Memory) ⊎ IsFirstFault text f) → f ≡ Memory
    by_fault (inl e) = e
    by_fault (inr is) = absurd (spelled_or_faulty text c f s is)

by_fault : (text : List ℕ) (r : Result Certificate CertFault) (f g : CertFault) → r ≡ Err g → IsFirstFault text f → ((g ≡ Memory) ⊎ IsFirstFault text g) → (r ≡ Err f) ⊎ (r ≡ Err Memory)
by_fault text r f g e is (inl memory) = inr (e ∙ ap Err memory)
by_fault text r f g e is (inr other) = inl (e ∙ ap Err (one_fault text g f other is))

pub fault_is_found : (text : List ℕ) (r : Result Certificate CertFault) → IfOk r (Spells text) → IfErr r (λ f. (f ≡ Memory) ⊎ IsFirstFault text f)
    → (f : CertFault) → IsFirstFault text f → (r ≡ Err f) ⊎ (r ≡ Err Memory)
fault_is_found text (Ok c) found fault f is = absurd (spelled_or_faulty text c f found is)
fault_is_found text (Err g) found fault f is = by_fault text (Err g) f g refl is fault
