-- From the fault of a text to the refusal by its line.
use Rattle.std.proofs.Common.{◌≡◌, ◌≢◌, ◌⊎◌, inl, inr, ℕ, List, codes, Result, Ok, Err, IfOk, sym, ◌∙◌, ap}
use Rattle.agg_base.specs.declared.text.NoMemory.{NoMemory}
use Rattle.map_values.specs.Layers.{Layer}
use Rattle.topo_reader.specs.Faults as topologies
use Rattle.topo_reader.specs.Topology.{SpellsTopology}
use Rattle.topo_reader.proofs.Faulty as topology_laws
use Rattle.cert_text.specs.declared.fault.CertFault.{CertFault}
use Rattle.cert_text.specs.declared.fault.CertFault.TheVariants.{Memory as MemoryFault}
use Rattle.cert_reader.specs.FirstFaults.{IsFirstFault}
use Rattle.cert_reader.proofs.LawLemmas.{spelled_or_faulty, one_fault}
use Rattle.generalise_steps.specs.FaultLines.{topology_line}
use Rattle.generalise_steps.specs.Halts.{IfRefused}
use Rattle.generalise_steps.specs.declared.halt.Halt.{Halt}
use Rattle.generalise_steps.proofs.StepLemmas.{IsHaltBy, halted}
use Rattle.generalise_steps.proofs.MapLemmas.{one_line_by_value, value_clash}
use Rattle.check_steps.specs.CertificateTexts.{certificate_line, RefusesCertificate}
use Rattle.check_steps.specs.DrawnTexts.{drawn_pick}
use Rattle.check_steps.specs.Laws.{CertificateLines, DrawnLines}

-- a fault that is not want of memory is the first one
first_of : (text : List ℕ) (f : CertFault) → (f ≡ MemoryFault) ⊎ IsFirstFault text f → f ≢ MemoryFault → IsFirstFault text f
first_of text f (inl memory) real = absurd (real memory)
first_of text f (inr first) real = first

pub certificate_refused : (text : List ℕ) (f : CertFault) (line : Result (List ℕ) NoMemory) (h : Halt)
    → (f ≡ MemoryFault) ⊎ IsFirstFault text f → IfOk line (λ l. l ≡ certificate_line f) → IfOk line (λ _. f ≢ MemoryFault) → IsHaltBy line h
    → IfRefused h (RefusesCertificate text)
certificate_refused text f (Ok l) h is e real by =
    halted (Ok l) h (RefusesCertificate text) by (record { fault = f; first = first_of text f is real; line_is = e })
certificate_refused text f (Err none) h is e real by = halted (Err none) h (RefusesCertificate text) by (tt)

pub certificate_lines : CertificateLines
certificate_lines = (
  λ text line c spelled refused. spelled_or_faulty text c refused.fault spelled refused.first,
  λ text l m one other. one.line_is ∙ ap certificate_line (one_fault text one.fault other.fault one.first other.first) ∙ sym other.line_is,
)

pub drawn_lines : DrawnLines
drawn_lines = (
  λ text line layer spelled refused.
      value_clash (codes "out") (λ tree l. SpellsTopology tree drawn_pick.class drawn_pick.object l) (λ tree f. topologies.IsFirstFault tree drawn_pick.class drawn_pick.object f) (topology_line (codes "out"))
      (λ tree l f. topology_laws.layer_without_fault tree drawn_pick.class drawn_pick.object l f) text line layer spelled refused,
  λ text l m one other.
      one_line_by_value (codes "out") (λ tree f. topologies.IsFirstFault tree drawn_pick.class drawn_pick.object f) (topology_line (codes "out"))
      (λ tree f g. topology_laws.one_fault tree drawn_pick.class drawn_pick.object f g) text l m one other,
)
