-- The exit code of each status, the status of each kind of answer, and how else a run may end.
use Rattle.std.specs.Prelude.{◌≡◌, ◌⊎◌, ℕ}
use Rattle.generalise_core.specs.declared.status.Status.{Status}
use Rattle.generalise_core.specs.declared.status.Status.TheVariants.{Done, Within, Hopeless, Invalid, Usage, Refused, Memory, ReadFault, WriteFault}
use Rattle.cert_text.specs.declared.certificate.CertStatus.{CertStatus}
use Rattle.cert_text.specs.declared.certificate.CertStatus.TheVariants as cert

abbrev pub code_of : Status → ℕ
code_of Done = 0
code_of Within = 3
code_of Hopeless = 4
code_of Invalid = 5
code_of Usage = 64
code_of Refused = 65
code_of Memory = 70
code_of ReadFault = 74
code_of WriteFault = 75

-- the status of a run that put all out
abbrev pub status_of : CertStatus → Status
status_of cert.Optimal = Done
status_of cert.Within = Within
status_of cert.Hopeless = Hopeless

-- a grouping was found
abbrev pub HasGrouping : Status → Type 0
HasGrouping status = (status ≡ Done) ⊎ (status ≡ Within)

-- a run that is to end so may run out of memory, or fail to say its line
abbrev pub MayEndAs : Status → Status → Type 0
MayEndAs wanted status = (status ≡ wanted) ⊎ (status ≡ WriteFault) ⊎ (status ≡ Memory)

-- the same, where a fetch may fail before
abbrev pub MayFailAs : Status → Status → Type 0
MayFailAs wanted status = (status ≡ ReadFault) ⊎ MayEndAs wanted status
