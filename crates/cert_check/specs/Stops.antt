-- Why the judge stops.
use Rattle.std.specs.Prelude.{◌≡◌, ⊤}
use Rattle.tree_check.specs.declared.fault.TreeFault.{TreeFault}
use Rattle.tree_check.specs.declared.fault.TreeFault.TheVariants.{Memory as TreeMemory}
use Rattle.cert_check.specs.Verdicts.{IsFlawOf}
use Rattle.cert_check.specs.declared.verdict.Verdict.{Verdict}
use Rattle.cert_check.specs.declared.stop.Stop.{Stop}
use Rattle.cert_check.specs.declared.stop.Stop.TheVariants.{Flaw, Memory}

-- the flaw is such a one, or memory ran out
abbrev pub IsStop : (Verdict → Type 0) → Stop → Type 0
IsStop IsFlaw (Flaw flaw) = IsFlaw flaw
IsStop IsFlaw Memory = ⊤

-- the flaw that is the fault of a tree, or memory ran out
abbrev pub IsStopOf : TreeFault → Stop → Type 0
IsStopOf fault (Flaw flaw) = IsFlawOf fault flaw
IsStopOf fault Memory = fault ≡ TreeMemory
