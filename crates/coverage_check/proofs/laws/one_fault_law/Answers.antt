use Rattle.coverage_check.proofs.OneFault.{one_fault}
use Rattle.coverage_check.proofs.laws.one_fault_law.Goals as goal

pub returns : goal.returns
returns c = one_fault
