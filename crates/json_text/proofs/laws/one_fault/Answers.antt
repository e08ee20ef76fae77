use Rattle.json_text.proofs.LawLemmas.{one_first_fault}
use Rattle.json_text.proofs.laws.one_fault.Goals as goal

pub returns : goal.returns
returns c = one_first_fault
