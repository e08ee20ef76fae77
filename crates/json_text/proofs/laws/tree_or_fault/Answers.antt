use Rattle.json_text.proofs.Characters.{characters}
use Rattle.json_text.proofs.LawLemmas.{some_answer}
use Rattle.json_text.proofs.laws.tree_or_fault.Goals as goal

pub returns : goal.returns
returns c = some_answer characters
