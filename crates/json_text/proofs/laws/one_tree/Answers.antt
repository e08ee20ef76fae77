use Rattle.json_text.proofs.Characters.{characters}
use Rattle.json_text.proofs.LawLemmas.{one_tree_text}
use Rattle.json_text.proofs.laws.one_tree.Goals as goal

pub returns : goal.returns
returns c = one_tree_text characters
