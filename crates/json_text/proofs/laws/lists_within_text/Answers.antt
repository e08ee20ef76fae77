use Rattle.json_text.proofs.LengthLemmas.{lists_within}
use Rattle.json_text.proofs.laws.lists_within_text.Goals as goal

pub returns : goal.returns
returns c = lists_within
