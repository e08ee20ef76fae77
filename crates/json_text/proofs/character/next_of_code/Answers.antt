use Rattle.json_text.proofs.CharacterLemmas.{code_sound}
use Rattle.json_text.proofs.character.next_of_code.Goals as goal

pub returns-clause-sound : goal.returns-clause-sound
returns-clause-sound c = rw c.grow_code.ensures (code_sound c.args.digits c.args.value c.in-Some.digit c.requires c.in-Some.ensures.small)
