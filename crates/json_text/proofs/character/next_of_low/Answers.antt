use Rattle.json_text.proofs.CharacterLemmas.{low_sound}
use Rattle.json_text.proofs.character.next_of_low.Goals as goal

pub returns-clause-sound : goal.returns-clause-sound
returns-clause-sound c = rw c.grow_low.ensures (low_sound c.args.high c.args.digits c.args.value c.in-Some.digit c.requires c.in-Some.ensures.small)
