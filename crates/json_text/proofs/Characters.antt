-- The reader of characters keeps the three facts.
use Rattle.std.proofs.Common.{◌≡◌, true, refl}
use Rattle.json_text.specs.CharacterSteps.{is_sound}
use Rattle.json_text.specs.declared.character.Part.{Part}
use Rattle.json_text.proofs.CharacterFacts.{CharacterFacts, IsReached, due, more}
use Rattle.json_text.proofs.PartsCompleted.{part_completes}
use Rattle.json_text.proofs.ReadCharacters.{whole_back}
use Rattle.json_text.proofs.SpelledCharacters.{spelled_finishes}
use Rattle.json_text.proofs.TakesSound.{more_sound}

reached_sound : (part : Part) → IsReached part → is_sound part ≡ true
reached_sound part due = refl
reached_sound part (more before next byte reached e) = more_sound before next byte (reached_sound before reached) e

pub characters : CharacterFacts
characters = record { back = whole_back; on = spelled_finishes; ends = λ part reached. part_completes part (reached_sound part reached) }
