-- What the reader of characters has to keep: the three facts on which the proofs about whole texts rest.
use Rattle.std.proofs.Common.{◌≡◌, ℕ, List, Some}
use Rattle.std.specs.Char.{encode_utf8}
use Rattle.json_text.specs.Strings.{SpellsCharacter}
use Rattle.json_text.specs.CharacterSteps.{take_byte}
use Rattle.json_text.specs.declared.character.Part.{Part}
use Rattle.json_text.specs.declared.character.Taken.{Taken}
use Rattle.json_text.proofs.Completion.{Finishes}
use Rattle.json_text.proofs.BackTexts.{DueBack}

-- each text that spells a character is taken to its end, as that character
abbrev pub DueOn : Type 0
DueOn = (text bytes : List ℕ) → SpellsCharacter text bytes → (character : ℕ) × Finishes text character Part.Due × (bytes ≡ encode_utf8 character)

-- how far a character can have come
pub data IsReached : Part → Type 0 where
  due : IsReached Part.Due
  more : (part next : Part) (byte : ℕ) → IsReached part → take_byte part byte ≡ Some (Taken.More next) → IsReached next

-- some bytes take a part of a character to the end of some character
abbrev pub CanEnd : Part → Type 0
CanEnd part = (character : ℕ) × (text : List ℕ) × Finishes text character part

-- each character that has begun can be completed
abbrev pub PartsEnd : Type 0
PartsEnd = (part : Part) → IsReached part → CanEnd part

pub record CharacterFacts : Type 0 where
  pub back : DueBack
  pub on : DueOn
  pub ends : PartsEnd
