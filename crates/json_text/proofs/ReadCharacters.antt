-- What is read is spelled so.
use Rattle.std.proofs.Common.{◌≡◌, ℕ, List}
use Rattle.std.specs.Prelude.{Ok}
use Rattle.json_text.specs.Tree.{Json}
use Rattle.json_text.specs.Spelling.{Spells}
use Rattle.json_text.specs.Steps.{reading}
use Rattle.json_text.proofs.WholeCharacters.{due_back}
use Rattle.json_text.proofs.SeveralBytes.{several_back}
use Rattle.json_text.proofs.CodeCharacters.{code_back}
use Rattle.json_text.proofs.BackTexts.{DueBack}
use Rattle.json_text.proofs.Found.{found}

pub whole_back : DueBack
whole_back = due_back several_back code_back

pub reading_spells : (bytes : List ℕ) (tree : Json) → reading bytes ≡ Ok tree → Spells bytes tree
reading_spells = found whole_back
