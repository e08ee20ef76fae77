-- The values of JSON that trees of the program stand for.
use Rattle.std.proofs.Common.{◌≡◌, ◌∙◌, sym, ap, ℕ, List}
use Rattle.json_text.specs.Tree.{Json, Number}
use Rattle.json_text.specs.Values.{json_of, json_step}
use Rattle.json_text.specs.declared.tree.Tree.{fold-roll-Tree}
use Rattle.json_text.specs.declared.tree.Tree.TheOpen.{Tree-F}
use Rattle.json_text.specs.declared.tree.Tree.TheVariants

pub number_tree : (text : List ℕ) → json_of (TheVariants.Number text) ≡ Number text
number_tree text = ap json_of (sym (TheVariants.rolls-Number text)) ∙ fold-roll-Tree Json json_step (Tree-F.Number text)
