-- The value of `Tree.antt` that a tree of the program stands for.
use Rattle.std.specs.Prelude.{ℕ, List, map}
use Rattle.json_text.specs.Tree.{Json, Null, Truth, Number, Str, array, object}
use Rattle.json_text.specs.declared.tree.Tree.{Tree, fold-Tree}
use Rattle.json_text.specs.declared.tree.Tree.TheOpen.{Tree-F}

-- one level, with each value inside already seen as its `Json`
abbrev pub json_step : Tree-F Json → Json
json_step Tree-F.Null = Null
json_step (Tree-F.Truth b) = Truth b
json_step (Tree-F.Number text) = Number text
json_step (Tree-F.Str text) = Str text
json_step (Tree-F.List v) = array v.items
json_step (Tree-F.Members v) = object v.items

abbrev pub json_of : Tree → Json
json_of = fold-Tree Json json_step

abbrev pub list_of : List Tree → List Json
list_of trees = map json_of trees

-- names and the values that they stand for
abbrev pub pairs_of : List (List ℕ × Tree) → List (List ℕ × Json)
pairs_of members = map (λ m. (m.0, json_of m.1)) members
