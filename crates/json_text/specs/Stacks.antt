-- Lists and members that are open, the innermost first.
use Rattle.std.specs.Prelude.{ℕ, Bool, true, false, List, [], ◌∷◌, ◌++◌}
use Rattle.json_text.specs.Tree.{Json, Null, array, object}
use Rattle.json_text.specs.Values.{list_of, pairs_of}
use Rattle.json_text.specs.declared.stack.Frame.{Frame}
use Rattle.json_text.specs.declared.stack.Stack.{Stack}

-- A list with its values so far, members, or members and the name whose value is due.
pub data Opened : Type 0 where
  a_list : List Json → Opened
  some_members : List (List ℕ × Json) → Opened
  a_name : List (List ℕ × Json) → List ℕ → Opened

abbrev pub opened_of : Frame → Opened
opened_of (Frame.List v) = a_list (list_of v.items)
opened_of (Frame.Members v) = some_members (pairs_of v.items)
opened_of (Frame.Named v name) = a_name (pairs_of v.items) name

-- the frames from the outermost on, in front of others
abbrev pub frames_before : List Opened → List Frame → List Opened
frames_before inner [] = inner
frames_before inner (frame ∷ frames) = frames_before (opened_of frame ∷ inner) frames

abbrev pub stack_of : Stack → List Opened
stack_of s = frames_before [] s.frames.items

abbrev pub is_list : Opened → Bool
is_list (a_list trees) = true
is_list (some_members pairs) = false
is_list (a_name pairs name) = false

abbrev pub is_members : Opened → Bool
is_members (a_list trees) = false
is_members (some_members pairs) = true
is_members (a_name pairs name) = false

-- whether the innermost is a list
abbrev pub has_list : List Opened → Bool
has_list [] = false
has_list (inner ∷ outer) = is_list inner

-- whether the innermost is members of which a name is due, or the closing brace
abbrev pub has_members : List Opened → Bool
has_members [] = false
has_members (inner ∷ outer) = is_members inner

-- with one more value, where one is due
abbrev pub with_value : Json → Opened → Opened
with_value tree (a_list trees) = a_list (trees ++ tree ∷ [])
with_value tree (some_members pairs) = some_members pairs
with_value tree (a_name pairs name) = some_members (pairs ++ (name, tree) ∷ [])

abbrev pub stack_with : Json → List Opened → List Opened
stack_with tree [] = []
stack_with tree (inner ∷ outer) = with_value tree inner ∷ outer

-- with one more name, where one is due
abbrev pub with_name : List ℕ → Opened → Opened
with_name name (a_list trees) = a_list trees
with_name name (some_members pairs) = a_name pairs name
with_name name (a_name pairs other) = a_name pairs other

abbrev pub stack_named : List ℕ → List Opened → List Opened
stack_named name [] = []
stack_named name (inner ∷ outer) = with_name name inner ∷ outer

-- the value that it is where it closes
abbrev pub tree_of : Opened → Json
tree_of (a_list trees) = array trees
tree_of (some_members pairs) = object pairs
tree_of (a_name pairs name) = object pairs

abbrev pub tree_of_first : List Opened → Json
tree_of_first [] = Null
tree_of_first (inner ∷ outer) = tree_of inner
