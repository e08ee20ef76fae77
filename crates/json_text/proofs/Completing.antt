-- Each state between tokens can be completed.
use Rattle.std.proofs.Common.{ℕ, refl, List, [], ◌∷◌, ◌++◌}
use Rattle.std.specs.Prelude.{codes}
use Rattle.json_text.specs.Tree.{Json, Null, Array, Object, no_items, no_members}
use Rattle.json_text.specs.Stacks.{Opened, a_list, some_members, a_name}
use Rattle.json_text.proofs.Completion.{Closes, ValueDue, ColonDue, items_before, members_before}

-- bytes and a value with that property
pub record Some_rest (P : Json → List ℕ → Type 0) : Type 0 where
  pub tree : Json
  pub rest : List ℕ
  pub holds : P tree rest

-- whatever is open can be closed behind a value
pub close_all : (stack : List Opened) (value : Json) → Some_rest (Closes stack value)
close_all [] value = record { tree = value; rest = []; holds = (tt, refl) }
close_all (a_list trees ∷ outer) value =
    let next = close_all outer (Array (items_before (trees ++ value ∷ []) no_items)) in
    record { tree = next.tree; rest = 93 ∷ next.rest; holds = record { space = []; more = no_items; text = []; behind = next.rest; is_space = tt; spelled = refl; next = next.holds; parts = refl } }
close_all (some_members pairs ∷ outer) value =
    let next = close_all outer (Object (members_before pairs no_members)) in
    record { tree = next.tree; rest = 125 ∷ next.rest; holds = record { space = []; more = no_members; text = []; behind = next.rest; is_space = tt; spelled = refl; next = next.holds; parts = refl } }
close_all (a_name pairs name ∷ outer) value =
    let next = close_all outer (Object (members_before (pairs ++ (name, value) ∷ []) no_members)) in
    record { tree = next.tree; rest = 125 ∷ next.rest; holds = record { space = []; more = no_members; text = []; behind = next.rest; is_space = tt; spelled = refl; next = next.holds; parts = refl } }

pub some_value : (stack : List Opened) → Some_rest (ValueDue stack)
some_value stack =
    let next = close_all stack Null in
    record { tree = next.tree; rest = codes "null" ++ next.rest; holds = record { space = []; value = Null; bare = codes "null"; behind = next.rest; is_space = tt; spelled = refl; next = next.holds; parts = refl } }

pub some_colon : (stack : List Opened) → Some_rest (ColonDue stack)
some_colon stack =
    let next = some_value stack in
    record { tree = next.tree; rest = 58 ∷ next.rest; holds = record { space = []; behind = next.rest; is_space = tt; next = next.holds; parts = refl } }
