-- Members and values of JSON that the forms of maps ask for.
use Rattle.std.specs.Prelude.{◌≡◌, ℕ, Bool, true, false, List, Option, Some, None, codes}
use Rattle.json_text.specs.Tree.{Json, Null, Truth, Number, Str, Array, Object, member_of}

-- the value is there and is null
abbrev pub is_null : Option Json → Bool
is_null None = false
is_null (Some Null) = true
is_null (Some (Truth _)) = false
is_null (Some (Number _)) = false
is_null (Some (Str _)) = false
is_null (Some (Array _)) = false
is_null (Some (Object _)) = false

-- the member `type` is this text
abbrev pub HasType : Json → List ℕ → Type 0
HasType tree name = member_of tree (codes "type") ≡ Some (Str name)
