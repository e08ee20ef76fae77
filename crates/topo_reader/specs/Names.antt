-- The names of members.
use Rattle.std.specs.Prelude.{◌≡◌, ℕ, List, ◌∷◌}
use Rattle.json_text.specs.Tree.{Json}

-- the first of the members has that name
pub record BeginWith (pairs : List (List ℕ × Json)) (name : List ℕ) : Type 0 where
  pub member : List ℕ × Json
  pub more : List (List ℕ × Json)
  pub begins : pairs ≡ member ∷ more
  pub name_is : name ≡ member.0
