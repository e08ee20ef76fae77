-- Lists that begin with numbers.
use Rattle.std.proofs.Common.{◌≡◌, ◌<◌, ap, ℕ, List, ◌∷◌, length, get_or, arith}
use Rattle.json_text.specs.Tree.{Json, Null, Number, array}
use Rattle.map_values.specs.Positions.{BeginsWithNumbers}
use Rattle.map_values.proofs.Values.{array_same}

-- the first two values of a list that begins with two numbers are these numbers
pub first_two : (a b : Json) (more : List Json) (first second : List ℕ) → BeginsWithNumbers (array (a ∷ b ∷ more)) first second → (a ≡ Number first) × (b ≡ Number second)
first_two a b more first second s =
    let same = array_same (a ∷ b ∷ more) (Number first ∷ Number second ∷ s.more) s.list in
    (ap (λ (trees : List Json). get_or trees 0 Null) same, ap (λ (trees : List Json). get_or trees 1 Null) same)

-- a list of less than two values begins with no two numbers
pub too_short : (trees : List Json) (first second : List ℕ) → length trees < 2 → ¬ BeginsWithNumbers (array trees) first second
too_short trees first second short s =
    let same : length trees ≡ length (Number first ∷ Number second ∷ s.more) = ap length (array_same trees (Number first ∷ Number second ∷ s.more) s.list) in omega arith
