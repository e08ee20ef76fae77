-- One number for the areas that links of a kind join: the least of them.
use Rattle.std.specs.Prelude.{ℕ, zero, suc, Bool, ◌==◌, min, max, if◌then◌else◌}
use Rattle.agg_model.specs.Problem.{Problem, low_of, high_of}

-- the number x, where the numbers a and b become the lesser of them
abbrev pub merge : ℕ → ℕ → ℕ → ℕ
merge a b x = (if x == max a b then min a b else x)

-- the least area that v reaches by those of the first n links that pass a test
abbrev pub label : Problem → (ℕ → Bool) → ℕ → ℕ → ℕ
label p test zero v = v
label p test (suc l) v =
    (if test l then merge (label p test l (low_of p l)) (label p test l (high_of p l)) (label p test l v) else label p test l v)
