-- The lists that vectors of vectors hold.
use Rattle.std.specs.Prelude.{List, map, Vec}
use Rattle.std.specs.declared.alloc.Global.{Global}

-- the lists that vectors hold
abbrev pub lists_of : {X : Type 0} → List (Vec X Global) → List (List X)
lists_of vs = map (λ v. v.items) vs

-- the lists that vectors of vectors hold
abbrev pub nested_of : {X : Type 0} → List (Vec (Vec X Global) Global) → List (List (List X))
nested_of vs = map (λ v. lists_of v.items) vs
