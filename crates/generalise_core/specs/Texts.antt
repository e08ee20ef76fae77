-- Lists that values of the code hold.
use Rattle.std.specs.Prelude.{ℕ, List, map, Option, option_map, Vec}
use Rattle.std.specs.declared.alloc.Global.{Global}
use Rattle.std.specs.Borrow.{Bor}

-- the texts that are lent
abbrev pub texts : List (Bor (List ℕ)) → List (List ℕ)
texts = map (λ x. x.now)

-- the text that is lent, where one is
abbrev pub lent : Option (Bor (List ℕ)) → Option (List ℕ)
lent = option_map (λ x. x.now)

-- the bytes, where there are any
abbrev pub text_of : Option (Vec ℕ Global) → Option (List ℕ)
text_of = option_map (λ text. text.items)
