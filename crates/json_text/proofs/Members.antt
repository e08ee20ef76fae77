-- The last member of a name, one member at a time.
use Rattle.std.proofs.Common.{◌≡◌, ℕ, Bool, true, false, cond, List, [], ◌∷◌, ◌++◌, None, Some, refl, ap, ◌∙◌}
use Rattle.std.specs.Option.{option_or}
use Rattle.std.specs.Str.{bytes_eq}
use Rattle.json_text.specs.Tree.{Json, last_of, members_of}
use Rattle.json_text.specs.Values.{json_of, pairs_of}
use Rattle.json_text.specs.declared.tree.Tree.{Tree}

last_step : (name : List ℕ) (front : List (List ℕ × Json)) (key : List ℕ) (tree : Json) →
    last_of (members_of (front ++ (key, tree) ∷ [])) name ≡ cond (bytes_eq key name) (Some tree) (last_of (members_of front) name)
last_step name [] key tree = elim (bytes_eq key name) as (λ b. option_or None (cond b (Some tree) None) ≡ cond b (Some tree) None) [ true ↦ refl | false ↦ refl ]
last_step name (m ∷ front) key tree =
    let first = λ (b : Bool). cond b (Some m.1) None in
    ap (λ later. option_or later (first (bytes_eq m.0 name))) (last_step name front key tree)
    ∙ elim (bytes_eq key name) as (λ b. option_or (cond b (Some tree) (last_of (members_of front) name)) (first (bytes_eq m.0 name))
    ≡ cond b (Some tree) (option_or (last_of (members_of front) name) (first (bytes_eq m.0 name)))) [ true ↦ refl | false ↦ refl ]

pairs_push : (front : List (List ℕ × Tree)) (m : List ℕ × Tree) → pairs_of (front ++ m ∷ []) ≡ pairs_of front ++ (m.0, json_of m.1) ∷ []
pairs_push [] m = refl
pairs_push (x ∷ front) m = ap (λ (ps : List (List ℕ × Json)). (x.0, json_of x.1) ∷ ps) (pairs_push front m)

pub last_push : (name : List ℕ) (front : List (List ℕ × Tree)) (m : List ℕ × Tree) →
    last_of (members_of (pairs_of (front ++ m ∷ []))) name ≡ cond (bytes_eq m.0 name) (Some (json_of m.1)) (last_of (members_of (pairs_of front)) name)
last_push name front m = ap (λ (ps : List (List ℕ × Json)). last_of (members_of ps) name) (pairs_push front m) ∙ last_step name (pairs_of front) m.0 (json_of m.1)
