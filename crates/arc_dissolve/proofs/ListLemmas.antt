-- Lists of vectors, and lists side by side.
use Rattle.std.proofs.Common.{◌≡◌, ℕ, ◌+◌, ◌<◌, Bool, true, false, cond, filter, List, [], ◌∷◌, ◌++◌, length, map, take, set, get_or, All, Vec, refl, sym, ap, subst, ◌∙◌, arith}
use Rattle.std.specs.List.{AllZip}
use Rattle.std.specs.declared.alloc.Global.{Global}
use Rattle.std.proofs.lemmas.List.{map_more, map_push, map-set, get_or-map, length-map}
use Rattle.std.proofs.lemmas.List.Elements.{All-map}
use Rattle.agg_base.specs.Lists.{lists_of, nested_of}

-- what holds of all lists that vectors hold holds of the one that a loop takes up
pub one_of : {X : Type 0} (P : List X → Type 0) (vs : List (Vec X Global)) (i : ℕ) (v : Vec X Global) (xs : List X) → All (λ w. P w.items) vs → i < length vs → v ≡ get_or vs i v → xs ≡ v.items → P xs
one_of P vs i v xs all h is e = subst P (sym e) (subst (λ w. P w.items) (sym is) (all i v h))

pub zip_push : {A B : Type 0} (R : A → B → Type 0) (xs : List A) (ys : List B) (x : A) (y : B) → AllZip R xs ys → R x y → AllZip R (xs ++ x ∷ []) (ys ++ y ∷ [])
zip_push R [] [] x y z r = (r, tt)
zip_push R [] (b ∷ ys) x y z r = absurd z
zip_push R (a ∷ xs) [] x y z r = absurd z
zip_push R (a ∷ xs) (b ∷ ys) x y z r = (z.0, zip_push R xs ys x y z.1 r)

-- one more vector beside one more element
pub zip_more : {X B : Type 0} (R : List X → B → Type 0) (vs : List (Vec X Global)) (ys new : List B) (i : ℕ) (v : Vec X Global) (xs : List X) (y : B) → i < length vs → v ≡ get_or vs i v → xs ≡ v.items → AllZip R (lists_of (take i vs)) ys → R xs y → new ≡ ys ++ y ∷ [] → AllZip R (lists_of (take (i + 1) vs)) new
zip_more R vs ys new i v xs y h is e z r n =
    let more = map_more (λ w. w.items) vs i v h in
    let here = subst (λ l. R l y) e r in
    let there = subst (λ w. R w.items y) is here in
    subst (λ l. AllZip R (lists_of (take (i + 1) vs)) l) (sym n) (subst (λ l. AllZip R l (ys ++ y ∷ [])) (sym more) (zip_push R (lists_of (take i vs)) ys (get_or vs i v).items y z there))

pub lists_length : {X : Type 0} (vs : List (Vec X Global)) → length (lists_of vs) ≡ length vs
lists_length vs = length-map vs (λ v. v.items)

-- a vector at the end of one of the lists
pub put_is : {X : Type 0} (slots : List (Vec (Vec X Global) Global)) (at : ℕ) (slot new : Vec (Vec X Global) Global) (v : Vec X Global) (ring : List X) → at < length slots → slot ≡ get_or slots at slot → new.items ≡ slot.items ++ v ∷ [] → v.items ≡ ring →
    nested_of (set slots at new) ≡ set (nested_of slots) at (get_or (nested_of slots) at [] ++ ring ∷ [])
put_is slots at slot new v ring h is n r =
    let old : lists_of slot.items ≡ get_or (nested_of slots) at [] = ap (λ w. lists_of w.items) is ∙ sym (get_or-map (λ w. lists_of w.items) slots at slot [] h) in
    let now : lists_of new.items ≡ get_or (nested_of slots) at [] ++ ring ∷ [] = ap lists_of n ∙ (map_push (λ w. w.items) slot.items v ∙ (ap (λ l. l ++ v.items ∷ []) old ∙ ap (λ x. get_or (nested_of slots) at [] ++ x ∷ []) r)) in
    map-set (λ w. lists_of w.items) slots at new ∙ ap (λ l. set (nested_of slots) at l) now

map_cond : {X Y : Type 0} (f : X → Y) (b : Bool) (x : X) (xs : List X) → map f (cond b (x ∷ xs) xs) ≡ cond b (f x ∷ map f xs) (map f xs)
map_cond f true x xs = refl
map_cond f false x xs = refl

-- to keep what passes and to map is to map and to keep
pub map-filter : {X Y : Type 0} (f : X → Y) (p : Y → Bool) (xs : List X) → map f (filter (λ x. p (f x)) xs) ≡ filter p (map f xs)
map-filter f p [] = refl
map-filter f p (x ∷ xs) = map_cond f (p (f x)) x (filter (λ y. p (f y)) xs) ∙ ap (λ l. cond (p (f x)) (f x ∷ l) l) (map-filter f p xs)

-- what holds of the lists holds of what the vectors hold, and the other way round
pub all_held : {X : Type 0} (P : List X → Type 0) (vs : List (Vec X Global)) → All P (lists_of vs) → All (λ v. P v.items) vs
all_held P vs all k d h = subst P (get_or-map (λ v. v.items) vs k d d.items h) (all k d.items (omega (arith, h, lists_length vs)))

pub all_listed : {X : Type 0} (P : List X → Type 0) (vs : List (Vec X Global)) → All (λ v. P v.items) vs → All P (lists_of vs)
all_listed P vs all = All-map P (λ v. v.items) vs all
