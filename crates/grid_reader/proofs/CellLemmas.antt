-- One more word of cells.
use Rattle.std.proofs.Common.{◌≡◌, ℕ, ◌+◌, ◌*◌, ◌/◌, ◌%◌, ◌<◌, sym, arith, subst, List, [], ◌∷◌, ◌++◌, length, take, ℤ, length-append, mul_comm, to_z, of_z, w32}
use Rattle.std.specs.List.{AllZip}
use Rattle.std.proofs.lemmas.List.{take_all}
use Rattle.std.proofs.lemmas.Int.{ints, to_z-of_z}
use Rattle.grid_reader.specs.Numbers.{SpellsCell}

zip_push : {A B : Type 0} (R : A → B → Type 0) (xs : List A) (ys : List B) (x : A) (y : B) → AllZip R xs ys → R x y → AllZip R (xs ++ x ∷ []) (ys ++ y ∷ [])
zip_push R [] [] x y h r = (r, tt)
zip_push R [] (b ∷ ys) x y h r = absurd h
zip_push R (a ∷ xs) [] x y h r = absurd h
zip_push R (a ∷ xs) (b ∷ ys) x y h r = (h.0, zip_push R xs ys x y h.1 r)

-- the word of a cell
pub taken_more : (total : ℕ) (parts : List (List ℕ)) (w : List ℕ) (values : List ℤ) (z : ℤ) → length parts < total → AllZip SpellsCell (take total parts) values → SpellsCell w z → AllZip SpellsCell (take total (parts ++ w ∷ [])) (values ++ z ∷ [])
taken_more total parts w values z h zip is =
    let long = length-append parts (w ∷ []) in
    let all : take total parts ≡ parts = take_all total parts (omega arith) in
    let more : take total (parts ++ w ∷ []) ≡ parts ++ w ∷ [] = take_all total (parts ++ w ∷ []) (omega arith) in
    subst (λ (xs : List (List ℕ)). AllZip SpellsCell xs (values ++ z ∷ [])) (sym more)
    (zip_push SpellsCell parts values w z (subst (λ (xs : List (List ℕ)). AllZip SpellsCell xs values) all zip) is)

-- the row and the column of a place
pub place_of_count : (at columns : ℕ) → 0 < columns → (at / columns) * columns + at % columns ≡ at
place_of_count at columns h = omega (arith, mul_comm (at / columns) columns)

-- a value that was stored
pub stored : (z : ℤ) (text : List ℕ) → SpellsCell text z → to_z w32 (of_z w32 z) ≡ z
stored z text is = let low = is.least in let high = is.most in to_z-of_z w32 z (search (arith, ints))
