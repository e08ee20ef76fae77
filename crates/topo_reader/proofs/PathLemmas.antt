-- The ends of paths, and paths joined one after another.
use Rattle.std.proofs.Common.{◌≡◌, ◌∙◌, ◌-◌, refl, sym, ap, ℕ, suc, List, [], ◌∷◌, ◌++◌, length, reverse, get_or, arith}
use Rattle.std.specs.Prelude.{Option, Some, None, slice_get}
use Rattle.std.proofs.lemmas.List.{reverse-append, reverse-reverse}
use Rattle.std.proofs.lemmas.Option.{slice_get-get_or}
use Rattle.map_values.proofs.Values.{some_same}
use Rattle.plane_edge.specs.Paths.{first_of, last_of, AreJoined}
use Rattle.plane_edge.specs.declared.point.Point.{Point}

-- ---- ends

pub last_cons : (x y : Point) (ys : List Point) → last_of (x ∷ y ∷ ys) ≡ last_of (y ∷ ys)
last_cons x y ys =
    let e : suc (suc (length ys)) - 1 ≡ suc (length ys) = omega arith in
    let f : suc (length ys) - 1 ≡ length ys = omega arith in
    ap (λ (k : ℕ). slice_get (x ∷ y ∷ ys) k) e ∙ sym (ap (λ (k : ℕ). slice_get (y ∷ ys) k) f)

pub last_append : (xs : List Point) (y : Point) (ys : List Point) → last_of (xs ++ y ∷ ys) ≡ last_of (y ∷ ys)
last_append [] y ys = refl
last_append (x ∷ []) y ys = last_cons x y ys
last_append (x ∷ z ∷ zs) y ys = last_cons x z (zs ++ y ∷ ys) ∙ last_append (z ∷ zs) y ys

-- a path that begins somewhere ends somewhere
pub last_some : (points : List Point) (b : Point) → first_of points ≡ Some b → (e : Point) × (last_of points ≡ Some e)
last_some [] b is = absurd (let never : None ≡ Some b = is in cc)
last_some (p ∷ ps) b is = (get_or (p ∷ ps) (length (p ∷ ps) - 1) p, slice_get-get_or (p ∷ ps) (length (p ∷ ps) - 1) p (omega arith))

pub begins_with : (path : List Point) (b : Point) → first_of path ≡ Some b → (behind : List Point) × (path ≡ b ∷ behind)
begins_with [] b is = absurd (let never : None ≡ Some b = is in cc)
begins_with (p ∷ ps) b is = (ps, ap (λ (q : Point). q ∷ ps) (some_same p b is))

-- ---- backwards

pub reverse_cons : (p : Point) (ps : List Point) → reverse (p ∷ ps) ≡ reverse ps ++ p ∷ []
reverse_cons p ps = reverse-append (p ∷ []) ps

pub last_reverse : (ps : List Point) → last_of (reverse ps) ≡ first_of ps
last_reverse [] = refl
last_reverse (p ∷ ps) = ap (λ (xs : List Point). last_of xs) (reverse_cons p ps) ∙ last_append (reverse ps) p []

pub first_reverse : (ps : List Point) → first_of (reverse ps) ≡ last_of ps
first_reverse ps = sym (last_reverse (reverse ps)) ∙ ap (λ (xs : List Point). last_of xs) (reverse-reverse ps)

-- ---- joined paths

pub joined_push : (b m e : Option Point) (paths : List (List Point)) (path : List Point) → AreJoined b paths m → first_of path ≡ m → last_of path ≡ e → AreJoined b (paths ++ path ∷ []) e
joined_push b m e [] path joined first last = (first ∙ sym joined, last)
joined_push b m e (p ∷ ps) path joined first last = (joined.0, joined_push (last_of p) m e ps path joined.1 first last)

-- where the paths go on joined, the next one begins where those before it end
pub joined_at : (b m e : Option Point) (paths : List (List Point)) (path : List Point) (rest : List (List Point)) → AreJoined b paths m → AreJoined b (paths ++ path ∷ rest) e → first_of path ≡ m
joined_at b m e [] path rest front joined = joined.0 ∙ front
joined_at b m e (p ∷ ps) path rest front joined = joined_at (last_of p) m e ps path rest front.1 joined.1

pub joined_same : (b m n : Option Point) (paths : List (List Point)) → AreJoined b paths m → AreJoined b paths n → m ≡ n
joined_same b m n [] s t = sym s ∙ t
joined_same b m n (p ∷ ps) s t = joined_same (last_of p) m n ps s.1 t.1
