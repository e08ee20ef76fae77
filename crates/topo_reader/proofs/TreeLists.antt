-- Lists of values of the program, one value at a time.
use Rattle.std.proofs.Common.{◌≡◌, ◌∙◌, ◌<◌, ◌≤◌, ◌+◌, refl, sym, ap, subst, ℕ, zero, suc, List, [], ◌∷◌, ◌++◌, length, map, take, drop, get_or, Bor, arith, add-one}
use Rattle.std.specs.Prelude.{Vec}
use Rattle.std.specs.declared.alloc.Global.{Global}
use Rattle.std.specs.List.{AllByRecursion}
use Rattle.std.proofs.lemmas.List.{take_more, take_all, map-append, length-take-le}
use Rattle.agg_base.specs.Lists.{lists_of}
use Rattle.json_text.specs.Tree.{Json, array}
use Rattle.json_text.specs.Values.{json_of, list_of}
use Rattle.json_text.specs.declared.tree.Tree.{Tree}
use Rattle.map_values.proofs.Values.{one_array}
use Rattle.topo_reader.specs.ArcFaults.{HasNumbers, IsArc}
use Rattle.topo_reader.specs.Indexes.{rings_in}

-- one more value
pub listed_more : (xs : List Tree) (i : ℕ) (x : Tree) → i < length xs → x ≡ get_or xs i x → list_of (take (i + 1) xs) ≡ list_of (take i xs) ++ json_of x ∷ []
listed_more xs i x low is =
    ap (λ (ts : List Tree). list_of ts) (take_more xs i x low ∙ ap (λ (y : Tree). take i xs ++ y ∷ []) (sym is)) ∙ map-append json_of (take i xs) (x ∷ [])

cut_next : {X : Type 0} (xs : List X) (i : ℕ) (x : X) → i < length xs → xs ≡ take i xs ++ get_or xs i x ∷ drop (suc i) xs
cut_next [] i x low = absurd (omega arith)
cut_next (y ∷ xs) zero x low = refl
cut_next {X} (y ∷ xs) (suc i) x low = ap (λ (ys : List X). y ∷ ys) (cut_next xs i x (omega arith))

cut_at : {X : Type 0} (xs : List X) (i : ℕ) (x : X) → i < length xs → xs ≡ take i xs ++ get_or xs i x ∷ drop (i + 1) xs
cut_at xs i x low = cut_next xs i x low ∙ ap (λ (k : ℕ). take i xs ++ get_or xs i x ∷ drop k xs) (sym (add-one i))

-- the values before one, that one, and those behind it
pub listed_at : (xs : List Tree) (i : ℕ) (x : Tree) → i < length xs → x ≡ get_or xs i x → list_of xs ≡ list_of (take i xs) ++ json_of x ∷ list_of (drop (i + 1) xs)
listed_at xs i x low is =
    ap (λ (ts : List Tree). list_of ts) (cut_at xs i x low ∙ ap (λ (y : Tree). take i xs ++ y ∷ drop (i + 1) xs) (sym is)) ∙ map-append json_of (take i xs) (x ∷ drop (i + 1) xs)

pub listed_all : (xs : List Tree) (i : ℕ) → length xs ≤ i → list_of (take i xs) ≡ list_of xs
listed_all xs i long = ap (λ (ts : List Tree). list_of ts) (take_all i xs long)

pub length_listed : (xs : List Tree) → length (list_of xs) ≡ length xs
length_listed [] = refl
length_listed (x ∷ xs) = ap suc (length_listed xs)

-- ---- what holds of all

pub all_push : {X : Type 0} (P : X → Type 0) (xs : List X) (x : X) → AllByRecursion P xs → P x → AllByRecursion P (xs ++ x ∷ [])
all_push P [] x all here = (here, tt)
all_push P (y ∷ xs) x all here = (all.0, all_push P xs x all.1 here)

pub all_inside : {X : Type 0} (P : X → Type 0) (xs : List X) (x : X) (ys : List X) → AllByRecursion P (xs ++ x ∷ ys) → P x
all_inside P [] x ys all = all.0
all_inside P (y ∷ xs) x ys all = all_inside P xs x ys all.1

-- what holds of all values holds of each
pub all_at : (P : Json → Type 0) (xs : List Tree) (i : ℕ) (x : Tree) → i < length xs → x ≡ get_or xs i x → AllByRecursion P (list_of xs) → P (json_of x)
all_at P xs i x low is all =
    all_inside P (list_of (take i xs)) (json_of x) (list_of (drop (i + 1) xs)) (subst (λ (ts : List Json). AllByRecursion P ts) (listed_at xs i x low is) all)

-- the positions of an arc that are held
pub arc_items : (tree : Json) (xs : List Tree) (positions : List Json) → tree ≡ array (list_of xs) → IsArc tree positions → (2 ≤ length xs) × AllByRecursion HasNumbers (list_of xs)
arc_items tree xs positions is form =
    let same : positions ≡ list_of xs = one_array tree positions (list_of xs) form.list is in
    let long = form.long in
    let count : length positions ≡ length xs = ap (λ (ts : List Json). length ts) same ∙ length_listed xs in
    (omega arith, subst (λ (ts : List Json). AllByRecursion HasNumbers ts) same form.each)

-- ---- lists of what stands for each item

pub taken_more : {X : Type 0} (xs : List X) (i : ℕ) (x : X) → i < length xs → x ≡ get_or xs i x → take (i + 1) xs ≡ take i xs ++ x ∷ []
taken_more xs i x low is = take_more xs i x low ∙ ap (λ y. take i xs ++ y ∷ []) (sym is)

pub taken_at : {X : Type 0} (xs : List X) (i : ℕ) (x : X) → i < length xs → x ≡ get_or xs i x → xs ≡ take i xs ++ x ∷ drop (i + 1) xs
taken_at xs i x low is = cut_at xs i x low ∙ ap (λ y. take i xs ++ y ∷ drop (i + 1) xs) (sym is)

pub mapped_more : {X Y : Type 0} (f : X → Y) (xs : List X) (i : ℕ) (x : X) → i < length xs → x ≡ get_or xs i x → map f (take (i + 1) xs) ≡ map f (take i xs) ++ f x ∷ []
mapped_more {X} f xs i x low is = ap (λ (ys : List X). map f ys) (take_more xs i x low ∙ ap (λ (y : X). take i xs ++ y ∷ []) (sym is)) ∙ map-append f (take i xs) (x ∷ [])

pub mapped_at : {X Y : Type 0} (f : X → Y) (xs : List X) (i : ℕ) (x : X) → i < length xs → x ≡ get_or xs i x → map f xs ≡ map f (take i xs) ++ f x ∷ map f (drop (i + 1) xs)
mapped_at {X} f xs i x low is = ap (λ (ys : List X). map f ys) (cut_at xs i x low ∙ ap (λ (y : X). take i xs ++ y ∷ drop (i + 1) xs) (sym is)) ∙ map-append f (take i xs) (x ∷ drop (i + 1) xs)

pub mapped_all : {X Y : Type 0} (f : X → Y) (xs : List X) (i : ℕ) → length xs ≤ i → map f (take i xs) ≡ map f xs
mapped_all {X} f xs i long = ap (λ (ys : List X). map f ys) (take_all i xs long)

pub listed_count : (xs : List Tree) (i : ℕ) → i ≤ length xs → length (list_of (take i xs)) ≡ i
listed_count xs i low = length_listed (take i xs) ∙ length-take-le i xs low

pub pushed_lists : {X : Type 0} (vs next : List (Vec X Global)) (v : Vec X Global) → next ≡ vs ++ v ∷ [] → lists_of next ≡ lists_of vs ++ v.items ∷ []
pushed_lists {X} vs next v is = ap (λ (ws : List (Vec X Global)). lists_of ws) is ∙ map-append (λ (w : Vec X Global). w.items) vs (v ∷ [])

pub pushed_rings : (rings next : List (Bor (List Tree))) (ring : Bor (List Tree)) → next ≡ rings ++ ring ∷ [] → rings_in next ≡ rings_in rings ++ list_of ring.now ∷ []
pushed_rings rings next ring is = ap rings_in is ∙ map-append (λ (r : Bor (List Tree)). list_of r.now) rings (ring ∷ [])

pub listed_within : (xs : List Tree) (n : ℕ) → length (list_of xs) ≤ n → length xs ≤ n
listed_within xs n few = let same = length_listed xs in omega arith
