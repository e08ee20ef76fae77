-- Indexes as texts, and as the whole numbers that were read of them.
use Rattle.std.proofs.Common.{◌≡◌, ◌∙◌, ◌<◌, ◌&&◌, ◌^◌, refl, sym, ap, ap₂, subst, ℕ, zero, suc, Bool, true, false, List, [], ◌∷◌, length, reverse, arith, ℤ, pos, negsuc}
use Rattle.std.specs.Prelude.{Option, Some, None, slice_get, unwrap_or, FitsSigned}
use Rattle.std.specs.Option.{option_map}
use Rattle.std.specs.Int.{w64}
use Rattle.std.specs.List.{AllByRecursion, AllZip, list_all}
use Rattle.std.proofs.lemmas.Bool.Decides.{nat_tests}
use Rattle.agg_base.specs.Numbers.{SpellsWhole, IsWholeAnswer}
use Rattle.agg_base.specs.declared.numeral.Whole.{Whole}
use Rattle.agg_base.specs.declared.numeral.Whole.TheVariants.{Not, Beyond, Is}
use Rattle.agg_base.proofs.WholeText.{one_whole}
use Rattle.json_text.proofs.Cases.{false_true}
use Rattle.map_values.proofs.Values.{some_same, number_same}
use Rattle.plane_edge.specs.Paths.{points_along}
use Rattle.plane_edge.specs.declared.point.Point.{Point}
use Rattle.topo_reader.specs.Indexes.{is_index, AreInRange, are_indexes, path_told, paths_told, CanClose, rings_along}
use Rattle.topo_reader.specs.PlaceFaults.{ring_tree, IsIndex, AreIndexes, AreClosed}
use Rattle.topo_reader.specs.Rings.{path_of, SpellsRing}
use Rattle.topo_reader.proofs.Closed.{TellsPath, Closes, ring_of_parts, parts_of_ring}

-- what the texts of a ring's indexes spell
abbrev pub AreAnswers : List (List ℕ) → List Whole → Type 0
AreAnswers = AllZip (λ text whole. IsWholeAnswer (SpellsWhole text) whole)

-- the same of all rings
abbrev pub AreRingAnswers : List (List (List ℕ)) → List (List Whole) → Type 0
AreRingAnswers = AllZip AreAnswers

-- ---- places in lists

in_range : {X : Type 0} (xs : List X) (i : ℕ) (x : X) → slice_get xs i ≡ Some x → i < length xs
in_range [] i x is = absurd (let never : None ≡ Some x = is in cc)
in_range (y ∷ ys) zero x is = omega arith
in_range (y ∷ ys) (suc i) x is = let low = in_range ys i x is in omega arith

there_is : {X : Type 0} (xs : List X) (i : ℕ) → i < length xs → (x : X) × (slice_get xs i ≡ Some x)
there_is [] i low = absurd (omega arith)
there_is (y ∷ ys) zero low = (y, refl)
there_is (y ∷ ys) (suc i) low = there_is ys i (omega arith)

some_behind : {X Y : Type 0} (f : X → Y) (o : Option X) (y : Y) → option_map f o ≡ Some y → (x : X) × (o ≡ Some x)
some_behind f None y is = absurd (let never : None ≡ Some y = is in cc)
some_behind f (Some x) y is = (x, refl)

-- both parts of a test hold
pub both : (a b : Bool) → (a && b) ≡ true → (a ≡ true) × (b ≡ true)
both true b is = (refl, is)
both false b is = false_true is

-- ---- one index

-- the path that the index tells, where there is one
abbrev path_at : List (List Point) → Whole → Option (List Point)
path_at arcs Not = None
path_at arcs Beyond = None
path_at arcs (Is n) = path_of arcs n

back_is : (o : Option (List Point)) (path : List Point) → option_map reverse o ≡ Some path → reverse (unwrap_or o []) ≡ path
back_is None path is = absurd (let never : None ≡ Some path = is in cc)
back_is (Some arc) path is = some_same (reverse arc) path is

number_is : (arcs : List (List Point)) (n : ℤ) (path : List Point) → path_of arcs n ≡ Some path → path_told arcs (Is n) ≡ path
number_is arcs (pos i) path is = ap (λ (o : Option (List Point)). unwrap_or o []) is
number_is arcs (negsuc i) path is = back_is (slice_get arcs i) path is

path_is : (arcs : List (List Point)) (index : Whole) (path : List Point) → path_at arcs index ≡ Some path → path_told arcs index ≡ path
path_is arcs Not path is = absurd (let never : None ≡ Some path = is in cc)
path_is arcs Beyond path is = absurd (let never : None ≡ Some path = is in cc)
path_is arcs (Is n) path is = number_is arcs n path is

index_fits : (arcs : List (List Point)) (n : ℤ) (path : List Point) → length arcs < 2 ^ 63 → path_of arcs n ≡ Some path → FitsSigned w64 n
index_fits arcs (pos i) path few is = let low = in_range arcs i path is in record { sfits = omega arith }
index_fits arcs (negsuc i) path few is =
    let arc = some_behind reverse (slice_get arcs i) path is in
    let low = in_range arcs i arc.0 arc.1 in
    record { sfits = omega arith }

index_true : (arcs : List (List Point)) (n : ℤ) (path : List Point) → path_of arcs n ≡ Some path → is_index (length arcs) (Is n) ≡ true
index_true arcs (pos i) path is = let low = in_range arcs i path is in grind (arith, nat_tests)
index_true arcs (negsuc i) path is =
    let arc = some_behind reverse (slice_get arcs i) path is in
    let low = in_range arcs i arc.0 arc.1 in
    grind (arith, nat_tests)

path_there : (arcs : List (List Point)) (n : ℤ) → is_index (length arcs) (Is n) ≡ true → (path : List Point) × (path_of arcs n ≡ Some path)
path_there arcs (pos i) is = there_is arcs i (grind (arith, nat_tests))
path_there arcs (negsuc i) is = let arc = there_is arcs i (grind (arith, nat_tests)) in (reverse arc.0, ap (λ (o : Option (List Point)). option_map reverse o) arc.1)

-- what an index in range tells
pub path_in : (arcs : List (List Point)) (index : Whole) → is_index (length arcs) index ≡ true → (path : List Point) × (path_at arcs index ≡ Some path)
path_in arcs Not is = false_true is
path_in arcs Beyond is = false_true is
path_in arcs (Is n) is = path_there arcs n is

spelled_text : (arcs : List (List Point)) (text : List ℕ) (path : List Point) (s : TellsPath arcs text path) → SpellsWhole text s.index
spelled_text arcs text path s = subst (λ (t : List ℕ). SpellsWhole t s.index) (sym (number_same text s.number s.is)) s.whole

told_at : (arcs : List (List Point)) (text : List ℕ) (whole : Whole) (path : List Point) → length arcs < 2 ^ 63 → IsWholeAnswer (SpellsWhole text) whole → TellsPath arcs text path → path_at arcs whole ≡ Some path
told_at arcs text Not path few answer s = absurd (answer s.index (spelled_text arcs text path s))
told_at arcs text Beyond path few answer s =
    absurd (answer.2 (subst (FitsSigned w64) (one_whole text s.index answer.0 (spelled_text arcs text path s) answer.1) (index_fits arcs s.index path few s.told)))
told_at arcs text (Is n) path few answer s = ap (path_of arcs) (one_whole text n s.index answer.0 (spelled_text arcs text path s)) ∙ s.told

tells_at : (arcs : List (List Point)) (text : List ℕ) (whole : Whole) (path : List Point) → IsWholeAnswer (SpellsWhole text) whole → path_at arcs whole ≡ Some path → TellsPath arcs text path
tells_at arcs text Not path answer is = absurd (let never : None ≡ Some path = is in cc)
tells_at arcs text Beyond path answer is = absurd (let never : None ≡ Some path = is in cc)
tells_at arcs text (Is n) path answer is = record { number = text; index = n; is = refl; whole = answer.0; told = is }

at_true : (arcs : List (List Point)) (whole : Whole) (path : List Point) → path_at arcs whole ≡ Some path → is_index (length arcs) whole ≡ true
at_true arcs Not path is = absurd (let never : None ≡ Some path = is in cc)
at_true arcs Beyond path is = absurd (let never : None ≡ Some path = is in cc)
at_true arcs (Is n) path is = index_true arcs n path is

-- ---- the indexes of a ring

ring_indexes : (arcs : List (List Point)) (texts : List (List ℕ)) (wholes : List Whole) → AreAnswers texts wholes → list_all (λ index. is_index (length arcs) index) wholes ≡ true → AllByRecursion (IsIndex arcs) texts
ring_indexes arcs [] wholes answers is = tt
ring_indexes arcs (t ∷ ts) [] answers is = absurd answers
ring_indexes arcs (t ∷ ts) (w ∷ ws) answers is =
    let parts = both (is_index (length arcs) w) (list_all (λ index. is_index (length arcs) index) ws) is in
    let path = path_in arcs w parts.0 in
    ((path.0, tells_at arcs t w path.0 answers.0 path.1), ring_indexes arcs ts ws answers.1 parts.1)

ring_true : (arcs : List (List Point)) (texts : List (List ℕ)) (wholes : List Whole) → length arcs < 2 ^ 63 → AreAnswers texts wholes → AllByRecursion (IsIndex arcs) texts → list_all (λ index. is_index (length arcs) index) wholes ≡ true
ring_true arcs [] [] few answers all = refl
ring_true arcs [] (w ∷ ws) few answers all = absurd answers
ring_true arcs (t ∷ ts) [] few answers all = absurd answers
ring_true arcs (t ∷ ts) (w ∷ ws) few answers all =
    let here : is_index (length arcs) w ≡ true = at_true arcs w all.0.0 (told_at arcs t w all.0.0 few answers.0 all.0.1) in
    ap (λ (b : Bool). b && list_all (λ index. is_index (length arcs) index) ws) here ∙ ring_true arcs ts ws few answers.1 all.1

-- all indexes are in range
pub rings_indexes : (arcs : List (List Point)) (texts : List (List (List ℕ))) (wholes : List (List Whole)) → AreRingAnswers texts wholes → are_indexes (length arcs) wholes ≡ true → AreIndexes arcs texts
rings_indexes arcs [] wholes answers is = tt
rings_indexes arcs (t ∷ ts) [] answers is = absurd answers
rings_indexes arcs (t ∷ ts) (w ∷ ws) answers is =
    let parts = both (list_all (λ index. is_index (length arcs) index) w) (are_indexes (length arcs) ws) is in
    (ring_indexes arcs t w answers.0 parts.0, rings_indexes arcs ts ws answers.1 parts.1)

pub rings_true : (arcs : List (List Point)) (texts : List (List (List ℕ))) (wholes : List (List Whole)) → length arcs < 2 ^ 63 → AreRingAnswers texts wholes → AreIndexes arcs texts → are_indexes (length arcs) wholes ≡ true
rings_true arcs [] [] few answers all = refl
rings_true arcs [] (w ∷ ws) few answers all = absurd answers
rings_true arcs (t ∷ ts) [] few answers all = absurd answers
rings_true arcs (t ∷ ts) (w ∷ ws) few answers all =
    ap (λ (b : Bool). b && are_indexes (length arcs) ws) (ring_true arcs t w few answers.0 all.0) ∙ rings_true arcs ts ws few answers.1 all.1

-- ---- closed rings

told_one : (arcs : List (List Point)) (text : List ℕ) (whole : Whole) → IsWholeAnswer (SpellsWhole text) whole → is_index (length arcs) whole ≡ true → TellsPath arcs text (path_told arcs whole)
told_one arcs text whole answer is =
    let there = path_in arcs whole is in
    subst (λ (path : List Point). TellsPath arcs text path) (sym (path_is arcs whole there.0 there.1)) (tells_at arcs text whole there.0 answer there.1)

told_all : (arcs : List (List Point)) (texts : List (List ℕ)) (wholes : List Whole) → AreAnswers texts wholes → list_all (λ index. is_index (length arcs) index) wholes ≡ true → AllZip (TellsPath arcs) texts (paths_told arcs wholes)
told_all arcs [] [] answers is = tt
told_all arcs [] (w ∷ ws) answers is = absurd answers
told_all arcs (t ∷ ts) [] answers is = absurd answers
told_all arcs (t ∷ ts) (w ∷ ws) answers is =
    let parts = both (is_index (length arcs) w) (list_all (λ index. is_index (length arcs) index) ws) is in
    (told_one arcs t w answers.0 parts.0, told_all arcs ts ws answers.1 parts.1)

paths_are : (arcs : List (List Point)) (texts : List (List ℕ)) (wholes : List Whole) (paths : List (List Point)) → length arcs < 2 ^ 63 → AreAnswers texts wholes → AllZip (TellsPath arcs) texts paths → paths_told arcs wholes ≡ paths
paths_are arcs [] [] [] few answers s = refl
paths_are arcs [] [] (p ∷ ps) few answers s = absurd s
paths_are arcs [] (w ∷ ws) paths few answers s = absurd answers
paths_are arcs (t ∷ ts) [] paths few answers s = absurd answers
paths_are arcs (t ∷ ts) (w ∷ ws) [] few answers s = absurd s
paths_are arcs (t ∷ ts) (w ∷ ws) (p ∷ ps) few answers s =
    ap₂ (λ (a : List Point) (b : List (List Point)). a ∷ b) (path_is arcs w p (told_at arcs t w p few answers.0 s.0)) (paths_are arcs ts ws ps few answers.1 s.1)

ring_spelled : (arcs : List (List Point)) (texts : List (List ℕ)) (wholes : List Whole) → AreAnswers texts wholes → list_all (λ index. is_index (length arcs) index) wholes ≡ true → CanClose arcs wholes
    → SpellsRing arcs (ring_tree texts) (points_along (paths_told arcs wholes))
ring_spelled arcs texts wholes answers is c =
    ring_of_parts arcs texts (points_along (paths_told arcs wholes)) (record { paths = paths_told arcs wholes; told = told_all arcs texts wholes answers is; closes = c; ring_is = refl })

ring_closes : (arcs : List (List Point)) (texts : List (List ℕ)) (wholes : List Whole) (ring : List Point) → length arcs < 2 ^ 63 → AreAnswers texts wholes → SpellsRing arcs (ring_tree texts) ring → CanClose arcs wholes
ring_closes arcs texts wholes ring few answers s =
    let parts = parts_of_ring arcs texts ring s in
    subst (λ (paths : List (List Point)). Closes paths) (sym (paths_are arcs texts wholes parts.paths few answers parts.told)) parts.closes

-- rings that close do so along these points
pub rings_closed : (arcs : List (List Point)) (texts : List (List (List ℕ))) (wholes : List (List Whole)) → AreRingAnswers texts wholes → are_indexes (length arcs) wholes ≡ true → AllByRecursion (CanClose arcs) wholes
    → AreClosed arcs texts (rings_along arcs wholes)
rings_closed arcs [] [] answers is all = tt
rings_closed arcs [] (w ∷ ws) answers is all = absurd answers
rings_closed arcs (t ∷ ts) [] answers is all = absurd answers
rings_closed arcs (t ∷ ts) (w ∷ ws) answers is all =
    let parts = both (list_all (λ index. is_index (length arcs) index) w) (are_indexes (length arcs) ws) is in
    (ring_spelled arcs t w answers.0 parts.0 all.0, rings_closed arcs ts ws answers.1 parts.1 all.1)

pub rings_close : (arcs : List (List Point)) (texts : List (List (List ℕ))) (wholes : List (List Whole)) (points : List (List Point)) → length arcs < 2 ^ 63 → AreRingAnswers texts wholes → AreClosed arcs texts points → AllByRecursion (CanClose arcs) wholes
rings_close arcs [] [] points few answers s = tt
rings_close arcs [] (w ∷ ws) points few answers s = absurd answers
rings_close arcs (t ∷ ts) [] points few answers s = absurd answers
rings_close arcs (t ∷ ts) (w ∷ ws) [] few answers s = absurd s
rings_close arcs (t ∷ ts) (w ∷ ws) (p ∷ ps) few answers s = (ring_closes arcs t w p few answers.0 s.0, rings_close arcs ts ws ps few answers.1 s.1)

-- ---- all rings

pub all_true : (count : ℕ) (rings : List (List Whole)) → AllByRecursion (AreInRange count) rings → are_indexes count rings ≡ true
all_true count [] all = refl
all_true count (r ∷ rs) all = ap (λ (b : Bool). b && are_indexes count rs) all.0 ∙ all_true count rs all.1

pub true_all : (count : ℕ) (rings : List (List Whole)) → are_indexes count rings ≡ true → AllByRecursion (AreInRange count) rings
true_all count [] is = tt
true_all count (r ∷ rs) is = let parts = both (list_all (λ index. is_index count index) r) (are_indexes count rs) is in (parts.0, true_all count rs parts.1)
