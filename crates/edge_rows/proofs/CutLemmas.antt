-- What lists of pieces come to while edges are cut.
use Rattle.std.proofs.Common.{◌≡◌, ℕ, ◌+◌, ◌<◌, refl, sym, ◌∙◌, ap, arith, cond, List, [], ◌∷◌, ◌++◌, length, get_or, take, count_by, IsPermutation, Result, Ok, Err, OnOk, ℤ, pos, ◌≤ℤ◌, ◌<ℤ◌}
use Rattle.std.proofs.lemmas.List.{take_more}
use Rattle.std.proofs.lemmas.List.Sorted.{sum_by-IsPermutation}
use Rattle.plane_edge.specs.declared.edge.Edge.{Edge}
use Rattle.plane_edge.specs.declared.spot.Spot.{Spot}
use Rattle.plane_edge.specs.Plane.{is_crossed}
use Rattle.plane_edge.proofs.EvenLists.{bit, count-cons, count-append}
use Rattle.edge_rows.specs.declared.piece.Piece.{Piece}
use Rattle.edge_rows.specs.Beside.{crossed}
use Rattle.edge_rows.specs.Cutting.{IsCut, ArePiecesOf}
use Rattle.edge_rows.specs.Pieces.{is_cut, is_met, met}
use Rattle.edge_rows.proofs.PieceLemmas.{cut_in_two, whole_cut, nothing_cut}

-- one piece more
pub piece_more : (e : Edge) (low high : ℤ) (p : Piece) (old new : List Piece) → new ≡ old ++ p ∷ [] → p.edge ≡ e → p.low ≡ low → p.high ≡ high → IsCut e low high old new
piece_more e low high p old new is of_edge of_low of_high = λ s m.
    ap (λ ps. met ps s) is ∙ count-append (λ q. is_met q s) old (p ∷ [])
    ∙ ap (λ n. met old s + n) (one s ∙ ap (λ z. bit (is_cut z p.high p.edge s)) of_low ∙ ap (λ z. bit (is_cut low z p.edge s)) of_high ∙ ap (λ f. bit (is_cut low high f s)) of_edge)
  where
    one : (s : Spot) → met (p ∷ []) s ≡ bit (is_met p s)
    one s = let c = count-cons (λ q. is_met q s) p [] in let none : count_by (λ q. is_met q s) [] ≡ 0 = refl in omega arith

-- no piece more
pub piece_none : (e : Edge) (low high : ℤ) (old new : List Piece) → new ≡ old → low ≡ high → IsCut e low high old new
piece_none e low high old new is same = λ s m. (
    let none = ap bit (nothing_cut e low high s same) in
    let before = ap (λ ps. met ps s) is in
    omega arith)

-- one piece after another
pub cut_on : (e : Edge) (a b c : ℤ) (old mid new : List Piece) → a ≤ℤ b → b ≤ℤ c → IsCut e a b old mid → IsCut e b c mid new → IsCut e a c old new
cut_on e a b c old mid new h k first then = λ s m. (
    let one = first s m in
    let two = then s m in
    let both = cut_in_two e a b c s m h k in
    omega arith)

-- the pieces of one edge more
pub edge_more : (es : List Edge) (i : ℕ) (e : Edge) (old new : List Piece) → i < length es → e ≡ get_or es i e → ArePiecesOf (take i es) old → IsCut e e.low.y e.high.y old new → ArePiecesOf (take (i + 1) es) new
edge_more es i e old new l is before more = λ s m. (
    let here = ap bit (whole_cut e s) in
    let step = more s m in
    let was = before s m in
    let all : crossed (take (i + 1) es) s ≡ crossed (take i es ++ e ∷ []) s = ap (λ fs. crossed fs s) (take_more es i e l ∙ ap (λ f. take i es ++ f ∷ []) (sym is)) in
    let last = count-cons (λ f. is_crossed f s) e [] in
    let none : count_by (λ (f : Edge). is_crossed f s) [] ≡ 0 = refl in
    omega (arith, all, count-append (λ f. is_crossed f s) (take i es) (e ∷ [])))

pub permuted : (ps qs : List Piece) → IsPermutation ps qs → (s : Spot) → met qs s ≡ met ps s
permuted ps qs h s = sum_by-IsPermutation (λ p. cond (is_met p s) 1 0) ps qs h

-- ---- through an answer
pub on_ok : {A E : Type 0} (P Q : Type 0) (r : Result A E) → (P → Q) → OnOk r P → OnOk r Q
on_ok P Q (Ok a) f h = f h
on_ok P Q (Err e) f h = tt
