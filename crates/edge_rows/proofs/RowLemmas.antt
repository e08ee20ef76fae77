-- Rows of pieces.
use Rattle.std.proofs.Common.{◌≡◌, ◌%◌, refl, sym, ◌∙◌, ap, subst, arith, false, not, eqb, ◌&&◌, int_lt, List, [], ◌∷◌, ◌++◌, All, ℤ, pos, ◌*ℤ◌, ◌≤ℤ◌, ◌<ℤ◌}
use Rattle.std.specs.Prelude.{◌↔◌, IsTrue}
use Rattle.std.specs.Ordering.{int_eq}
use Rattle.std.specs.List.Sorted.{IsPartitionedBy}
use Rattle.std.proofs.lemmas.Int.{ints}
use Rattle.std.proofs.lemmas.List.Quantifiers.{all_pairs_push}
use Rattle.std.proofs.lemmas.List.Elements.{All-push, All-weaker}
use Rattle.whole_ring.proofs.Signs.{lin, le-mul}
use Rattle.whole_ring.proofs.Laws.{*ℤ_comm}
use Rattle.plane_edge.specs.declared.spot.Spot.{Spot}
use Rattle.plane_edge.proofs.OddLemmas.{count-none}
use Rattle.plane_strip.specs.Strip.{lead}
use Rattle.edge_rows.specs.declared.piece.Piece.{Piece}
use Rattle.edge_rows.specs.Beside.{IsBeside, is_beside, IsRow}
use Rattle.edge_rows.specs.Pieces.{is_met, is_in}
use Rattle.edge_rows.proofs.PieceLemmas.{not_met_above, not_met_below, not_met_beside, beside_itself, beside_trans}
use Rattle.edge_rows.proofs.Places.{partitioned}

pub beside_test : (p q : Piece) → IsTrue (is_beside p q) ↔ IsBeside p q
beside_test p q = (
  (λ h. (let t = parts p.low q.low p.high q.high (lead p.edge q.edge p.low (pos 1)) (lead p.edge q.edge p.high (pos 1)) h in record { low = t.0; high = t.1; right_below = t.2; right_above = t.3 })),
  (λ b. whole p.low q.low p.high q.high (lead p.edge q.edge p.low (pos 1)) (lead p.edge q.edge p.high (pos 1)) b.low b.high b.right_below b.right_above),
)
  where
    parts : (a b c d l u : ℤ) → IsTrue ((int_eq a b && int_eq c d) && (not (int_lt (pos 0) l) && not (int_lt (pos 0) u))) → (a ≡ b) × (c ≡ d) × (l ≤ℤ pos 0) × (u ≤ℤ pos 0)
    parts a b c d l u h = grind (arith, ints)

    whole : (a b c d l u : ℤ) → a ≡ b → c ≡ d → l ≤ℤ pos 0 → u ≤ℤ pos 0 → IsTrue ((int_eq a b && int_eq c d) && (not (int_lt (pos 0) l) && not (int_lt (pos 0) u)))
    whole a b c d l u h k n m = grind (arith, ints)

pub row_one : (p : Piece) → IsRow (p ∷ []) p p.high
row_one p = record {
  rising = λ i j d a b. absurd (omega (arith, a, b));
  up_to = All-push (λ x. IsBeside x p) [] p (λ k d b. absurd (omega (arith, b))) (beside_itself p);
  high = omega (arith, lin);
}

pub row_more : (ps : List Piece) (last p : Piece) (top : ℤ) → IsRow ps last top → IsBeside last p → IsRow (ps ++ p ∷ []) p top
row_more ps last p top r b =
    let up : All (λ x. IsBeside x p) ps = All-weaker (λ x. IsBeside x last) (λ x. IsBeside x p) (λ x h. beside_trans x last p h b) ps r.up_to in
    record {
      rising = all_pairs_push IsBeside ps p r.rising (λ k d h. up k d h);
      up_to = All-push (λ x. IsBeside x p) ps p up (beside_itself p);
      high = subst (λ (z : ℤ). z ≤ℤ top) b.high r.high;
    }

-- the pieces that the spot does not meet stand before those that it meets
pub row_parts : (ps : List Piece) (last : Piece) (top : ℤ) (s : Spot) → pos 0 <ℤ s.m → IsRow ps last top → IsPartitionedBy (λ p. not (is_met p s)) ps
row_parts ps last top s m r = partitioned IsBeside (λ p. not (is_met p s)) ps r.rising (λ p q b h. not_met_beside p q s m b h)

none_in : (ps : List Piece) (s : Spot) → All (λ p. is_met p s ≡ false) ps → is_in ps s ≡ false
none_in ps s h = ap (λ n. eqb (n % 2) 1) (count-none (λ p. is_met p s) ps h)

-- a spot that is not below the top of a row is not inside its pieces
pub not_under : (ps : List Piece) (last : Piece) (top : ℤ) (s : Spot) → IsRow ps last top → pos 0 <ℤ s.m → (top *ℤ s.m) ≤ℤ s.y → is_in ps s ≡ false
not_under ps last top s r m h =
    let t = le-mul s.m last.high top (omega (arith, lin)) r.high in
    let l : (last.high *ℤ s.m) ≤ℤ s.y = omega (arith, lin, *ℤ_comm s.m last.high, *ℤ_comm s.m top) in
    none_in ps s (All-weaker (λ p. IsBeside p last) (λ p. is_met p s ≡ false) (λ p b. not_met_above p s (subst (λ (z : ℤ). (z *ℤ s.m) ≤ℤ s.y) (sym b.high) l)) ps r.up_to)

-- nor is one below its low heights
pub not_over : (ps : List Piece) (last : Piece) (top : ℤ) (s : Spot) → IsRow ps last top → s.y <ℤ (last.low *ℤ s.m) → is_in ps s ≡ false
not_over ps last top s r h =
    none_in ps s (All-weaker (λ p. IsBeside p last) (λ p. is_met p s ≡ false) (λ p b. not_met_below p s (subst (λ (z : ℤ). s.y <ℤ (z *ℤ s.m)) (sym b.low) h)) ps r.up_to)
