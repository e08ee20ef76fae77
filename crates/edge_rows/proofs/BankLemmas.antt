-- Banks of rows.
use Rattle.std.proofs.Common.{◌≡◌, ℕ, ◌-◌, ◌%◌, ◌≤◌, sym, ◌∙◌, ap, subst, inl, inr, arith, true, false, eqb, int_le, List, [], ◌∷◌, ◌++◌, length, get_or, take, drop, count_by, flat_map, AllPairs, All, ℤ, pos, ◌*ℤ◌, ◌≤ℤ◌, ◌<ℤ◌}
use Rattle.std.specs.List.Sorted.{IsPartitionedBy, IsPartitionPoint}
use Rattle.std.proofs.lemmas.Bool.{cases_lt}
use Rattle.std.proofs.lemmas.Int.{ints}
use Rattle.std.proofs.lemmas.List.Quantifiers.{all_pairs_push}
use Rattle.whole_ring.proofs.Signs.{lin, le-mul}
use Rattle.whole_ring.proofs.Laws.{*ℤ_comm}
use Rattle.plane_edge.specs.declared.spot.Spot.{Spot}
use Rattle.edge_rows.specs.declared.row.Row.{Row}
use Rattle.edge_rows.specs.Pieces.{is_in}
use Rattle.edge_rows.specs.Banks.{IsBefore, pieces_of_row, is_under, is_begun}
use Rattle.edge_rows.proofs.CrossLemmas.{parity-flat}
use Rattle.edge_rows.proofs.RowLemmas.{not_under, not_over}
use Rattle.edge_rows.proofs.Places.{partitioned, count-drop, count-take}

-- ---- the last row is the highest
pub all_low : (rows : List Row) (last : Row) (z : ℤ) → AllPairs IsBefore rows → ((d : Row) → last ≡ get_or rows (length rows - 1) d) → last.last.low ≤ℤ z → All (λ r. r.last.low ≤ℤ z) rows
all_low rows last z h is l k d b =
    elim (cases_lt k (length rows - 1)) [
      | inl before ↦ (let p = h k (length rows - 1) d before (omega arith) in let q = subst (λ (r : Row). r.last.low ≤ℤ z) (is d) l in omega (arith, lin, p.low, q))
      | inr after ↦ (let same : length rows - 1 ≡ k = omega arith in subst (λ (n : ℕ). (get_or rows n d).last.low ≤ℤ z) same (subst (λ (r : Row). r.last.low ≤ℤ z) (is d) l))
    ]

pub all_tops : (rows : List Row) (last : Row) (z : ℤ) → AllPairs IsBefore rows → ((d : Row) → last ≡ get_or rows (length rows - 1) d) → last.top ≤ℤ z → All (λ r. r.top ≤ℤ z) rows
all_tops rows last z h is l k d b =
    elim (cases_lt k (length rows - 1)) [
      | inl before ↦ (let p = h k (length rows - 1) d before (omega arith) in let q = subst (λ (r : Row). r.top ≤ℤ z) (is d) l in omega (arith, lin, p.top, q))
      | inr after ↦ (let same : length rows - 1 ≡ k = omega arith in subst (λ (n : ℕ). (get_or rows n d).top ≤ℤ z) same (subst (λ (r : Row). r.top ≤ℤ z) (is d) l))
    ]

pub bank_more : (rows : List Row) (row : Row) → AllPairs IsBefore rows → All (λ r. r.last.low ≤ℤ row.last.low) rows → All (λ r. r.top ≤ℤ row.top) rows → AllPairs IsBefore (rows ++ row ∷ [])
bank_more rows row h low top = all_pairs_push IsBefore rows row h (λ k d b. record { low = low k d b; top = top k d b })

-- ---- the rows near a spot
upto : (a b m y : ℤ) → pos 0 <ℤ m → a ≤ℤ b → int_le (b *ℤ m) y ≡ true → int_le (a *ℤ m) y ≡ true
upto a b m y h k l =
    let p = le-mul m a b (omega (arith, lin)) k in
    from_le (a *ℤ m) y (omega (arith, lin, p, to_le (b *ℤ m) y l, *ℤ_comm m a, *ℤ_comm m b))
  where
    to_le : (c d : ℤ) → int_le c d ≡ true → c ≤ℤ d
    to_le c d h = grind (arith, ints)

    from_le : (c d : ℤ) → c ≤ℤ d → int_le c d ≡ true
    from_le c d h = grind (arith, ints)

pub tops_parted : (rows : List Row) (s : Spot) → pos 0 <ℤ s.m → AllPairs IsBefore rows → IsPartitionedBy (λ r. is_under r s) rows
tops_parted rows s m h = partitioned IsBefore (λ r. is_under r s) rows h (λ r t b k. upto r.top t.top s.m s.y m b.top k)

pub lows_parted : (rows : List Row) (s : Spot) → pos 0 <ℤ s.m → AllPairs IsBefore rows → IsPartitionedBy (λ r. is_begun r s) rows
lows_parted rows s m h = partitioned IsBefore (λ r. is_begun r s) rows h (λ r t b k. upto r.last.low t.last.low s.m s.y m b.low k)

under : (r : Row) (s : Spot) → pos 0 <ℤ s.m → is_under r s ≡ true → is_in r.pieces.items s ≡ false
under r s m h = not_under r.pieces.items r.last r.top s r.is_row m (to_le (r.top *ℤ s.m) s.y h)
  where
    to_le : (c d : ℤ) → int_le c d ≡ true → c ≤ℤ d
    to_le c d h = grind (arith, ints)

over : (r : Row) (s : Spot) → is_begun r s ≡ false → is_in r.pieces.items s ≡ false
over r s h = not_over r.pieces.items r.last r.top s r.is_row (to_lt (r.last.low *ℤ s.m) s.y h)
  where
    to_lt : (c d : ℤ) → int_le c d ≡ false → d <ℤ c
    to_lt c d h = grind (arith, ints)

-- only the rows between the two places count
pub near_rows : (all rows above near : List Row) (s : Spot) (i j : ℕ) → pos 0 <ℤ s.m → rows ≡ all → i ≤ length rows → above ≡ drop i rows → near ≡ take j above →
    IsPartitionPoint (λ r. is_under r s ≡ true) (λ r. is_under r s ≡ false) rows i →
    IsPartitionPoint (λ r. is_begun r s ≡ true) (λ r. is_begun r s ≡ false) above j →
    eqb (count_by (λ r. is_in r.pieces.items s) near % 2) 1 ≡ is_in (flat_map pieces_of_row all) s
near_rows all rows above near s i j m same l a n h k =
    ap (λ (rs : List Row). eqb (count_by (λ r. is_in r.pieces.items s) rs % 2) 1) n
    ∙ ap (λ n. eqb (n % 2) 1) (count-take (λ r. is_in r.pieces.items s) above j (λ n d a b. over (get_or above n d) s (k.1 n d a b))
    ∙ ap (λ (rs : List Row). count_by (λ r. is_in r.pieces.items s) rs) a
    ∙ count-drop (λ r. is_in r.pieces.items s) rows i (λ n d a b. under (get_or rows n d) s m (h.0 n d a b)) l)
    ∙ ap (λ n. eqb n 1) (sym (parity-flat pieces_of_row s rows))
    ∙ ap (λ (rs : List Row). is_in (flat_map pieces_of_row rs) s) same
