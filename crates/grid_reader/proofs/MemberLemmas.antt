-- One more cell is put into the list of its patch.
use Rattle.std.proofs.Common.{◌≡◌, ◌≢◌, ℕ, zero, suc, ◌+◌, ◌<◌, ◌≤◌, ◌==◌, refl, ap, sym, ◌∙◌, arith, subst, true, false, List, [], ◌∷◌, ◌++◌, length, replicate, Option, Some, None, zero-add, length-append, sum_by, append-nil, Vec, add-one, All, IfSome}
use Rattle.std.specs.Prelude.{slice_set, slice_index_or}
use Rattle.std.specs.List.{filter, range_with_len}
use Rattle.std.proofs.lemmas.Bool.Decides.{nat_tests, Decides-eqb}
use Rattle.std.proofs.lemmas.List.{get_or-set_same, get_or-set_other, get_or-map}
use Rattle.std.proofs.lemmas.List.Elements.{All-get_or, filter-append, All-nil, All-weaker, All-push}
use Rattle.std.proofs.lemmas.List.Sums.{sum_by-set, sum_by-cons}
use Rattle.std.proofs.Math.ListN.{length-set}
use Rattle.std.specs.Fmt.{signed_decimal}
use Rattle.std.specs.declared.alloc.Global.{Global}
use Rattle.plane_edge.specs.Rings.{Area}
use Rattle.grid_reader.specs.Grid.{Grid}
use Rattle.grid_reader.specs.Walks.{InOnePatch}
use Rattle.grid_reader.specs.Patches.{ArePatches}
use Rattle.grid_reader.specs.Areas.{is_number, members, area_at, AreSides, AreAreas}
use Rattle.grid_reader.specs.Members.{IsAreaOf, AreMembers, list_at, put}
use Rattle.agg_base.specs.Lists.{lists_of}
use Rattle.json_text.proofs.Cases.{by_cases_of, false_true}
use Rattle.grid_reader.proofs.PatchLemmas.{split_last, patch_value}
use Rattle.union_find.proofs.StepLemmas.{range_more}

-- the members among one cell more
pub members_more : (number : ℕ → Option ℕ) (p n : ℕ) → members number p (n + 1) ≡ members number p n ++ filter (λ i. is_number p (number i)) (n ∷ [])
members_more number p n =
    let more : range_with_len 0 (n + 1) ≡ range_with_len 0 n ++ n ∷ [] = range_more 0 n ∙ ap (λ (m : ℕ). range_with_len 0 n ++ m ∷ []) (zero-add n) in
    ap (filter (λ i. is_number p (number i))) more ∙ filter-append (λ i. is_number p (number i)) (range_with_len 0 n) (n ∷ [])

members_other : (number : ℕ → Option ℕ) (p n : ℕ) → is_number p (number n) ≡ false → members number p (n + 1) ≡ members number p n
members_other number p n e = members_more number p n ∙ (rw e (append-nil (members number p n)))

members_this : (number : ℕ → Option ℕ) (p n : ℕ) → is_number p (number n) ≡ true → members number p (n + 1) ≡ members number p n ++ n ∷ []
members_this number p n e = members_more number p n ∙ (rw e refl)

empty_long : (n : ℕ) → length (replicate {A = List ℕ} n []) ≡ n
empty_long zero = refl
empty_long (suc n) = ap suc (empty_long n)

empty_at : (n p : ℕ) → list_at (replicate n []) p ≡ []
empty_at zero p = refl
empty_at (suc n) zero = refl
empty_at (suc n) (suc p) = empty_at n p

empty_sum : (n : ℕ) → sum_by (λ (cells : List ℕ). length cells) (replicate n []) ≤ 0
empty_sum zero = omega arith
empty_sum (suc n) = let more = empty_sum n in omega (arith, sum_by-cons (λ (cells : List ℕ). length cells) [] (replicate n []))

-- no cell is put in yet
pub no_cells : (number : ℕ → Option ℕ) (count : ℕ) (xs : List (List ℕ)) → xs ≡ replicate count [] → AreMembers number 0 count xs
no_cells number count xs e = subst (λ (ys : List (List ℕ)). AreMembers number 0 count ys) (sym e) (record {
  long = empty_long count;
  each = λ p h. empty_at count p;
  once = empty_sum count;
})

-- a cell without data
pub cell_skipped : (number : ℕ → Option ℕ) (n count : ℕ) (xs : List (List ℕ)) → number n ≡ None → AreMembers number n count xs → AreMembers number (n + 1) count xs
cell_skipped number n count xs none m = record {
  long = m.long;
  each = λ p h. m.each p h ∙ sym (members_other number p n (ap (is_number p) none));
  once = (let few = m.once in omega arith);
}

-- a cell of a patch
pub cell_put : (number : ℕ → Option ℕ) (n count q : ℕ) (xs ys : List (List ℕ)) → number n ≡ Some q → q < count → ys ≡ slice_set xs q (list_at xs q ++ n ∷ []) → AreMembers number n count xs → AreMembers number (n + 1) count ys
cell_put number n count q xs ys some low is m = subst (λ (zs : List (List ℕ)). AreMembers number (n + 1) count zs) (sym is) (record {
  long = length-set xs q (list_at xs q ++ n ∷ []) ∙ m.long;
  each = λ p h. by_cases_of (p == q) _
      (λ e.
      let same : p ≡ q = (Decides-eqb p q).0 e in
      subst (λ (k : ℕ). list_at (slice_set xs q (list_at xs q ++ n ∷ [])) k ≡ members number k (n + 1)) (sym same)
      (get_or-set_same xs q (list_at xs q ++ n ∷ []) [] (let long = m.long in omega arith)
      ∙ (ap (λ (cells : List ℕ). cells ++ n ∷ []) (m.each q low)
      ∙ sym (members_this number q n (ap (is_number q) some ∙ (Decides-eqb q q).1 refl)))))
      (λ e.
      let ne : p ≢ q = λ s. false_true (sym e ∙ (Decides-eqb p q).1 s) in
      let other : is_number p (number n) ≡ false = ap (is_number p) some ∙ turned p q e in
      get_or-set_other xs q p (list_at xs q ++ n ∷ []) [] ne ∙ (m.each p h ∙ sym (members_other number p n other)));
  once =
      (let few = m.once in
      let long = m.long in
      let within : q < length xs = omega arith in
      let more = sum_by-set (λ cells. length cells) xs q (list_at xs q ++ n ∷ []) [] within in
      let one = length-append (list_at xs q) (n ∷ []) in
      omega arith);
})
  where
    turned : (p q : ℕ) → (p == q) ≡ false → (q == p) ≡ false
    turned p q e = grind (arith, nat_tests)

-- one more cell
pub cell_done : (number : ℕ → Option ℕ) (n count : ℕ) (xs ys : List (List ℕ)) (o : Option ℕ) → number n ≡ o → ((q : ℕ) → number n ≡ Some q → q < count) → ys ≡ put xs o n → AreMembers number n count xs → AreMembers number (n + 1) count ys
cell_done number n count xs ys None is low e m = subst (λ (zs : List (List ℕ)). AreMembers number (n + 1) count zs) (sym e) (cell_skipped number n count xs is m)
cell_done number n count xs ys (Some q) is low e m = cell_put number n count q xs ys is (low q is) e m

-- the list of a patch that lists hold
pub list_held : (vs : List (Vec ℕ Global)) (d : Vec ℕ Global) (p : ℕ) → p < length vs → list_at (lists_of vs) p ≡ (slice_index_or vs p d).items
list_held vs d p h = get_or-map (λ v. v.items) vs p d [] h

-- a cell's number is below their count
pub some_below : (number : ℕ → Option ℕ) (n count len : ℕ) (o : Option ℕ) → number n ≡ o → ((q : ℕ) → number n ≡ Some q → q < count) → len ≡ count → IfSome o (λ p. p < len)
some_below number n count len None is low e = tt
some_below number n count len (Some p) is low e = subst (λ (m : ℕ). p < m) (sym e) (low p is)

is_some : (p : ℕ) (o : Option ℕ) → is_number p o ≡ true → o ≡ Some p
is_some p None e = absurd (false_true e)
is_some p (Some q) e = ap Some ((Decides-eqb q p).0 e)

some_is : (p : ℕ) (o : Option ℕ) → o ≡ Some p → is_number p o ≡ true
some_is p o e = ap (is_number p) e ∙ (Decides-eqb p p).1 refl

-- each member of a patch has its number
pub members_have : (number : ℕ → Option ℕ) (p n : ℕ) → All (λ i. (i < n) × (number i ≡ Some p)) (members number p n)
members_have number p zero = All-nil (λ i. (i < 0) × (number i ≡ Some p))
members_have number p (suc n) =
    let last : n < n + 1 = omega arith in
    let before : All (λ i. (i < n + 1) × (number i ≡ Some p)) (members number p n)
    = All-weaker (λ i. (i < n) × (number i ≡ Some p)) (λ i. (i < n + 1) × (number i ≡ Some p)) (λ i h. (let low = h.0 in let more : i < n + 1 = omega arith in (more, h.1))) (members number p n) (members_have number p n) in
    let all : All (λ i. (i < n + 1) × (number i ≡ Some p)) (members number p (n + 1)) =
    by_cases_of (is_number p (number n)) _
    (λ e. subst (λ (xs : List ℕ). All (λ i. (i < n + 1) × (number i ≡ Some p)) xs) (sym (members_this number p n e))
    (All-push (λ i. (i < n + 1) × (number i ≡ Some p)) (members number p n) n before (last, is_some p (number n) e)))
    (λ e. subst (λ (xs : List ℕ). All (λ i. (i < n + 1) × (number i ≡ Some p)) xs) (sym (members_other number p n e)) before) in
    subst (λ (m : ℕ). All (λ i. (i < m) × (number i ≡ Some p)) (members number p m)) (add-one n) all

-- a patch with a cell has members
pub members_filled : (number : ℕ → Option ℕ) (p n i : ℕ) → i < n → number i ≡ Some p → 0 < length (members number p n)
members_filled number p zero i h e = absurd (omega arith)
members_filled number p (suc n) i h e =
    let more : 0 < length (members number p (n + 1)) =
    split_last n i (0 < length (members number p (n + 1))) (omega arith)
    (λ b. let some = members_filled number p n i b e in
    let both = ap length (members_more number p n) ∙ length-append (members number p n) (filter (λ j. is_number p (number j)) (n ∷ [])) in omega arith)
    (λ (s : i ≡ n).
    let this = ap length (members_this number p n (some_is p (number n) (ap number (sym s) ∙ e))) ∙ length-append (members number p n) (n ∷ []) in omega arith) in
    subst (λ (m : ℕ). 0 < length (members number p m)) (add-one n) more

-- the areas of the patches' cells are the areas of the grid
pub members_areas : (g : Grid) (number : ℕ → Option ℕ) (count : ℕ) (xs : List (List ℕ)) (areas : List Area) → ArePatches g number count → AreMembers number (length g.cells) count xs → length areas ≡ count
    → ((p : ℕ) → p < count → IsAreaOf g (list_at xs p) (area_at areas p)) → AreAreas g areas
members_areas g number count xs areas patches m long each = record {
  number = number;
  patches = subst (λ (n : ℕ). ArePatches g number n) (sym long) patches;
  class_is = λ i p h is.
      let low : p < count = patches.below i p h is in
      let cells = members number p (length g.cells) in
      let this : IsAreaOf g cells (area_at areas p) = subst (λ (zs : List ℕ). IsAreaOf g zs (area_at areas p)) (m.each p low) (each p low) in
      let some : 0 < length cells = members_filled number p (length g.cells) i h is in
      let first : (slice_index_or cells 0 0 < length g.cells) × (number (slice_index_or cells 0 0) ≡ Some p)
      = All-get_or (λ j. (j < length g.cells) × (number j ≡ Some p)) cells 0 0 some (members_have number p (length g.cells)) in
      let way : InOnePatch g (slice_index_or cells 0 0) i = (patches.one_patch (slice_index_or cells 0 0) i p p first.0 h first.1 is).0 refl in
      this.class_is ∙ ap signed_decimal (patch_value g (slice_index_or cells 0 0) i way);
  sides = λ p h.
      let low : p < count = omega arith in
      subst (λ (zs : List ℕ). AreSides g zs (area_at areas p).steps) (m.each p low) (each p low).sides;
}

-- each patch has cells, which are cells of the grid
pub patch_filled : (g : Grid) (number : ℕ → Option ℕ) (count : ℕ) (xs : List (List ℕ)) → ArePatches g number count → AreMembers number (length g.cells) count xs → (p : ℕ) → p < count → 0 < length (list_at xs p)
patch_filled g number count xs patches m p low =
    let w = patches.all p low in
    subst (λ (zs : List ℕ). 0 < length zs) (sym (m.each p low)) (members_filled number p (length g.cells) w.0 w.1 w.2)

pub patch_inside : (g : Grid) (number : ℕ → Option ℕ) (count : ℕ) (xs : List (List ℕ)) → AreMembers number (length g.cells) count xs → (p : ℕ) → p < count → All (λ i. i < length g.cells) (list_at xs p)
patch_inside g number count xs m p low =
    subst (λ (zs : List ℕ). All (λ i. i < length g.cells) zs) (sym (m.each p low))
    (All-weaker (λ i. (i < length g.cells) × (number i ≡ Some p)) (λ i. i < length g.cells) (λ i h. h.0) (members number p (length g.cells)) (members_have number p (length g.cells)))
