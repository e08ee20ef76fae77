-- A climb with one row more.
use Rattle.std.proofs.Common.{◌≡◌, ℕ, ◌+◌, ◌*◌, ◌<◌, ◌≤◌, List, [], ◌∷◌, ◌++◌, length, take, refl, ap, sym, ◌∙◌, arith, subst, inl, inr}
use Rattle.std.specs.Prelude.{ℤ, pos}
use Rattle.std.proofs.lemmas.List.{length-append, take-append-le, get_or_append_left}
use Rattle.std.proofs.lemmas.Bool.{cases_lt}
use Rattle.std.proofs.Math.Seq.{get_or-append_seam}
use Rattle.agg_model.specs.Problem.{Problem, areas}
use Rattle.row_laws.specs.declared.row.Row.{Row}
use Rattle.row_laws.specs.declared.row.Row.TheVariants.{Border}
use Rattle.row_laws.specs.Values.{RowSum, Allowed, row_in, row_marks, mark_count}
use Rattle.relax_bound.specs.Ascents.{first_rows, with_row, HasValue, IsTaken, IsClimb}

take_whole : {A : Type 0} (xs : List A) → take (length xs) xs ≡ xs
take_whole [] = refl
take_whole (x ∷ xs) = ap (λ ys. x ∷ ys) (take_whole xs)

pub marks_more : (rows : List (Row × ℤ)) (row : Row) (m : ℤ) → mark_count (rows ++ (row, m) ∷ []) ≡ mark_count rows + row_marks row
marks_more [] row m = omega arith
marks_more (r ∷ rows) row m = omega (arith, marks_more rows row m)

pub count_more : (rows : List (Row × ℤ)) (row : Row) (m : ℤ) → length (rows ++ (row, m) ∷ []) ≡ length rows + 1
count_more rows row m = length-append rows ((row, m) ∷ [])

pub whole_rows : (s : RowSum) → first_rows s (length s.rows) ≡ s
whole_rows s = ap (λ (rows : List (Row × ℤ)). let t : RowSum = record { denominator = s.denominator; void = s.void; rows = rows } in t) (take_whole s.rows)

old_rows : (s : RowSum) (row : Row) (m : ℤ) (n : ℕ) → n ≤ length s.rows → first_rows (with_row s row m) n ≡ first_rows s n
old_rows s row m n h = ap (λ (rows : List (Row × ℤ)). let t : RowSum = record { denominator = s.denominator; void = s.void; rows = rows } in t) (take-append-le n s.rows ((row, m) ∷ []) h)

pub climb_next : (p : Problem) (allowed : Allowed) (share : ℕ) (s : RowSum) (row : Row) (m : ℤ) → IsClimb p allowed share s → IsTaken p allowed s row m → HasValue p allowed (with_row s row m) → length s.rows < 16 * areas p → mark_count s.rows + row_marks row ≤ share → IsClimb p allowed share (with_row s row m)
climb_next p allowed share s row m climb taken value room marks =
    let t = with_row s row m in
    let count = count_more s.rows row m in
    record {
      denominator = climb.denominator;
      cost = climb.cost;
      few = omega arith;
      light = (let all = marks_more s.rows row m in omega arith);
      strong = λ n h. elim (cases_lt n (length t.rows)) [
        | inl less ↦ subst (HasValue p allowed) (sym (old_rows s row m n (omega arith))) (climb.strong n (omega arith))
        | inr more ↦
            (let is : n ≡ length t.rows = omega arith in
            subst (HasValue p allowed) (sym (ap (first_rows t) is ∙ whole_rows t)) value)
      ];
      taken = λ n h. elim (cases_lt n (length s.rows)) [
        | inl less ↦ both (first_rows s n) (first_rows t n) (row_in s.rows n) (row_in t.rows n) (sym (old_rows s row m n (omega arith))) (sym (get_or_append_left s.rows ((row, m) ∷ []) (Border 0 0 0, pos 0) n less)) (climb.taken n less)
        | inr more ↦
            (let is : n ≡ length s.rows = omega arith in
            both s (first_rows t n) (row, m) (row_in t.rows n) (sym (ap (first_rows t) is ∙ (old_rows s row m (length s.rows) (omega arith) ∙ whole_rows s))) (sym (ap (row_in t.rows) is ∙ get_or-append_seam s.rows (row, m) [] (Border 0 0 0, pos 0))) taken)
      ];
    }
  where
    both : (a b : RowSum) (x y : Row × ℤ) → a ≡ b → x ≡ y → IsTaken p allowed a x.0 x.1 → IsTaken p allowed b y.0 y.1
    both a b x y e q h =
        subst (λ (z : Row × ℤ). IsTaken p allowed b z.0 z.1) q (subst (λ (z : RowSum). IsTaken p allowed z x.0 x.1) e h)
