-- Where all steps lead.
use Rattle.std.proofs.Common.{◌≡◌, ℕ, zero, suc, ◌<◌, ◌≤◌, List, length, refl, ap, sym, ◌∙◌, arith, subst, inl, inr, zero-add}
use Rattle.std.specs.Prelude.{slice_index}
use Rattle.std.proofs.lemmas.Bool.{cases_eq}
use Rattle.std.proofs.lemmas.List.{same_lists, get_or_default}
use Rattle.std.proofs.lemmas.List.FromFn.{length-map-range_with_len, get_or-map-range_with_len}
use Rattle.union_find.specs.Steps.{LeadsDown, IsForest, after_steps, top_at, tops}

pub length-tops : (f : List ℕ) → length (tops f) ≡ length f
length-tops f = length-map-range_with_len (top_at f) 0 (length f)

pub tops_at : (f : List ℕ) (v : ℕ) → v < length f → slice_index (tops f) v ≡ top_at f v
tops_at f v h = get_or-map-range_with_len (top_at f) 0 (length f) v v 0 h (zero-add v)

-- a member that leads to itself stays there
stays : (f : List ℕ) (n v : ℕ) → slice_index f v ≡ v → after_steps f n v ≡ v
stays f zero v e = refl
stays f (suc n) v e = ap (after_steps f n) e ∙ stays f n v e

-- as many steps as the member's number lead as far as any more
same_end : (f : List ℕ) → LeadsDown f → (n m v : ℕ) → v < length f → v ≤ n → v ≤ m → after_steps f n v ≡ after_steps f m v
same_end f down zero m v h a b = let d = down v h in let e : slice_index f v ≡ v = omega arith in sym (stays f m v e)
same_end f down (suc n) zero v h a b = let d = down v h in let e : slice_index f v ≡ v = omega arith in stays f (suc n) v e
same_end f down (suc n) (suc m) v h a b =
    let d = down v h in
    elim (cases_eq (slice_index f v) v) [
      | inl e ↦ stays f (suc n) v e ∙ sym (stays f (suc m) v e)
      | inr ne ↦ same_end f down n m (slice_index f v) (omega arith) (omega arith) (omega arith)
    ]

-- the ends of all steps are labels
pub tops_label : (f : List ℕ) → LeadsDown f → IsForest (top_at f) f
tops_label f down = record {
  down = down;
  same = λ v h. (let d = down v h in same_end f down (slice_index f v) v (slice_index f v) (omega arith) (omega arith) (omega arith) ∙ one_more v h);
  top = λ v h e. stays f v v e;
}
  where
    one_more : (v : ℕ) → v < length f → after_steps f v (slice_index f v) ≡ after_steps f v v
    one_more v h = let d = down v h in same_end f down (suc v) v v h (omega arith) (omega arith)

-- a list has one label for each member
one_label : (f : List ℕ) (label_of other : ℕ → ℕ) → IsForest label_of f → IsForest other f → (n v : ℕ) → v ≤ n → v < length f → label_of v ≡ other v
one_label f label_of other a b zero v le h = let d = a.down v h in let e : slice_index f v ≡ v = omega arith in a.top v h e ∙ sym (b.top v h e)
one_label f label_of other a b (suc n) v le h =
    let d = a.down v h in
    elim (cases_eq (slice_index f v) v) [
      | inl e ↦ a.top v h e ∙ sym (b.top v h e)
      | inr ne ↦ sym (a.same v h) ∙ (one_label f label_of other a b n (slice_index f v) (omega arith) (omega arith) ∙ b.same v h)
    ]

-- the ends of all steps are those labels
pub tops_are : (f : List ℕ) (label_of : ℕ → ℕ) → IsForest label_of f → (v : ℕ) → v < length f → slice_index (tops f) v ≡ label_of v
tops_are f label_of forest v h = tops_at f v h ∙ one_label f (top_at f) label_of (tops_label f forest.down) forest v v (omega arith) h

-- a list that has each member's label is that of all ends
pub is_tops : (f new : List ℕ) → LeadsDown f → length new ≡ length f → ((v : ℕ) → v < length f → slice_index new v ≡ top_at f v) → new ≡ tops f
is_tops f new down long at =
    same_lists new (tops f) (long ∙ sym (length-tops f)) (λ v d h.
    let inside : v < length f = omega arith in
    get_or_default new v d 0 h ∙ (at v inside ∙ (sym (tops_at f v inside) ∙ sym (get_or_default (tops f) v d 0 (subst (λ (n : ℕ). v < n) (sym (length-tops f)) inside)))))

-- a list with the same labels has the same ends
pub tops_stay : (f new : List ℕ) → LeadsDown f → length new ≡ length f → IsForest (top_at f) new → tops new ≡ tops f
tops_stay f new down long forest =
    same_lists (tops new) (tops f) (length-tops new ∙ (long ∙ sym (length-tops f))) (λ v d h.
    let inside : v < length new = subst (λ (n : ℕ). v < n) (length-tops new) h in
    let within : v < length f = omega arith in
    get_or_default (tops new) v d 0 h
    ∙ (tops_are new (top_at f) forest v inside ∙ (sym (tops_at f v within) ∙ sym (get_or_default (tops f) v d 0 (subst (λ (n : ℕ). v < n) (sym (length-tops f)) within)))))
