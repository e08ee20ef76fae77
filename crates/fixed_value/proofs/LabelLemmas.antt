-- Labels of components, as sets are joined.
use Rattle.std.proofs.Common.{◌≡◌, ◌≢◌, ℕ, zero, suc, ◌+◌, ◌<◌, ◌≤◌, Bool, true, false, List, [], length, refl, ap, sym, ◌∙◌, arith, subst, inl, inr, min, max, add-one}
use Rattle.std.specs.Prelude.{slice_index, ◌==◌}
use Rattle.std.proofs.lemmas.Bool.Decides.{Decides-eqb}
use Rattle.union_find.specs.Steps.{merge}
use Rattle.union_find.specs.Sets.{AreSets}
use Rattle.union_find.proofs.StepLemmas.{merge_tells, of_either}
use Rattle.union_find.proofs.SetLemmas.{least_alone, one_least, set_back, set_itself}
use Rattle.agg_model.specs.Problem.{Problem, IsProblem, areas, low_of, high_of}
use Rattle.row_laws.specs.Components.{label}
use Rattle.row_laws.specs.Fixed.{Kinds, is_same_kind, component}
use Rattle.row_laws.proofs.Tests.{by_test}
use Rattle.fixed_value.specs.Components.{AreComponents}

-- the heads are the labels that the first n links make
pub record AreLabels (p : Problem) (test : ℕ → Bool) (n : ℕ) (heads : List ℕ) : Type 0 where
  pub one_each : length heads ≡ areas p
  pub labels : (v : ℕ) → v < areas p → slice_index heads v ≡ label p test n v
  pub sets : (pairs : List (ℕ × ℕ)) × AreSets pairs heads

pub labels_none : (p : Problem) (test : ℕ → Bool) (heads : List ℕ) → length heads ≡ areas p → AreSets [] heads → AreLabels p test 0 heads
labels_none p test heads long sets = record {
  one_each = long;
  labels = λ v h. least_alone heads sets v (omega arith);
  sets = ([], sets);
}

-- a link that does not pass the test changes no label
pub labels_same : (p : Problem) (test : ℕ → Bool) (n : ℕ) (heads : List ℕ) → test n ≡ false → AreLabels p test n heads → AreLabels p test (n + 1) heads
labels_same p test n heads out was = record {
  one_each = was.one_each;
  labels = λ v h. was.labels v h ∙ rw (add-one n, out) refl;
  sets = was.sets;
}

-- one that does merges those of its ends
pub labels_merged : (p : Problem) (test : ℕ → Bool) (n : ℕ) (old new : List ℕ) (pairs : List (ℕ × ℕ)) → test n ≡ true → low_of p n < areas p → high_of p n < areas p → length new ≡ length old
    → ((v : ℕ) → v < length old → slice_index new v ≡ merge (slice_index old (low_of p n)) (slice_index old (high_of p n)) (slice_index old v)) → AreSets pairs new → AreLabels p test n old → AreLabels p test (n + 1) new
labels_merged p test n old new pairs pass a b long merged sets was = record {
  one_each = long ∙ was.one_each;
  labels = λ v h. (
      let count = was.one_each in
      merged v (omega arith) ∙ (rw (was.labels (low_of p n) a, was.labels (high_of p n) b, was.labels v h) refl ∙ sym (more v)));
  sets = (pairs, sets);
}
  where
    more : (v : ℕ) → label p test (n + 1) v ≡ merge (label p test n (low_of p n)) (label p test n (high_of p n)) (label p test n v)
    more v = rw (add-one n, pass) refl

-- the labels that all links make are the components
pub labels_all : (p : Problem) (kind : Kinds) (heads : List ℕ) → AreLabels p (is_same_kind p kind) (length p.links) heads → AreComponents p kind heads
labels_all p kind heads are = record {
  one_each = are.one_each;
  labels = are.labels;
  down = λ v h. (let n = are.one_each in are.sets.1.least v v (omega arith) (set_itself are.sets.0 v v refl));
  tops = λ v h.
      let n = are.one_each in
      let k : v < length heads = omega arith in
      let down = are.sets.1.least v v k (set_itself are.sets.0 v v refl) in
      one_least are.sets.0 heads are.sets.1 (slice_index heads v) v (omega arith) k (set_back are.sets.0 v (slice_index heads v) (are.sets.1.joined v k));
}

-- where links that pass join areas of one kind, a label is of its areas' kind
label_kind : (p : Problem) (test : ℕ → Bool) (kind : ℕ → ℕ) → ((l : ℕ) → test l ≡ true → kind (low_of p l) ≡ kind (high_of p l)) → (n v : ℕ) → kind (label p test n v) ≡ kind v
label_kind p test kind same zero v = refl
label_kind p test kind same (suc l) v =
    let a = label p test l (low_of p l) in
    let b = label p test l (high_of p l) in
    let x = label p test l v in
    by_test (test l) _
    (λ t.
    let ea : kind a ≡ kind (low_of p l) = label_kind p test kind same l (low_of p l) in
    let eb : kind b ≡ kind (low_of p l) = label_kind p test kind same l (high_of p l) ∙ sym (same l t) in
    let both = of_either (λ m. kind m ≡ kind (low_of p l)) a b ea eb in
    let is : kind (merge a b x) ≡ kind v = elim (merge_tells a b x) [
      | inl h ↦ ap kind h.1 ∙ (both.1 ∙ (sym both.0 ∙ (ap kind (sym h.0) ∙ label_kind p test kind same l v)))
      | inr h ↦ ap kind h.1 ∙ label_kind p test kind same l v
    ] in
    rw t is)
    (λ f. rw f (label_kind p test kind same l v))

pub component_kind : (p : Problem) (kind : Kinds) (v : ℕ) → kind (component p kind v) ≡ kind v
component_kind p kind v =
    label_kind p (is_same_kind p kind) kind (λ l t. (Decides-eqb (kind (low_of p l)) (kind (high_of p l))).0 t) (length p.links) v
