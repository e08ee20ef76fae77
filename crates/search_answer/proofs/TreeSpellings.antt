-- What the trees of a search have a spelling for.
use Rattle.std.proofs.Common.{◌≡◌, ℕ, zero, suc, ◌+◌, ◌*◌, ◌/◌, ◌<◌, ◌≤◌, refl, sym, subst, arith, inl, inr, List, ◌∷◌, length, slice_index}
use Rattle.std.specs.Prelude.{ℤ, pos, All, slice_index_or}
use Rattle.std.proofs.Math.Nat.{mul-div-le, div-le_self}
use Rattle.std.proofs.lemmas.Bool.{cases_lt}
use Rattle.std.proofs.lemmas.List.Elements.{All-from_get_or}
use Rattle.agg_base.specs.declared.limits.TheConstants.{AREAS, MARKS, SPLITS}
use Rattle.agg_model.specs.Problem.{Problem, IsProblem, IsRising, areas}
use Rattle.row_laws.specs.declared.row.Row.{Row}
use Rattle.row_laws.specs.declared.row.Row.TheVariants.{Border, Escape}
use Rattle.row_laws.specs.declared.leaf.Leaf.{Leaf}
use Rattle.row_laws.specs.declared.leaf.Leaf.TheVariants.{Sum, Fixed}
use Rattle.row_laws.specs.declared.tree.Tree.{Tree, Leaf as LeafNode, Split'}
use Rattle.row_laws.specs.Rows.{IsInForm}
use Rattle.row_laws.specs.Values.{RowSum, Allowed, IsSoundSum, row_in, mark_count}
use Rattle.row_laws.specs.FirstSums.{plain_sum, void_sum, escape_rows, IsPartOf}
use Rattle.row_laws.specs.Leaves.{IsSoundLeaf, leaf_answer}
use Rattle.row_laws.specs.Trees.{only, without, IsSoundTree, split_count}
use Rattle.row_laws.proofs.VoidLemmas.{within_part}
use Rattle.branch_bound.specs.Outcomes.{IsSearched}
use Rattle.branch_bound.specs.Trees.{no_parent, IsTaken, IsKept, IsKeptLeaf}
use Rattle.branch_bound.proofs.GrownLemmas.{AreBelow, only_below, without_below}
use Rattle.cert_text.specs.Lines.{IsRowInRange, IsMultiplier}
use Rattle.cert_text.specs.TreeTexts.{HasTreeSpelling, IsSumInRange, IsLeafInRange, IsTreeInRange, leaf_marks, tree_marks}
use Rattle.search_answer.specs.Offers.{AreStatable}

-- ---- sums

row_in_range : (p : Problem) (row : Row) → IsProblem p → IsInForm p row → IsRowInRange row
row_in_range p (Border l side k) ok form =
    let links_few = ok.few_links in
    let classes_few = ok.few_classes in
    let here = form.0 in
    let sides = form.1 in
    let below = form.2 in
    (omega arith, omega arith, omega arith)
row_in_range p (Escape v k set) ok form =
    let areas_few = ok.few_areas in
    let classes_few = ok.few_classes in
    let here = form.area in
    let below = form.class in
    (omega arith, omega arith, All-from_get_or (λ s. s < AREAS) set 0 (λ i r. (let member = form.within i r in omega arith)), form.rising)

-- a sound sum, whose multipliers can be stated
sum_in_range : (p : Problem) (s : RowSum) → IsProblem p → IsSoundSum p s → AreStatable s.rows → IsSumInRange s
sum_in_range p s ok sound small =
    record {
      some = sound.denominator.above;
      most = sound.denominator.below;
      void = sound.denominator.whole;
      rows = All-from_get_or (λ row. IsRowInRange row.0) s.rows (Border 0 0 0, pos 0) (λ i h. row_in_range p (row_in s.rows i).0 ok (sound.rows i h).0);
      multipliers = small;
    }

plain_in_range : IsSumInRange plain_sum
plain_in_range = record { some = omega arith; most = omega arith; void = λ e. refl; rows = λ k d h. absurd (omega arith); multipliers = λ k d h. absurd (omega arith) }

-- ---- trees of a search

-- what fits can be stated
abbrev IsStatableAll : (Allowed → RowSum → Type 0) → Type 0
IsStatableAll fits = (f : Allowed) (s : RowSum) → fits f s → AreStatable s.rows

-- the leaf can be stated, and has at most so many marks
abbrev IsSmall : ℕ → Leaf → Type 0
IsSmall share leaf = IsLeafInRange leaf × (leaf_marks leaf ≤ share)

no_parent_small : (share : ℕ) → IsSmall share no_parent
no_parent_small share = (plain_in_range, omega arith)

-- what is made of an offer that fits and of a parent's leaf that is small is small
taken_small : (p : Problem) (share : ℕ) (fits : Allowed → RowSum → Type 0) (from : Leaf) (f : Allowed) (offer : RowSum) (leaf : Leaf) → IsProblem p → IsStatableAll fits → fits f offer → IsSmall share from → IsTaken p share f from offer leaf
    → share ≤ MARKS → IsSmall share leaf
taken_small p share fits from f offer leaf ok stated fit small taken few =
    elim taken.source [
      | inl own ↦ (
          let marks = own.1.1.marks in
          subst (IsSmall share) (sym own.0) (sum_in_range p offer ok own.1.1.sound (stated f offer fit), omega arith)
          )
      | inr other ↦ elim other [
        | inl same ↦ subst (IsSmall share) (sym same) small
        | inr plain ↦ subst (IsSmall share) (sym plain) (no_parent_small share)
      ]
    ]

leaf_in_range : (p : Problem) (share : ℕ) (fits : Allowed → RowSum → Type 0) (c : ℤ) (from leaf : Leaf) (f : Allowed) → IsProblem p → share ≤ MARKS → IsStatableAll fits → IsSmall share from → IsKeptLeaf p share fits c from leaf f
    → IsSmall share leaf
leaf_in_range p share fits c from Fixed f ok few stated small kept = (tt, omega arith)
leaf_in_range p share fits c from (Sum s) f ok few stated small kept =
    let made = kept.offered (λ single. no_fixed s (kept.single single)) in
    taken_small p share fits from f made.0 (Sum s) ok stated made.1 small made.2 few
  where
    no_fixed : (s : RowSum) → Sum s ≡ Fixed → ⊥
    no_fixed s h = cc

marks_of_both : (a b x y share : ℕ) → a ≤ (x + 1) * share → b ≤ (y + 1) * share → a + b ≤ (x + y + 1 + 1) * share
marks_of_both a b x y share h k = grind arith

tree_in_range : (p : Problem) (share : ℕ) (fits : Allowed → RowSum → Type 0) (c : ℤ) (from : Leaf) (tree : Tree Leaf) (f : Allowed) → IsProblem p → share ≤ MARKS → IsStatableAll fits → IsSmall share from → AreBelow p p.classes f
    → IsSoundTree IsSoundLeaf leaf_answer p tree f → IsKept p share fits c from tree f → IsTreeInRange tree × (tree_marks tree ≤ (split_count tree + 1) * share)
tree_in_range p share fits c from (LeafNode leaf) f ok few stated small below sound kept =
    let leaf_is = leaf_in_range p share fits c from leaf f ok few stated small kept in
    let marks = leaf_is.1 in
    (leaf_is.0, omega arith)
tree_in_range p share fits c from (Split' v k x with y rest) f ok few stated small below sound kept =
    let was = kept.0.1 in
    let had = taken_small p share fits from f was.0 kept.0.0 ok stated was.1 small was.2 few in
    let first = tree_in_range p share fits c kept.0.0 with (only f v k) ok few stated had (only_below p p.classes f v k sound.0 sound.1 below) sound.3 kept.1 in
    let second = tree_in_range p share fits c kept.0.0 rest (without f v k) ok few stated had (without_below p p.classes f v k below) sound.4 kept.2 in
    let areas_few = ok.few_areas in
    let classes_few = ok.few_classes in
    let area = sound.0 in
    let class = below v k sound.0 sound.1 in
    ((omega arith, omega arith, first.0, second.0), marks_of_both (tree_marks with) (tree_marks rest) (split_count with) (split_count rest) share first.1 second.1)

shared : (splits count marks : ℕ) → count ≤ splits → marks ≤ (count + 1) * (MARKS / (splits + 1)) → marks ≤ MARKS
shared splits count marks few most =
    let all = mul-div-le MARKS (splits + 1) in
    let fewer = product_most (count + 1) (splits + 1) (MARKS / (splits + 1)) (omega arith) in
    omega arith
  where
    product_most : (a b c : ℕ) → a ≤ b → a * c ≤ b * c
    product_most a b c h = grind arith

share_most : (splits : ℕ) → MARKS / (splits + 1) ≤ MARKS
share_most splits = div-le_self MARKS (splits + 1)

-- the tree of a search has a spelling
pub search_spelling : (p : Problem) (splits : ℕ) (fits : Allowed → RowSum → Type 0) (c b : ℤ) (tree : Tree Leaf) → IsProblem p → splits ≤ SPLITS → ((f : Allowed) (s : RowSum) → fits f s → AreStatable s.rows)
    → IsSearched p (MARKS / (splits + 1)) fits splits c b tree → HasTreeSpelling tree
search_spelling p splits fits c b tree ok most stated is =
    let few = is.few in
    let root = is.proves.root in
    let range = tree_in_range p (MARKS / (splits + 1)) fits c no_parent tree is.proves.allowed ok (share_most splits) stated (no_parent_small (MARKS / (splits + 1))) root.only is.proves.sound is.kept in
    record {
      in_range = range.0;
      depth = is.shallow;
      splits = omega arith;
      marks = shared splits (split_count tree) (tree_marks tree) few range.1;
    }

-- ---- the void leaf

-- a rising list of numbers below n has at most n of them
rising_above : (xs : List ℕ) → IsRising xs → (i : ℕ) → i < length xs → i ≤ slice_index xs i
rising_above xs rising zero h = omega arith
rising_above xs rising (suc i) h =
    let before = rising_above xs rising i (omega arith) in
    let more = rising i (suc i) (omega arith) h in
    omega arith

rising_few : (xs : List ℕ) (n : ℕ) → IsRising xs → ((i : ℕ) → i < length xs → slice_index xs i < n) → length xs ≤ n
rising_few xs n rising below =
    elim (cases_lt n (length xs)) [
      | inl more ↦ (
          let least = rising_above xs rising n more in
          let most = below n more in
          absurd (omega arith)
          )
      | inr few ↦ few
    ]

escape_in_range : (p : Problem) (v k : ℕ) (part : List ℕ) → IsProblem p → v < areas p → k < p.classes → IsPartOf p v part → IsRowInRange (Escape v k part)
escape_in_range p v k part ok h q is =
    let areas_few = ok.few_areas in
    let classes_few = ok.few_classes in
    (omega arith, omega arith, All-from_get_or (λ s. s < AREAS) part 0 (λ i r. (let below = within_part p v part is i r in omega arith)), is.rising)

escapes_in_range : (p : Problem) (v : ℕ) (part : List ℕ) → IsProblem p → v < areas p → IsPartOf p v part → (n k : ℕ) → k + n ≤ p.classes
    → All (λ row. IsRowInRange row.0) (escape_rows v part k n) × All (λ row. IsMultiplier row.1) (escape_rows v part k n)
escapes_in_range p v part ok h is zero k within = ((λ i d q. absurd (omega arith)), (λ i d q. absurd (omega arith)))
escapes_in_range p v part ok h is (suc n) k within =
    let rest = escapes_in_range p v part ok h is n (k + 1) (omega arith) in
    let first = escape_in_range p v k part ok h (omega arith) is in (
      (λ i d q. at_each (λ row. IsRowInRange row.0) (Escape v k part, pos 1) (escape_rows v part (k + 1) n) first rest.0 i d q),
      (λ i d q. at_each (λ row. IsMultiplier row.1) (Escape v k part, pos 1) (escape_rows v part (k + 1) n) (omega arith) rest.1 i d q),
    )
  where
    at_each : (P : Row × ℤ → Type 0) (x : Row × ℤ) (xs : List (Row × ℤ)) → P x → All P xs → (i : ℕ) (d : Row × ℤ) → i < length (x ∷ xs) → P (slice_index_or (x ∷ xs) i d)
    at_each P x xs here rest zero d q = here
    at_each P x xs here rest (suc i) d q = rest i d (omega arith)

marks_of_escapes : (v : ℕ) (part : List ℕ) (n k : ℕ) → mark_count (escape_rows v part k n) ≡ n * (8 + length part)
marks_of_escapes v part zero k = omega arith
marks_of_escapes v part (suc n) k =
    let rest = marks_of_escapes v part n (k + 1) in
    omega arith

pub void_spelling : (p : Problem) (v : ℕ) (part : List ℕ) → IsProblem p → v < areas p → IsPartOf p v part → HasTreeSpelling (LeafNode (Sum (void_sum p v part)))
void_spelling p v part ok h is =
    let rows = escapes_in_range p v part ok h is p.classes 0 (omega arith) in
    let counted = marks_of_escapes v part p.classes 0 in
    let few = rising_few part (areas p) is.rising (within_part p v part is) in
    let areas_few = ok.few_areas in
    let classes_few = ok.few_classes in
    let most : p.classes * (8 + length part) ≤ 64 * (8 + 65536) = product_most p.classes (8 + length part) 64 (8 + 65536) (omega arith) (omega arith) in
    record {
      in_range = record { some = omega arith; most = omega arith; void = λ e. refl; rows = rows.0; multipliers = rows.1 };
      depth = omega arith;
      splits = omega arith;
      marks = omega arith;
    }
  where
    product_most : (a b c d : ℕ) → a ≤ c → b ≤ d → a * b ≤ c * d
    product_most a b c d h k = grind arith
