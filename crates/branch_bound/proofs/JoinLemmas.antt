-- Areas of one class, as links between them are joined.
use Rattle.std.proofs.Common.{◌≡◌, ◌≢◌, ℕ, ◌+◌, ◌<◌, true, false, List, [], ◌∷◌, length, sym, ◌∙◌}
use Rattle.std.specs.Prelude.{slice_index}
use Rattle.std.proofs.lemmas.Bool.Decides.{Decides-eqb}
use Rattle.union_find.specs.Sets.{AreSets}
use Rattle.union_find.specs.Steps.{merge}
use Rattle.agg_model.specs.Problem.{Problem, areas, low_of, high_of}
use Rattle.agg_model.specs.Tops.{AreHeads}
use Rattle.agg_model.proofs.HeadLemmas.{AreInnerPairs, no_inner_pairs, inner_pairs_more, inner_pairs_same, sets_are_heads}
use Rattle.row_laws.specs.Fixed.{is_same_kind}
use Rattle.row_laws.proofs.Tests.{clash}
use Rattle.fixed_value.specs.Components.{AreComponents}
use Rattle.fixed_value.proofs.LabelLemmas.{AreLabels, labels_none, labels_same, labels_merged, labels_all}
use Rattle.branch_bound.specs.Components.{by_kind}

-- the heads are the labels that the first n links make, and their sets those that these links join
pub record AreJoined (p : Problem) (kinds : List ℕ) (n : ℕ) (heads : List ℕ) : Type 0 where
  pub labels : AreLabels p (is_same_kind p (λ v. slice_index kinds v)) n heads
  pub pairs : List (ℕ × ℕ)
  pub inner : AreInnerPairs p (by_kind kinds) n pairs
  pub sets : AreSets pairs heads

pub joined_none : (p : Problem) (kinds heads : List ℕ) → length heads ≡ areas p → AreSets [] heads → AreJoined p kinds 0 heads
joined_none p kinds heads long sets =
    record { labels = labels_none p _ heads long sets; pairs = []; inner = no_inner_pairs p (by_kind kinds); sets = sets }

pub joined_same : (p : Problem) (kinds : List ℕ) (n : ℕ) (heads : List ℕ) → is_same_kind p (λ v. slice_index kinds v) n ≡ false → AreJoined p kinds n heads → AreJoined p kinds (n + 1) heads
joined_same p kinds n heads apart was =
    let other : slice_index kinds (low_of p n) ≢ slice_index kinds (high_of p n) =
    λ e. clash (sym apart ∙ (Decides-eqb (slice_index kinds (low_of p n)) (slice_index kinds (high_of p n))).1 e) in
    record {
      labels = labels_same p _ n heads apart was.labels;
      pairs = was.pairs;
      inner = inner_pairs_same p (by_kind kinds) n was.pairs other was.inner;
      sets = was.sets;
    }

pub joined_more : (p : Problem) (kinds : List ℕ) (n : ℕ) (old new : List ℕ) → is_same_kind p (λ v. slice_index kinds v) n ≡ true → low_of p n < areas p → high_of p n < areas p → length new ≡ length old
    → ((v : ℕ) → v < length old → slice_index new v ≡ merge (slice_index old (low_of p n)) (slice_index old (high_of p n)) (slice_index old v))
    → ((pairs : List (ℕ × ℕ)) → AreSets pairs old → AreSets ((low_of p n, high_of p n) ∷ pairs) new) → AreJoined p kinds n old → AreJoined p kinds (n + 1) new
joined_more p kinds n old new same a b long merged sets was =
    let before = was.labels.sets in
    record {
      labels = labels_merged p _ n old new ((low_of p n, high_of p n) ∷ before.0) same a b long merged (sets before.0 before.1) was.labels;
      pairs = (low_of p n, high_of p n) ∷ was.pairs;
      inner = inner_pairs_more p (by_kind kinds) n was.pairs ((Decides-eqb (slice_index kinds (low_of p n)) (slice_index kinds (high_of p n))).0 same) was.inner;
      sets = sets was.pairs was.sets;
    }

pub joined_components : (p : Problem) (kinds heads : List ℕ) → AreJoined p kinds (length p.links) heads → AreComponents p (λ v. slice_index kinds v) heads
joined_components p kinds heads are = labels_all p (λ v. slice_index kinds v) heads are.labels

pub joined_heads : (p : Problem) (kinds heads : List ℕ) → AreJoined p kinds (length p.links) heads → AreHeads p (by_kind kinds) heads
joined_heads p kinds heads are = sets_are_heads p (by_kind kinds) are.pairs heads are.inner are.sets are.labels.one_each
