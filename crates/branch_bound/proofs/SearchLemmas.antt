-- What a search keeps with each split, and what it knows at its end.
use Rattle.std.proofs.Common.{◌≡◌, ℕ, ◌+◌, ◌<◌, ◌≤◌, Bool, true, false, refl, sym, ◌∙◌, ap, subst, arith, inl, inr, ◌⊎◌, Result, Ok, Err, Some, List}
use Rattle.std.specs.Prelude.{ℤ, ◌≤ℤ◌, ◌<ℤ◌, int_lt, not, ◌&&◌, ◌-◌, ◌*◌, ◌^◌, min}
use Rattle.std.proofs.lemmas.Int.{ints}
use Rattle.std.proofs.lemmas.Bool.Decides.{nat_tests}
use Rattle.agg_base.specs.declared.limits.TheConstants.{DEPTH}
use Rattle.agg_model.specs.Problem.{Problem, Grouping, IsProblem, IsFeasible, areas, cost}
use Rattle.greedy_start.specs.Starts.{IsNumberedByLeast}
use Rattle.row_laws.specs.Values.{Allowed, RowSum}
use Rattle.row_laws.specs.Bounds.{HoldsFor}
use Rattle.row_laws.specs.Fixed.{AreSingle, fixed_value, kind_in}
use Rattle.row_laws.specs.Leaves.{leaf_answer, IsRoot}
use Rattle.row_laws.specs.Trees.{only, without}
use Rattle.row_laws.specs.declared.bound.Bound.{Bound}
use Rattle.row_laws.specs.declared.bound.Bound.TheVariants.{Least, Void}
use Rattle.row_laws.specs.declared.bound.Weak.{Weak}
use Rattle.row_laws.specs.declared.leaf.Leaf.{Leaf}
use Rattle.row_laws.specs.declared.leaf.Leaf.TheVariants.{Sum, Fixed}
use Rattle.row_laws.specs.declared.tree.Tree.{Tree}
use Rattle.row_laws.proofs.Tests.{clash}
use Rattle.row_laws.proofs.LeafLemmas.{root_law}
use Rattle.bound_rows.specs.Domains.{allows, IsFor}
use Rattle.bound_rows.specs.Offers.{IsAtMost}
use Rattle.bound_rows.specs.Scratches.{IsScratchFor}
use Rattle.branch_bound.specs.declared.tips.Tip.{Tip}
use Rattle.branch_bound.specs.declared.tips.Rank.{Rank}
use Rattle.branch_bound.specs.declared.search.Search.{Search}
use Rattle.branch_bound.specs.declared.outcome.Kind.{Kind}
use Rattle.branch_bound.specs.declared.outcome.Kind.TheVariants.{Optimal, Within, NoGrouping}
use Rattle.branch_bound.specs.Tips.{is_closed, is_below, is_open}
use Rattle.branch_bound.specs.Components.{IsPriced}
use Rattle.branch_bound.specs.Growth.{shape_of}
use Rattle.branch_bound.specs.Shapes.{Shape, Tipped, rank_of, forked, first_tip, first_allowed, grown, splits_in, AreSplits, IsTreeOf}
use Rattle.branch_bound.specs.Trees.{no_parent, IsFork, IsGrown, IsTipOver, IsNoCheaper, IsGoodTip, HoldsOfAll, IsSpent, node_count}
use Rattle.branch_bound.specs.Enough.{HasEnough, IsClosed}
use Rattle.branch_bound.specs.Outcomes.{IsFound, IsSearched, IsWithin, IsKind, IsKindBy, IsAskedFor}
use Rattle.branch_bound.specs.Searches.{IsBest, IsSearch}
use Rattle.branch_bound.proofs.RankLemmas.{at_most_same, at_most_along}
use Rattle.branch_bound.proofs.EnoughLemmas.{never_within}
use Rattle.branch_bound.proofs.GrownLemmas.{IsWorthTip, grown_same, first_tip_is, grown_keeps, grown_holds, are_splits}
use Rattle.branch_bound.proofs.ShapeLemmas.{tree_sound, tree_bound, tree_splits, tree_nodes, tree_shallow, tree_kept, tree_deep}

-- ---- tips

-- what fits one provider fits another
pub tip_same : (p : Problem) (share : ℕ) (fits other : Allowed → RowSum → Type 0) (x : Leaf) (f : Allowed) (d : ℕ) (t : Tip) → ((s : RowSum) → fits f s → other f s) → IsTipOver p share fits x f d t → IsTipOver p share other x f d t
tip_same p share fits other x f d t same is =
    record {
      sound = is.sound;
      worth = is.worth;
      depth = is.depth;
      shallow = is.shallow;
      single = is.single;
      offered = λ several. (let from = is.offered several in (from.0, same from.0 from.1, from.2));
    }

-- an offer that fits makes the tip
pub tip_fits : (p : Problem) (share : ℕ) (fits : Allowed → RowSum → Type 0) (offer : RowSum) (x : Leaf) (f : Allowed) (d : ℕ) (t : Tip) → fits f offer → IsTipOver p share (λ _ s. s ≡ offer) x f d t → IsTipOver p share fits x f d t
tip_fits p share fits offer x f d t fit is =
    tip_same p share (λ _ s. s ≡ offer) fits x f d t (λ s e. subst (λ (x : RowSum). fits f x) (sym e) fit) is

pub cheaper_still : (c e : ℤ) (t : Tip) → e ≤ℤ c → IsNoCheaper c t → IsNoCheaper e t
cheaper_still c e t less is fixed = at_most_along (Least e) (Least c) t.bound less (is fixed)

-- components that cost no more than the best grouping are as good as that
pub found_cheaper : (p : Problem) (f : Allowed) (leaf : Leaf) (bound : Bound) (old new : Grouping) (c d : ℤ) → IsFound p old c → leaf ≡ Fixed → bound ≡ Least d → leaf_answer leaf p f ≡ Ok bound
    → ((x : ℤ) → fixed_value p (kind_in p f) ≡ Least x → IsPriced p new x) → d ≤ℤ c → IsFound p new d
found_cheaper p f leaf bound old new c d best is least worth price less =
    let fixed : leaf_answer Fixed p f ≡ Ok (Least d) = subst (λ (l : Leaf). leaf_answer l p f ≡ Ok bound) is worth ∙ ap Ok least in
    let new = price d (inner (leaf_answer Fixed p f) (fixed_value p (kind_in p f)) (Least d) refl fixed) in
    let there = new.costs in
    let here = best.costs in
    record {
      feasible = new.feasible;
      numbered = new.numbered;
      cheap = λ parts numbered one. (let most = best.cheap parts numbered one in omega (arith, ints));
      costs = new.costs;
    }
  where
    inner : (r : Result Bound Weak) (x y : Bound) → r ≡ Ok x → r ≡ Ok y → x ≡ y
    inner (Ok z) x y h k = cc
    inner (Err e) x y h k = cc

-- a feasible grouping that costs less than the best one, numbered by its least areas, is as good as that
pub found_less : (p : Problem) (old new : Grouping) (c : ℤ) → IsFound p old c → IsFeasible p new → IsNumberedByLeast p new → cost p new <ℤ cost p old → IsFound p new (cost p new)
found_less p old new c best feasible numbered less =
    record {
      feasible = feasible;
      numbered = numbered;
      cheap = λ parts are one. (let most = best.cheap parts are one in omega (arith, ints));
      costs = refl;
    }

pub no_dearer : (a b c : ℤ) → a ≤ℤ b → b ≤ℤ c → a ≤ℤ c
no_dearer a b c h k = omega (arith, ints)

-- a search stays one where what fits one provider fits another
pub search_same : (p : Problem) (share : ℕ) (fits other : Allowed → RowSum → Type 0) (s : Search) → ((f : Allowed) (r : RowSum) → fits f r → other f r) → IsSearch p share fits s → IsSearch p share other s
search_same p share fits other s same is =
    record {
      rules = is.rules;
      root = is.root;
      domains = is.domains;
      scratch = is.scratch;
      best = is.best;
      tree = grown_same p (IsGoodTip p share fits s.best.cost) (IsGoodTip p share other s.best.cost) (IsSpent p share fits) (IsSpent p share other)
          (λ x f d t tip. (tip_same p share fits other x f d t (same f) tip.0, tip.1))
          (λ x f had spent. (spent.0, same f spent.0 spent.1, spent.2, spent.3)) no_parent (shape_of s.growth) (allows s.whole) 0 is.tree;
    }

worth_tips : (p : Problem) (share : ℕ) (fits : Allowed → RowSum → Type 0) (c : ℤ) (x : Leaf) (s : Shape) (f : Allowed) (d : ℕ) → IsGrown p (IsGoodTip p share fits c) (IsSpent p share fits) x s f d → IsGrown p (λ _ f d t. IsWorthTip p f t) (IsSpent p share fits) x s f d
worth_tips p share fits c x s f d is =
    grown_same p (IsGoodTip p share fits c) (λ _ f d t. IsWorthTip p f t) (IsSpent p share fits) (IsSpent p share fits) (λ x f d t tip. record { sound = tip.0.sound; worth = tip.0.worth }) (λ x f had spent. spent) x s f d is

-- the bound of the first rank holds of every feasible grouping
pub search_holds : (p : Problem) (share : ℕ) (fits : Allowed → RowSum → Type 0) (s : Search) → IsSearch p share fits s → HoldsOfAll p (rank_of (shape_of s.growth)).bound
search_holds p share fits s is g good =
    grown_holds p (IsSpent p share fits) is.rules no_parent (shape_of s.growth) (allows s.whole) 0 (worth_tips p share fits s.best.cost no_parent (shape_of s.growth) (allows s.whole) 0 is.tree) g good (root_law p (allows s.whole) g is.rules good is.root)

-- ---- a split

-- the splits of a search are proper
pub search_splits : (p : Problem) (share : ℕ) (fits : Allowed → RowSum → Type 0) (s : Search) → IsSearch p share fits s → AreSplits (areas p) (shape_of s.growth) (allows s.whole)
search_splits p share fits s is =
    are_splits p p.classes (IsGoodTip p share fits s.best.cost) (IsSpent p share fits) is.rules.few_classes no_parent (shape_of s.growth) (allows s.whole) 0 is.domains.below is.tree

not_closed : (b : Bool) → not b ≡ true → b ≡ false
not_closed true h = cc
not_closed false h = refl

and_both_of : (a b : Bool) → a && b ≡ true → (a ≡ true) × (b ≡ true)
and_both_of true b h = (refl, h)
and_both_of false b h = cc

open_leaf : (leaf : Leaf) (d : ℕ) → is_closed leaf d ≡ false → (leaf ≡ Fixed → ⊥) × (d < DEPTH)
open_leaf Fixed d h = clash (sym h)
open_leaf (Sum s) d h = ((λ e. cc), grind (arith, nat_tests))

-- an may first tip has an area with more than one class, and is not at the greatest depth
pub open_tip : (p : Problem) (share : ℕ) (fits : Allowed → RowSum → Type 0) (s : Search) → IsSearch p share fits s → is_open (rank_of (shape_of s.growth)) s.best.cost ≡ true
    → (¬ AreSingle p (first_allowed (shape_of s.growth) (allows s.whole)) (areas p)) × ((first_tip (shape_of s.growth)).depth < DEPTH)
open_tip p share fits s is may =
    let first = first_tip_is p (IsGoodTip p share fits s.best.cost) (IsSpent p share fits) no_parent (shape_of s.growth) (allows s.whole) 0 is.tree in
    let closed = not_closed (rank_of (shape_of s.growth)).is_closed (and_both_of (is_below (rank_of (shape_of s.growth)).bound s.best.cost) (not (rank_of (shape_of s.growth)).is_closed) may).1 in
    let leaf = open_leaf (first_tip (shape_of s.growth)).leaf (first_tip (shape_of s.growth)).depth (ap (λ (r : Rank). r.is_closed) first.1 ∙ closed) in
    (λ single. leaf.0 (first.0.2.0.single single), leaf.1)

-- what is at most what holds holds too
holds_below : (p : Problem) (g : Grouping) (b c : Bound) → IsAtMost b c → HoldsFor c p g → HoldsFor b p g
holds_below p g (Least b) (Least c) h k = omega (arith, ints)
holds_below p g (Least b) Void h k = absurd k
holds_below p g Void (Least c) h k = absurd h
holds_below p g Void Void h k = k

-- the offer of a tip is worth no more than what holds of every feasible grouping
spent_of : (p : Problem) (share : ℕ) (fits : Allowed → RowSum → Type 0) (x : Leaf) (f : Allowed) (d : ℕ) (t : Tip) → HoldsOfAll p t.bound → (¬ AreSingle p f (areas p)) → IsTipOver p share fits x f d t → IsSpent p share fits x f t.leaf
spent_of p share fits x f d t holds several is =
    let from = is.offered several in
    (from.0, from.1, from.2, λ b worth g good. holds_below p g b t.bound (from.2.worth b t.bound worth is.worth) (holds g good))

pub stepped : (p : Problem) (share : ℕ) (fits : Allowed → RowSum → Type 0) (s t : Search) (v k : ℕ) (left right : Tip) → IsSearch p share fits s → is_open (rank_of (shape_of s.growth)) s.best.cost ≡ true
    → IsFork p (first_allowed (shape_of s.growth) (allows s.whole)) v k → t.whole ≡ s.whole → shape_of t.growth ≡ grown (shape_of s.growth) (forked v k (Tipped left) (Tipped right))
    → t.best.cost ≤ℤ s.best.cost → IsBest p t.best → IsScratchFor p t.scratch
    → IsGoodTip p share fits t.best.cost (first_tip (shape_of s.growth)).leaf (only (first_allowed (shape_of s.growth) (allows s.whole)) v k) ((first_tip (shape_of s.growth)).depth + 1) left
    → IsGoodTip p share fits t.best.cost (first_tip (shape_of s.growth)).leaf (without (first_allowed (shape_of s.growth) (allows s.whole)) v k) ((first_tip (shape_of s.growth)).depth + 1) right
    → IsSearch p share fits t
stepped p share fits s t v k left right is may fork whole growth less found room first second =
    let shape = shape_of s.growth in
    let f = first_allowed shape (allows s.whole) in
    let leaf = (first_tip shape).leaf in
    let rank = (first_tip_is p (IsGoodTip p share fits s.best.cost) (IsSpent p share fits) no_parent shape (allows s.whole) 0 is.tree).1 in
    let holds : HoldsOfAll p (first_tip shape).bound = subst (λ (z : Bound). HoldsOfAll p z) (sym (ap (λ (r : Rank). r.bound) rank)) (search_holds p share fits s is) in
    let cheaper = grown_same p (IsGoodTip p share fits s.best.cost) (IsGoodTip p share fits t.best.cost) (IsSpent p share fits) (IsSpent p share fits)
    (λ y f d x is. (is.0, cheaper_still s.best.cost t.best.cost x less is.1)) (λ y f had spent. spent) no_parent shape (allows s.whole) 0 is.tree in
    let more = grown_keeps p (IsGoodTip p share fits t.best.cost) (IsSpent p share fits) no_parent shape (forked v k (Tipped left) (Tipped right)) (allows s.whole) 0 cheaper (λ y e here. (
      fork,
      refl,
      (leaf, spent_of p share fits y f e (first_tip shape) holds (open_tip p share fits s is may).0 here.0),
      subst (λ (d : ℕ). IsGoodTip p share fits t.best.cost leaf (only f v k) (d + 1) left) here.0.depth first,
      subst (λ (d : ℕ). IsGoodTip p share fits t.best.cost leaf (without f v k) (d + 1) right) here.0.depth second,
    )) in
    record {
      rules = is.rules;
      root = subst (λ (w : List ℕ). IsRoot p (allows w)) (sym whole) is.root;
      domains = subst (λ (w : List ℕ). IsFor p w) (sym whole) is.domains;
      scratch = room;
      best = found;
      tree = subst (λ (w : List ℕ). IsGrown p (IsGoodTip p share fits t.best.cost) (IsSpent p share fits) no_parent (shape_of t.growth) (allows w) 0) (sym whole)
          (subst (λ (x : Shape). IsGrown p (IsGoodTip p share fits t.best.cost) (IsSpent p share fits) no_parent x (allows s.whole) 0) (sym growth) more);
    }

-- the same, where the domains of the first tip and of its halves are known by what they allow
pub split_keeps : (p : Problem) (share : ℕ) (fits : Allowed → RowSum → Type 0) (s t : Search) (f a b : Allowed) (v k d : ℕ) (leaf : Leaf) (left right : Tip) → IsSearch p share fits s → is_open (rank_of (shape_of s.growth)) s.best.cost ≡ true
    → f ≡ first_allowed (shape_of s.growth) (allows s.whole) → IsFork p f v k → a ≡ only f v k → b ≡ without f v k → d ≡ (first_tip (shape_of s.growth)).depth + 1 → leaf ≡ (first_tip (shape_of s.growth)).leaf
    → t.whole ≡ s.whole → shape_of t.growth ≡ grown (shape_of s.growth) (forked v k (Tipped left) (Tipped right)) → t.best.cost ≤ℤ s.best.cost → IsBest p t.best → IsScratchFor p t.scratch
    → IsGoodTip p share fits t.best.cost leaf a d left → IsGoodTip p share fits t.best.cost leaf b d right → IsSearch p share fits t
split_keeps p share fits s t f a b v k d leaf left right is may same fork one other deep had whole growth less found room first second =
    let c = t.best.cost in
    let tip = first_tip (shape_of s.growth) in
    let e = tip.depth + 1 in
    stepped p share fits s t v k left right is may (subst (λ (x : Allowed). IsFork p x v k) same fork) whole growth less found room
    (subst (λ (l : Leaf). IsGoodTip p share fits c l (only (first_allowed (shape_of s.growth) (allows s.whole)) v k) e left) had
    (subst (λ (x : Allowed). IsGoodTip p share fits c leaf (only x v k) e left) same (subst (λ (x : Allowed). IsGoodTip p share fits c leaf x e left) one (subst (λ (n : ℕ). IsGoodTip p share fits c leaf a n left) deep first))))
    (subst (λ (l : Leaf). IsGoodTip p share fits c l (without (first_allowed (shape_of s.growth) (allows s.whole)) v k) e right) had
    (subst (λ (x : Allowed). IsGoodTip p share fits c leaf (without x v k) e right) same (subst (λ (x : Allowed). IsGoodTip p share fits c leaf x e right) other (subst (λ (n : ℕ). IsGoodTip p share fits c leaf b n right) deep second))))

-- ---- the end

met : (p : Problem) (g : Grouping) (c : ℤ) (b : Bound) → c ≡ cost p g → HoldsFor b p g → is_below b c ≡ false → b ≡ Least c
met p g c (Least x) e h below =
    let low : c ≤ℤ x = grind (arith, ints) in
    let same : x ≡ c = omega (arith, ints) in
    ap Least same
met p g c Void e h below = absurd h

searched : (p : Problem) (share : ℕ) (fits : Allowed → RowSum → Type 0) (splits : ℕ) (s : Search) (tree : Tree Leaf) (b : ℤ) → IsSearch p share fits s → IsTreeOf (shape_of s.growth) tree → splits_in (shape_of s.growth) ≤ splits → (rank_of (shape_of s.growth)).bound ≡ Least b → IsSearched p share fits splits s.best.cost b tree
searched p share fits splits s tree b is of few e =
    let worth = worth_tips p share fits s.best.cost no_parent (shape_of s.growth) (allows s.whole) 0 is.tree in
    let count = tree_splits (shape_of s.growth) tree of in
    let deep = tree_shallow p share fits (IsSpent p share fits) s.best.cost no_parent (shape_of s.growth) tree (allows s.whole) 0 of is.tree in
    record {
      proves = record {
        allowed = allows s.whole;
        root = is.root;
        sound = tree_sound p (IsSpent p share fits) no_parent (shape_of s.growth) tree (allows s.whole) 0 of worth;
        bound = tree_bound p (IsSpent p share fits) no_parent (shape_of s.growth) tree (allows s.whole) 0 of worth ∙ ap Some e;
      };
      holds = λ g good. subst (λ (z : Bound). HoldsFor z p g) e (search_holds p share fits s is g good);
      few = omega arith;
      shallow = omega arith;
      kept = tree_kept p share fits s.best.cost s.best.grouping is.best.feasible is.best.costs no_parent (shape_of s.growth) tree (allows s.whole) 0 of is.tree;
    }

not_open : (b c : ℤ) (r : Bound) (closed : Bool) → r ≡ Least b → b <ℤ c → closed ≡ false → is_below r c && not closed ≡ false → ⊥
not_open b c r closed e less shut h =
    let below : is_below r c ≡ true = subst (λ (z : Bound). is_below z c ≡ true) (sym e) (at b c less) in
    clash (sym h ∙ rw (below, shut) refl)
  where
    at : (b c : ℤ) → b <ℤ c → int_lt b c ≡ true
    at b c less = grind (arith, ints)

within : (p : Problem) (share : ℕ) (fits : Allowed → RowSum → Type 0) (splits : ℕ) (s : Search) (tree : Tree Leaf) (b : ℤ) (deep : Bool) → IsSearch p share fits s → IsTreeOf (shape_of s.growth) tree → splits_in (shape_of s.growth) ≤ splits → (rank_of (shape_of s.growth)).bound ≡ Least b → b <ℤ s.best.cost → deep ≡ (rank_of (shape_of s.growth)).is_closed
    → (splits_in (shape_of s.growth) ≡ splits) ⊎ (is_open (rank_of (shape_of s.growth)) s.best.cost ≡ false) → IsWithin p share fits splits s.best.cost b deep tree
unfolding searched
within p share fits splits s tree b deep is of few e less shut end =
    record {
      searched = searched p share fits splits s tree b is of few e;
      below = less;
      spent = λ may. elim end [
        | inl all ↦ tree_splits (shape_of s.growth) tree of ∙ all
        | inr none ↦ absurd (not_open b s.best.cost (rank_of (shape_of s.growth)).bound (rank_of (shape_of s.growth)).is_closed e less (sym shut ∙ may) none)
      ];
      deepest = λ closed.
          tree_deep p share fits (IsSpent p share fits) s.best.cost b less no_parent (shape_of s.growth) tree (allows s.whole) 0 of is.tree
          (subst (λ (z : Bound). IsAtMost (Least b) z) (sym e) (at_most_same (Least b))) (λ _. sym shut ∙ closed);
    }

pub solved : (p : Problem) (share : ℕ) (fits : Allowed → RowSum → Type 0) (splits : ℕ) (s : Search) (tree : Tree Leaf) (kind : Kind) → IsSearch p share fits s → IsTreeOf (shape_of s.growth) tree → splits_in (shape_of s.growth) ≤ splits
    → (splits_in (shape_of s.growth) ≡ splits) ⊎ (is_open (rank_of (shape_of s.growth)) s.best.cost ≡ false) → IsKindBy s.best.grouping s.best.cost (rank_of (shape_of s.growth)) kind → IsKind p share fits splits tree kind
solved p share fits splits s tree (Optimal best c) is of few end by =
    let same = met p s.best.grouping s.best.cost (rank_of (shape_of s.growth)).bound is.best.costs (search_holds p share fits s is s.best.grouping is.best.feasible) by.2 in (
      subst (λ (x : ℤ). IsFound p best x) (sym by.1) (subst (λ (g : Grouping). IsFound p g s.best.cost) (sym by.0) is.best),
      subst (λ (x : ℤ). IsSearched p share fits splits x x tree) (sym by.1) (searched p share fits splits s tree s.best.cost is of few same),
    )
solved p share fits splits s tree (Within best c b deep) is of few end by = (
  subst (λ (x : ℤ). IsFound p best x) (sym by.1) (subst (λ (g : Grouping). IsFound p g s.best.cost) (sym by.0) is.best),
  subst (λ (x : ℤ). IsWithin p share fits splits x b deep tree) (sym by.1) (within p share fits splits s tree b deep is of few by.2 by.3 by.4 end),
)
solved p share fits splits s tree NoGrouping is of few end by = absurd by

-- ---- what was asked

pub asked_for : (old new : ℕ) (tree : Tree Leaf) (kind : Kind) → new ≡ min (old + node_count tree) (2 ^ 64 - 1) → IsAskedFor old new tree kind
asked_for old new tree (Optimal best c) e = e
asked_for old new tree (Within best c b deep) e = e
asked_for old new tree NoGrouping e = tt

pub asked_all : (a b n : ℕ) (s : Shape) (tree : Tree Leaf) → IsTreeOf s tree → b ≡ min (a + 1) (2 ^ 64 - 1) → n ≡ min (b + 2 * splits_in s) (2 ^ 64 - 1) → n ≡ min (a + node_count tree) (2 ^ 64 - 1)
asked_all a b n s tree of first rest =
    let nodes = tree_nodes tree in
    let count = tree_splits s tree of in
    omega arith

-- with enough splits the bound is the cost, or nothing is feasible
pub closed_by : (p : Problem) (share : ℕ) (fits : Allowed → RowSum → Type 0) (splits : ℕ) (tree : Tree Leaf) (kind : Kind) → IsProblem p → HasEnough p splits → IsKind p share fits splits tree kind → IsClosed kind
closed_by p share fits splits tree (Optimal best c) ok enough is = tt
closed_by p share fits splits tree (Within best c b deep) ok enough is = never_within p share fits splits best c b deep tree ok is.0.feasible enough is.1
closed_by p share fits splits tree NoGrouping ok enough is = tt
