-- What is made of an offer and of the leaf that a parent had.
use Rattle.std.proofs.Common.{◌≡◌, ℕ, ◌≤◌, true, refl, sym, ◌∙◌, subst, arith, inl, inr, Result, Ok}
use Rattle.std.proofs.lemmas.Int.{ints}
use Rattle.agg_base.specs.declared.limits.TheConstants.{DEPTH}
use Rattle.agg_model.specs.Problem.{Problem, areas}
use Rattle.row_laws.specs.Values.{Allowed, RowSum}
use Rattle.row_laws.specs.Exact.{answer}
use Rattle.row_laws.specs.Fixed.{AreSingle}
use Rattle.row_laws.specs.FirstSums.{plain_sum}
use Rattle.row_laws.specs.Leaves.{IsSoundLeaf, leaf_answer}
use Rattle.row_laws.specs.declared.bound.Bound.{Bound}
use Rattle.row_laws.specs.declared.bound.Bound.TheVariants.{Least, Void}
use Rattle.row_laws.specs.declared.bound.Weak.{Weak}
use Rattle.row_laws.specs.declared.leaf.Leaf.{Leaf}
use Rattle.row_laws.specs.declared.leaf.Leaf.TheVariants.{Sum}
use Rattle.bound_rows.specs.Offers.{IsAtMost, IsWorth, IsUsable, is_less}
use Rattle.branch_bound.specs.declared.tips.Tip.{Tip}
use Rattle.branch_bound.specs.Trees.{Fits, IsTaken, IsTipOver}
use Rattle.branch_bound.proofs.RankLemmas.{at_most_same, at_most_along}

ok_same : (r : Result Bound Weak) (a b : Bound) → r ≡ Ok a → r ≡ Ok b → a ≡ b
ok_same r a b h k =
    let both : Ok a ≡ Ok b = sym h ∙ k in
    cc

-- a usable offer
pub own_taken : (p : Problem) (share : ℕ) (f : Allowed) (from : Leaf) (offer : RowSum) (b : Bound) → IsWorth p f share offer b → IsTaken p share f from offer (Sum offer)
own_taken p share f from offer b is =
    record {
      source = inl (refl, (b, is));
      worth = λ x y here value. subst (λ (z : Bound). IsAtMost x z) (ok_same (answer p f offer) x y here.value value) (at_most_same x);
    }

-- the sum without rows, in place of an offer that is not usable
pub plain_taken : (p : Problem) (share : ℕ) (f : Allowed) (from : Leaf) (offer : RowSum) → (¬ IsUsable p f share offer) → IsTaken p share f from offer (Sum plain_sum)
plain_taken p share f from offer none =
    record {
      source = inr (inr refl);
      worth = λ x y here value. absurd (none (x, here));
    }

at_most_less : (x y : Bound) → is_less x y ≡ true → IsAtMost x y
at_most_less (Least x) (Least y) e = grind (arith, ints)
at_most_less (Least x) Void e = tt
at_most_less Void y e = cc

-- the leaf that the parent had, where it is worth more than what was made of the offer
pub parent_taken : (p : Problem) (share : ℕ) (f : Allowed) (s offer : RowSum) (leaf : Leaf) (b c : Bound) → IsTaken p share f (Sum s) offer leaf → leaf_answer leaf p f ≡ Ok b → answer p f s ≡ Ok c → is_less b c ≡ true
    → IsTaken p share f (Sum s) offer (Sum s)
parent_taken p share f s offer leaf b c taken worth value less =
    record {
      source = inr (inl refl);
      worth = λ x y here there.
          let low = taken.worth x b here worth in
          let more = at_most_less b c less in
          subst (λ (z : Bound). IsAtMost x z) (ok_same (answer p f s) c y value there) (at_most_along x b c low more);
    }

-- the tip of a usable offer
pub own_tip : (p : Problem) (share : ℕ) (f : Allowed) (offer : RowSum) (b : Bound) (d : ℕ) → IsWorth p f share offer b → d ≤ DEPTH → (¬ AreSingle p f (areas p)) → (from : Leaf) → IsTipOver p share (λ _ s. s ≡ offer) from f d (record { leaf = Sum offer; bound = b; depth = d })
own_tip p share f offer b d is shallow several from =
    record {
      sound = is.sound;
      worth = is.value;
      depth = refl;
      shallow = shallow;
      single = λ one. absurd (several one);
      offered = λ _. (offer, refl, own_taken p share f from offer b is);
    }

-- the tip of the sum without rows
pub plain_tip : (p : Problem) (share : ℕ) (f : Allowed) (offer : RowSum) (d : ℕ) (t : Tip) → (¬ IsUsable p f share offer) → d ≤ DEPTH → (¬ AreSingle p f (areas p)) → IsSoundLeaf (Sum plain_sum) p f → t.leaf ≡ Sum plain_sum → leaf_answer (Sum plain_sum) p f ≡ Ok t.bound → t.depth ≡ d → (from : Leaf)
    → IsTipOver p share (λ _ s. s ≡ offer) from f d t
plain_tip p share f offer d t none shallow several sound leaf worth deep from =
    record {
      sound = subst (λ (l : Leaf). IsSoundLeaf l p f) (sym leaf) sound;
      worth = subst (λ (l : Leaf). leaf_answer l p f ≡ Ok t.bound) (sym leaf) worth;
      depth = deep;
      shallow = shallow;
      single = λ one. absurd (several one);
      offered = λ _. (offer, refl, subst (λ (l : Leaf). IsTaken p share f from offer l) (sym leaf) (plain_taken p share f from offer none));
    }

-- the tip of the sum that the parent had
pub parent_tip : (p : Problem) (share : ℕ) (f : Allowed) (s : RowSum) (t : Tip) (b : Bound) → IsWorth p f share s b → is_less t.bound b ≡ true → (¬ AreSingle p f (areas p)) → (fits : Fits) (d : ℕ) → IsTipOver p share fits (Sum s) f d t
    → IsTipOver p share fits (Sum s) f d (record { leaf = Sum s; bound = b; depth = t.depth })
parent_tip p share f s t b is less several fits d was =
    record {
      sound = is.sound;
      worth = is.value;
      depth = was.depth;
      shallow = was.shallow;
      single = λ one. absurd (several one);
      offered = λ several.
          let from = was.offered several in
          (from.0, from.1, parent_taken p share f s from.0 t.leaf t.bound b from.2 was.worth is.value less);
    }
