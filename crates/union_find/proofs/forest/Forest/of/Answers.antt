use Rattle.std.proofs.Common.{◌≡◌, ℕ, List, [], length, ap, sym, ◌∙◌, subst, arith}
use Rattle.std.proofs.lemmas.List.FromFn.{length-range_with_len}
use Rattle.union_find.specs.Sets.{AreSets}
use Rattle.union_find.specs.Steps.{LeadsDown, tops}
use Rattle.union_find.proofs.StepLemmas.{alone_down}
use Rattle.union_find.proofs.TopLemmas.{length-tops}
use Rattle.union_find.proofs.SetLemmas.{sets_alone}
use Rattle.union_find.proofs.forest.Forest.of.Goals as goal

pub invariant_of-result : goal.invariant_of-result
invariant_of-result c = record {
  down = subst LeadsDown (sym c.in_ok-singles.ensures) (alone_down c.args.members);
  few = (let long = ap length c.in_ok-singles.ensures ∙ length-range_with_len 0 c.args.members in omega arith);
}

pub returns-clause-members : goal.returns-clause-members
returns-clause-members c =
    subst (λ (xs : List ℕ). length (tops xs) ≡ c.args.members) (sym c.in_ok-singles.ensures) (length-tops _ ∙ length-range_with_len 0 c.args.members)

pub returns-clause-sets : goal.returns-clause-sets
returns-clause-sets c = subst (λ (xs : List ℕ). AreSets [] (tops xs)) (sym c.in_ok-singles.ensures) (sets_alone c.args.members)
