use Rattle.std.proofs.Common.{sym, subst, List, Contains}
use Rattle.std.proofs.lemmas.List.Filters.{dedup_is}
use Rattle.std.proofs.lemmas.List.Kept.{Contains-dedup, Contains-from_dedup, IsStrictlySortedBy-dedup}
use Rattle.std.proofs.lemmas.List.Sorted.{Contains-permutation, IsPermutation-sym}
use Rattle.coverage_check.specs.Kept.{odds_of}
use Rattle.coverage_check.specs.Uses.{used_by}
use Rattle.coverage_check.specs.declared.usage.Use.{Use}
use Rattle.coverage_check.proofs.UseLemmas.{use_order_total, use_eq, use_ties, use_eq_same, use_eq_itself, equivalence, used_of, of_used, rising_uses}
use Rattle.coverage_check.proofs.usage.uses_of.Goals as goal

pub returns : goal.returns
returns c =
    let odds = odds_of c.args.areas.now in
    let is = dedup_is use_eq _ _ c.dedup.ensures.filtered in
    let moved = c.sort_unstable.ensures.permutation in
    let made = c.in_ok-uses.ensures in
    record {
      rising = rw is (rising_uses _ (IsStrictlySortedBy-dedup use_order_total {E = use_eq} use_ties _ c.sort_unstable.ensures.sorted));
      exact = λ a e. (
        (λ h. used_of odds a e (subst (λ (us : List Use). Contains us (used_by e a)) made (Contains-permutation _ _ _ (IsPermutation-sym _ _ moved) (Contains-from_dedup use_eq _ _ (rw is at h))))),
        (λ h. rw is (Contains-dedup (equivalence use_eq use_eq_itself use_eq_same) use_eq_same _ (used_by e a) (Contains-permutation _ _ (used_by e a) moved (subst (λ (us : List Use). Contains us (used_by e a)) (sym made) (of_used odds a e h))))),
      );
    }
