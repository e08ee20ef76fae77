use Rattle.std.proofs.Common.{◌≡◌, ◌-◌, ◌^◌, length, ap, ◌∙◌}
use Rattle.std.specs.Prelude.{replicate}
use Rattle.std.proofs.lemmas.List.{length-replicate}
use Rattle.agg_model.specs.Problem.{areas}
use Rattle.bound_rows.proofs.DomainLemmas.{whole_for, whole_allows}
use Rattle.bound_rows.proofs.domains.Domains.whole.Goals as goal

pub returns-clause-domains : goal.returns-clause-domains
returns-clause-domains c =
    let p = c.args.problem.now in
    let made : c.in_ok-sets.sets.items ≡ replicate (areas p) (2 ^ p.classes - 1) =
    c.in_ok-sets.ensures ∙ (ap (λ n. replicate n c.all_below-set.result) c.areas-count.ensures.value ∙ ap (λ x. replicate (areas p) x) (c.all_below-set.ensures ∙ ap (λ n. 2 ^ n - 1) c.classes.ensures.value)) in
    whole_for p c.in_ok-sets.sets.items c.areas-count.ensures.rules.some_class (ap length made ∙ length-replicate (areas p) (2 ^ p.classes - 1)) made

pub returns-clause-allowed : goal.returns-clause-allowed
returns-clause-allowed c =
    let p = c.args.problem.now in
    let made : c.in_ok-sets.sets.items ≡ replicate (areas p) (2 ^ p.classes - 1) =
    c.in_ok-sets.ensures ∙ (ap (λ n. replicate n c.all_below-set.result) c.areas-count.ensures.value ∙ ap (λ x. replicate (areas p) x) (c.all_below-set.ensures ∙ ap (λ n. 2 ^ n - 1) c.classes.ensures.value)) in
    let for_problem = whole_for p c.in_ok-sets.sets.items c.areas-count.ensures.rules.some_class (ap length made ∙ length-replicate (areas p) (2 ^ p.classes - 1)) made in
    record { all = whole_allows p c.in_ok-sets.sets.items made; only = for_problem.below }
