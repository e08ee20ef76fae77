use Rattle.std.proofs.Common.{◌+◌, ◌/◌, refl, ap, subst, inr, Some, rules}
use Rattle.std.specs.Prelude.{FitsSigned}
use Rattle.std.specs.Int.{w128}
use Rattle.std.proofs.lemmas.Int.{to_z-of_z}
use Rattle.agg_base.specs.declared.limits.TheConstants.{MARKS}
use Rattle.branch_bound.specs.declared.outcome.Kind.{Kind}
use Rattle.branch_bound.specs.Enough.{IsClosed}
use Rattle.branch_bound.specs.Outcomes.{IsKind}
use Rattle.search_answer.proofs.AscentLemmas.{Offered}
use Rattle.search_answer.proofs.TreeSpellings.{search_spelling}
use Rattle.search_answer.proofs.SpellingLemmas.{cost_fits, grouping_spelling, none_spelling}
use Rattle.search_answer.proofs.StateLemmas.{optimal_states, within_states, none_states}
use Rattle.search_answer.proofs.answer.answer_within.Goals as goal

pub returns-in-Optimal-clause-states : goal.returns-in-Optimal-clause-states
returns-in-Optimal-clause-states c =
    let p = c.args.problem.now in
    let is = subst (λ (k : Kind). IsKind p (MARKS / (c.args.splits + 1)) (Offered p (MARKS / (c.args.splits + 1))) c.args.splits c.in_ok-outcome.outcome.tree k) c.in-Optimal.is c.in_ok-outcome.ensures.solved in
    let fits = cost_fits p c.in-Optimal.best c.in-Optimal.cost c.areas-areas.ensures.rules is.0.feasible is.0.costs in
    let same = ap Some (to_z-of_z w128 c.in-Optimal.cost fits) in
    optimal_states p (MARKS / (c.args.splits + 1)) c.args.splits c.in-Optimal.best c.in-Optimal.cost _ is.0 is.1 c.areas-areas.ensures.value refl same same refl (inr refl)

pub returns-in-Optimal-clause-spelling : goal.returns-in-Optimal-clause-spelling
returns-in-Optimal-clause-spelling c =
    let p = c.args.problem.now in
    let is = subst (λ (k : Kind). IsKind p (MARKS / (c.args.splits + 1)) (Offered p (MARKS / (c.args.splits + 1))) c.args.splits c.in_ok-outcome.outcome.tree k) c.in-Optimal.is c.in_ok-outcome.ensures.solved in
    let fits = cost_fits p c.in-Optimal.best c.in-Optimal.cost c.areas-areas.ensures.rules is.0.feasible is.0.costs in
    let same = ap Some (to_z-of_z w128 c.in-Optimal.cost fits) in
    grouping_spelling p _ c.in-Optimal.cost c.in-Optimal.cost c.areas-areas.ensures.rules is.0.feasible c.areas-areas.ensures.value same same fits fits refl
    (search_spelling p c.args.splits (Offered p (MARKS / (c.args.splits + 1))) c.in-Optimal.cost c.in-Optimal.cost c.in_ok-outcome.outcome.tree c.areas-areas.ensures.rules c.requires (λ f s h. h.0) is.1)

pub returns-in-Within-clause-states : goal.returns-in-Within-clause-states
returns-in-Within-clause-states c =
    let p = c.args.problem.now in
    let is = subst (λ (k : Kind). IsKind p (MARKS / (c.args.splits + 1)) (Offered p (MARKS / (c.args.splits + 1))) c.args.splits c.in_ok-outcome.outcome.tree k) c.in-Within.is c.in_ok-outcome.ensures.solved in
    let fits = cost_fits p c.in-Within.best c.in-Within.cost c.areas-areas.ensures.rules is.0.feasible is.0.costs in
    let bound_fits : FitsSigned w128 c.in-Within.bound = search rules in
    within_states p (MARKS / (c.args.splits + 1)) c.args.splits c.in-Within.best c.in-Within.cost c.in-Within.bound c.in-Within.deep _ is.0 is.1
    (λ enough. subst (λ (k : Kind). IsClosed k) c.in-Within.is (c.in_ok-outcome.ensures.enough enough)) c.areas-areas.ensures.value refl
    (ap Some (to_z-of_z w128 c.in-Within.cost fits)) (ap Some (to_z-of_z w128 c.in-Within.bound bound_fits)) refl (inr refl)

pub returns-in-Within-clause-spelling : goal.returns-in-Within-clause-spelling
returns-in-Within-clause-spelling c =
    let p = c.args.problem.now in
    let is = subst (λ (k : Kind). IsKind p (MARKS / (c.args.splits + 1)) (Offered p (MARKS / (c.args.splits + 1))) c.args.splits c.in_ok-outcome.outcome.tree k) c.in-Within.is c.in_ok-outcome.ensures.solved in
    let fits = cost_fits p c.in-Within.best c.in-Within.cost c.areas-areas.ensures.rules is.0.feasible is.0.costs in
    let bound_fits : FitsSigned w128 c.in-Within.bound = search rules in
    grouping_spelling p _ c.in-Within.cost c.in-Within.bound c.areas-areas.ensures.rules is.0.feasible c.areas-areas.ensures.value
    (ap Some (to_z-of_z w128 c.in-Within.cost fits)) (ap Some (to_z-of_z w128 c.in-Within.bound bound_fits)) fits bound_fits is.1.below
    (search_spelling p c.args.splits (Offered p (MARKS / (c.args.splits + 1))) c.in-Within.cost c.in-Within.bound c.in_ok-outcome.outcome.tree c.areas-areas.ensures.rules c.requires (λ f s h. h.0) is.1.searched)

pub returns-clause-states : goal.returns-clause-states
returns-clause-states c =
    let p = c.args.problem.now in
    let is = subst (λ (k : Kind). IsKind p (MARKS / (c.args.splits + 1)) (Offered p (MARKS / (c.args.splits + 1))) c.args.splits c.in_ok-outcome.outcome.tree k) c.in-NoGrouping.is c.in_ok-outcome.ensures.solved in
    none_states p c.args.splits _ is c.areas-areas.ensures.value c.no_grouping.ensures refl refl refl

pub returns-clause-spelling : goal.returns-clause-spelling
returns-clause-spelling c =
    let p = c.args.problem.now in
    let is = subst (λ (k : Kind). IsKind p (MARKS / (c.args.splits + 1)) (Offered p (MARKS / (c.args.splits + 1))) c.args.splits c.in_ok-outcome.outcome.tree k) c.in-NoGrouping.is c.in_ok-outcome.ensures.solved in
    none_spelling p _ c.areas-areas.ensures.rules is c.areas-areas.ensures.value refl refl refl c.no_grouping.ensures
