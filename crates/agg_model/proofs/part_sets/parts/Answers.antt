use Rattle.std.proofs.Common.{List, ℕ, sym, subst, slice_index}
use Rattle.agg_model.specs.Parts.{AreParts}
use Rattle.agg_model.proofs.part_sets.parts.Goals as goal

pub returns-clause-parts : goal.returns-clause-parts
returns-clause-parts c = subst (λ (xs : List ℕ). AreParts c.args.problem.now (λ v. slice_index xs v)) (sym c.least_members.ensures) c.join_links.ensures.parts
