use Rattle.std.proofs.Common.{sym, subst, slice_index}
use Rattle.agg_model.specs.Parts.{AreParts}
use Rattle.hopeless_parts.proofs.parts.part_of.Goals as goal

pub places_of-requires-clause-parts : goal.places_of-requires-clause-parts
places_of-requires-clause-parts c = subst (λ xs. AreParts c.args.problem.now (λ v. slice_index xs v)) (sym c.deref.ensures.value) c.in_ok-parts.ensures.parts
