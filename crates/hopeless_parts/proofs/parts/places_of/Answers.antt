use Rattle.std.proofs.lemmas.Result.{IfOk-weaker}
use Rattle.hopeless_parts.proofs.PlaceLemmas.{part_places}
use Rattle.hopeless_parts.proofs.parts.places_of.Goals as goal

pub returns : goal.returns
returns c =
    IfOk-weaker c.members.result _ _
    (λ places are. part_places c.args.problem.now c.args.area c.args.parts.now places.items c.requires.first c.requires.long c.requires.parts are) c.members.ensures
