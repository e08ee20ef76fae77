use Rattle.hopeless_parts.proofs.PlaceLemmas.{ArePlacesBelow}
use Rattle.hopeless_parts.proofs.parts.members.Given as goal

abbrev pub invariant-loop-place : goal.invariant-loop-place
invariant-loop-place l = ArePlacesBelow l.numbers l.number l.place l.places.items
