use Rattle.std.proofs.Common.{rules, tests, ◌≡◌, ◌≢◌, ◌++◌, ◌∷◌, [], slice_index, subst, sym}
use Rattle.hopeless_parts.proofs.PlaceLemmas.{ArePlacesBelow, no_places, place_more, place_passed, all_places}
use Rattle.hopeless_parts.proofs.parts.members.Goals as goal
use Rattle.hopeless_parts.proofs.parts.members.Goals.{then-numbers-place+in_ok-push, else-numbers-place}

pub loop-place-init : goal.loop-place-init
loop-place-init c = no_places _ _ _ (search rules)

pub loop-place-preserved : goal.loop-place-preserved
loop-place-preserved c = elim c.if-numbers-place.branch [
  | then-numbers-place+in_ok-push w ↦ (
      let here : slice_index c.args.numbers.now c.loop-place.place ≡ c.args.number = search (rules, tests) in
      let more : c.if-numbers-place.places.items ≡ c.loop-place.places.items ++ c.loop-place.place ∷ [] = search rules in
      subst (ArePlacesBelow _ _ _) (sym more) (place_more _ _ _ _ here c.loop-place.invariant)
      )
  | else-numbers-place w ↦ (
      let other : slice_index c.args.numbers.now c.loop-place.place ≢ c.args.number = search (rules, tests) in
      rw w.places-is (place_passed _ _ _ _ other c.loop-place.invariant)
      )
]

pub returns : goal.returns
returns c = all_places _ _ _ _ (search rules) c.loop-place.invariant
