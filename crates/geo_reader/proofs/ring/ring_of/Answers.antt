use Rattle.std.proofs.Common.{◌≡◌, arith, rules}
use Rattle.std.proofs.lemmas.Grind.{common_steps}
use Rattle.json_text.specs.Tree.{array}
use Rattle.json_text.specs.Values.{json_of, list_of}
use Rattle.geo_reader.proofs.ReaderLemmas.{ring_found}
use Rattle.geo_reader.proofs.ring.ring_of.Goals as goal

pub returns-then-are_positions-clause-found : goal.returns-then-are_positions-clause-found
returns-then-are_positions-clause-found c =
    let is : json_of c.args.tree.now ≡ array (list_of c.in_ok-positions.positions.now) = first_of (assumption (c.in_ok-positions.ensures.found), search rules, grind (arith, common_steps)) in
    ring_found (json_of c.args.tree.now) c.in_ok-positions.positions.now is (c.are_positions.ensures.0 c.if-are_positions.true)
