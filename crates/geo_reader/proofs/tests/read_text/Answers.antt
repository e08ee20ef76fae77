use Rattle.std.proofs.Common.{◌≤◌, length, arith, rules}
use Rattle.std.proofs.lemmas.Grind.{common_steps}
use Rattle.agg_base.specs.declared.limits.TheConstants.{TEXT_BYTES}
use Rattle.json_text.specs.Values.{json_of}
use Rattle.geo_reader.proofs.Within.{wider}
use Rattle.geo_reader.proofs.tests.read_text.Goals as goal

pub read-requires-2 : goal.read-requires-2
read-requires-2 g c =
    let bytes = c.as_bytes.result.now in
    let tree = json_of c.in_ok-tree.tree in
    let few : length c.as_bytes.result.now ≤ TEXT_BYTES = first_of (omega arith, search rules, grind (arith, common_steps)) in
    wider (length bytes) TEXT_BYTES few tree (c.lists_within_text.ensures bytes tree c.in_ok-tree.ensures.found.spelled)
