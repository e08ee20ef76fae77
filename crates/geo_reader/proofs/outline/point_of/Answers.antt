use Rattle.std.proofs.Common.{rules, arith}
use Rattle.std.specs.Int.{w64}
use Rattle.std.proofs.lemmas.Grind.{common_steps}
use Rattle.std.proofs.lemmas.Int.{to_z-of_z}
use Rattle.json_text.specs.Values.{json_of}
use Rattle.map_values.specs.Positions.{BeginsWithNumbers}
use Rattle.geo_reader.proofs.PositionLemmas.{no_place, no_first, no_second, no_point_answer, far_answer}
use Rattle.geo_reader.proofs.outline.point_of.Goals as goal

pub returns-in_err-x-clause-none : goal.returns-in_err-x-clause-none
returns-in_err-x-clause-none c =
    let tree = json_of c.args.position.now in no_point_answer c.from_residual.result tree (no_place tree c.in_err-x.ensures.none)

pub returns-in_err-x-2-clause-none : goal.returns-in_err-x-2-clause-none
returns-in_err-x-2-clause-none c =
    let tree = json_of c.args.position.now in
    let begins : BeginsWithNumbers tree c.in_ok-x.x.now c.in_ok-x.y.now = first_of (assumption (c.in_ok-x.ensures.found), search rules, grind (arith, common_steps)) in
    no_point_answer c.from_residual-in_err-x-2.result tree (no_first tree c.in_ok-x.x.now c.in_ok-x.y.now begins c.in_err-x-2.ensures.none)

pub returns-in_err-y-clause-none : goal.returns-in_err-y-clause-none
returns-in_err-y-clause-none c =
    let tree = json_of c.args.position.now in
    let begins : BeginsWithNumbers tree c.in_ok-x.x.now c.in_ok-x.y.now = first_of (assumption (c.in_ok-x.ensures.found), search rules, grind (arith, common_steps)) in
    no_point_answer c.from_residual-in_err-y.result tree (no_second tree c.in_ok-x.x.now c.in_ok-x.y.now begins c.in_err-y.ensures.none)

pub returns-clause-none : goal.returns-clause-none
returns-clause-none c =
    let tree = json_of c.args.position.now in
    let begins : BeginsWithNumbers tree c.in_ok-x.x.now c.in_ok-x.y.now = first_of (assumption (c.in_ok-x.ensures.found), search rules, grind (arith, common_steps)) in
    far_answer c.of.result tree c.in_ok-x.x.now c.in_ok-x.y.now c.in_ok-x-2.x c.in_ok-y.y begins c.in_ok-x-2.ensures.found c.in_ok-y.ensures.found _ _ (to_z-of_z w64 c.in_ok-x-2.x c.in_ok-x-2.ensures.fits) (to_z-of_z w64 c.in_ok-y.y c.in_ok-y.ensures.fits) c.of.ensures.beyond
