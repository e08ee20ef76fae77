use Rattle.std.proofs.Common.{sym, ◌∙◌}
use Rattle.region_rings.proofs.SideLemmas.{level_side, rising_side}
use Rattle.region_rings.proofs.sides.is_leftward.Goals as goal

pub returns-then-is_level : goal.returns-then-is_level
returns-then-is_level c =
    level_side c.args.rows.now c.args.edge.now c.inside-is_inside.result c.middle.result c.middle.ensures.value (sym c.is_level.ensures ∙ c.if-is_level.true) c.inside-is_inside.ensures

pub returns-else-is_level : goal.returns-else-is_level
returns-else-is_level c =
    rising_side c.args.rows.now c.args.edge.now c.inside-is_inside.result c.middle.result c.middle.ensures.value (sym c.is_level.ensures ∙ c.if-is_level.false) c.inside-is_inside.ensures
