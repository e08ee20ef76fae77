use Rattle.std.proofs.Common.{sym, subst}
use Rattle.coverage_check.specs.Kept.{odds_of}
use Rattle.map_drawing.specs.Drawn.{IsDrawnMap}
use Rattle.map_values.specs.Frames.{IsNumberFrame}
use Rattle.map_drawing.proofs.DrawnLemmas.{writable, drawn_map}
use Rattle.map_drawing.proofs.drawing.draw.Goals as goal

pub text-requires : goal.text-requires
text-requires c =
    writable c.args.checked.now c.args.grouping.now c.args.names.now c.in_ok-regions.regions c.frame-frame.result.now c.requires.drawable c.in_ok-regions.ensures
    (subst IsNumberFrame (sym c.frame-frame.ensures.value) c.requires.drawable.frame)

pub returns : goal.returns
returns c =
    subst (λ frame. IsDrawnMap (odds_of c.args.checked.now.areas) c.args.grouping.now c.args.names.now frame c.in_ok-map.map.items) c.frame-frame.ensures.value
    (drawn_map c.args.checked.now c.args.grouping.now c.args.names.now c.in_ok-regions.regions c.frame-frame.result.now c.in_ok-map.map.items c.frame-frame.ensures.rules c.in_ok-regions.ensures c.in_ok-map.ensures.layout c.in_ok-map.ensures.spelled)
