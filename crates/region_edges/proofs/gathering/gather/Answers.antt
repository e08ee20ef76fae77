use Rattle.std.proofs.Common.{◌≡◌, ◌<◌, arith, length}
use Rattle.std.proofs.lemmas.List.{length-map}
use Rattle.agg_model.specs.Problem.{region}
use Rattle.coverage_check.specs.Kept.{odds_of}
use Rattle.agg_base.specs.Lists.{lists_of}
use Rattle.region_edges.proofs.GatherLemmas.{more_gathered}
use Rattle.region_edges.proofs.gathering.gather.Goals as goal

pub loop-area-preserved : goal.loop-area-preserved
loop-area-preserved c =
    let areas = c.args.checked.now.areas in
    let groups = c.args.grouping.now in
    let n = c.loop-area.area in
    let long : length groups.region_of ≡ length areas = c.requires.one_each in
    let low : n < length areas = omega arith in
    more_gathered (odds_of areas) (region groups) (length groups.class_of) n c.region-region.result (lists_of c.loop-area.edges.items) (lists_of c.add_area.new.edges.items) c.odd.result.now
    (omega (arith, length-map areas (λ a. a.odd_edges))) (c.requires.in_range n (omega arith)) c.region-region.ensures c.odd.ensures c.in_ok-add_area.ensures c.loop-area.invariant
