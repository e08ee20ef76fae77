use Rattle.std.proofs.Common.{arith, length}
use Rattle.std.proofs.lemmas.List.{length-map}
use Rattle.agg_model.specs.Problem.{region}
use Rattle.coverage_check.specs.Kept.{odds_of}
use Rattle.region_edges.specs.RegionEdges.{list_at}
use Rattle.agg_base.specs.Lists.{lists_of}
use Rattle.region_edges.proofs.GatherLemmas.{rising_lists, all_gathered, all_counted}
use Rattle.region_edges.proofs.MeetLemmas.{borders_meet}
use Rattle.region_edges.proofs.PointLemmas.{point_sets_hold}
use Rattle.region_edges.proofs.regions.borders.Goals as goal

pub returns-clause-borders : goal.returns-clause-borders
returns-clause-borders c = λ r l.
    let g = c.in_ok-edges.ensures.lists in
    let long = g.one_each in
    let edges = c.in_ok-edges.edges.items in
    let borders = c.in_ok-borders.borders.items in
    (all_gathered c.args.checked.now.areas (region c.args.grouping.now) (length c.args.grouping.now.class_of) r (lists_of edges) (list_at (lists_of borders) r) c.in_ok-edges.ensures.checked.parts g l
    (c.in_ok-borders.ensures.odd r (omega (arith, length-map edges (λ v. v.items))))).0

pub returns-clause-even : goal.returns-clause-even
returns-clause-even c = λ r l.
    let g = c.in_ok-edges.ensures.lists in
    let long = g.one_each in
    let edges = c.in_ok-edges.edges.items in
    let borders = c.in_ok-borders.borders.items in
    let same = c.in_ok-borders.ensures.one_each in
    (all_gathered c.args.checked.now.areas (region c.args.grouping.now) (length c.args.grouping.now.class_of) r (lists_of edges) (list_at (lists_of borders) r) c.in_ok-edges.ensures.checked.parts g (omega (arith, length-map edges (λ v. v.items)))
    (c.in_ok-borders.ensures.odd r (omega arith))).1

pub returns-clause-planar : goal.returns-clause-planar
returns-clause-planar c = λ r l.
    borders_meet (odds_of c.args.checked.now.areas) (region c.args.grouping.now) r (list_at (lists_of c.in_ok-borders.borders.items) r) c.in_ok-edges.ensures.checked.planar (returns-clause-borders c r l)

pub returns-clause-points : goal.returns-clause-points
returns-clause-points c = λ r s l real.
    let areas = c.args.checked.now.areas in
    let checked = c.in_ok-edges.ensures.checked in
    point_sets_hold (odds_of areas) (region c.args.grouping.now) r (list_at (lists_of c.in_ok-borders.borders.items) r) s real (rising_lists areas checked.parts) checked.disjoint (returns-clause-borders c r l)

pub returns-clause-few : goal.returns-clause-few
returns-clause-few c =
    let few = c.in_ok-edges.ensures.checked.few_edges in
    let short = c.in_ok-borders.ensures.short in
    let count = c.in_ok-edges.ensures.lists.count in
    omega (arith, few, short, count, all_counted c.args.checked.now.areas)
