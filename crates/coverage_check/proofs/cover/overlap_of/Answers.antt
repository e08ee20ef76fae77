use Rattle.std.proofs.Common.{sym, subst, List, ℤ, All, length, ◌-◌}
use Rattle.plane_edge.specs.Coordinate.{IsCoordinate}
use Rattle.coverage_check.specs.declared.border.Border.{Border}
use Rattle.coverage_check.specs.declared.overlap.Overlap.{Overlap}
use Rattle.coverage_check.specs.Active.{AreLaidOut}
use Rattle.coverage_check.specs.Cover.{IsFirstOverlap, IsDisjointCover}
use Rattle.coverage_check.specs.Kept.{odds_of}
use Rattle.coverage_check.specs.Strips.{IsFirstIn, IsNoneBelow}
use Rattle.coverage_check.specs.Walk.{odds_in}
use Rattle.coverage_check.proofs.CheckLemmas.{listed, found_weaker, none_weaker}
use Rattle.coverage_check.proofs.FinalLemmas.{first_overlap_of, disjoint_of}
use Rattle.coverage_check.proofs.LaidLemmas.{laid_out, heights_in_range}
use Rattle.coverage_check.proofs.UseLemmas.{rising_heights}
use Rattle.coverage_check.proofs.cover.overlap_of.Goals as goal

pub first_overlap-requires-clause-heights_in : goal.first_overlap-requires-clause-heights_in
first_overlap-requires-clause-heights_in c = subst (λ (hs : List ℤ). All IsCoordinate hs) (sym c.deref.ensures.value) (heights_in_range c.args.edges.now c.in_ok-heights.heights.items c.in_ok-heights.ensures.same)

pub first_overlap-requires-clause-laid : goal.first_overlap-requires-clause-laid
first_overlap-requires-clause-laid c =
    let us = c.args.uses.now in
    let es = c.args.edges.now in
    let bs = c.in_ok-borders.borders.items in
    let hs = c.in_ok-heights.heights.items in
    let l = listed c.args.areas.now us es bs hs c.requires.parts c.requires.used c.requires.distinct c.in_ok-borders.ensures (rising_heights hs c.in_ok-heights.ensures.rising) c.in_ok-heights.ensures.same c.requires.planar in
    subst (λ (ys : List ℤ). AreLaidOut ys c.deref-2.result.now) (sym c.deref.ensures.value) (subst (λ (cs : List Border). AreLaidOut hs cs) (sym c.deref-2.ensures.value) (laid_out (odds_of c.args.areas.now) us es bs hs l))

pub returns-clause-found : goal.returns-clause-found
returns-clause-found c =
    let us = c.args.uses.now in
    let es = c.args.edges.now in
    let odds = odds_of c.args.areas.now in
    let bs = c.in_ok-borders.borders.items in
    let hs = c.in_ok-heights.heights.items in
    let l = listed c.args.areas.now us es bs hs c.requires.parts c.requires.used c.requires.distinct c.in_ok-borders.ensures (rising_heights hs c.in_ok-heights.ensures.rising) c.in_ok-heights.ensures.same c.requires.planar in
    let cs = c.deref-2.result.now in
    let ys = c.deref.result.now in
    found_weaker (λ (o : Overlap). IsFirstIn (odds_in cs) ys o.a o.b o.spot) (λ (o : Overlap). IsFirstOverlap odds o.a o.b o.spot) c.first_overlap.result
    (λ o h. first_overlap_of odds us es bs hs l o.a o.b o.spot (subst (λ (zs : List Border). IsFirstIn (odds_in zs) hs o.a o.b o.spot) c.deref-2.ensures.value (subst (λ (zs : List ℤ). IsFirstIn (odds_in cs) zs o.a o.b o.spot) c.deref.ensures.value h)))
    c.first_overlap.ensures.found

pub returns-clause-nowhere : goal.returns-clause-nowhere
returns-clause-nowhere c =
    let us = c.args.uses.now in
    let es = c.args.edges.now in
    let odds = odds_of c.args.areas.now in
    let bs = c.in_ok-borders.borders.items in
    let hs = c.in_ok-heights.heights.items in
    let l = listed c.args.areas.now us es bs hs c.requires.parts c.requires.used c.requires.distinct c.in_ok-borders.ensures (rising_heights hs c.in_ok-heights.ensures.rising) c.in_ok-heights.ensures.same c.requires.planar in
    let cs = c.deref-2.result.now in
    let ys = c.deref.result.now in
    none_weaker (IsNoneBelow (odds_in cs) ys (length ys - 1)) (IsDisjointCover odds) c.first_overlap.result
    (λ h. disjoint_of odds us es bs hs l (subst (λ (zs : List Border). IsNoneBelow (odds_in zs) hs (length hs - 1)) c.deref-2.ensures.value (subst (λ (zs : List ℤ). IsNoneBelow (odds_in cs) zs (length zs - 1)) c.deref.ensures.value h)))
    c.first_overlap.ensures.nowhere
