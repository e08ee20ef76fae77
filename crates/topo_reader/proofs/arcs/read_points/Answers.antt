use Rattle.std.proofs.Common.{◌∙◌, ◌+◌, refl, sym, ap, subst, inl, ℤ, pos, List, ◌∷◌, take, drop, arith}
use Rattle.json_text.specs.Tree.{Json}
use Rattle.json_text.specs.Values.{json_of, list_of}
use Rattle.plane_edge.specs.declared.point.Point.{Point}
use Rattle.topo_reader.specs.Arcs.{SpellPoints}
use Rattle.topo_reader.specs.ArcFaults.{HasWholeNumbers, IsFar, HasFar}
use Rattle.topo_reader.specs.Origins.{next_of, across, up}
use Rattle.topo_reader.proofs.PointLemmas.{far_behind, points_more}
use Rattle.topo_reader.proofs.TreeLists.{all_at, listed_at, listed_more, listed_all}
use Rattle.topo_reader.proofs.arcs.read_points.Goals as goal

pub point_of-requires : goal.point_of-requires
point_of-requires c =
    all_at HasWholeNumbers c.args.positions.now c.loop-position.position-index c.position-item.result c.loop-position-test.true c.position-item.is c.requires

pub returns-in_default-clause-fault : goal.returns-in_default-clause-fault
returns-in_default-clause-fault c =
    let i = c.loop-position.position-index in
    let xs = c.args.positions.now in
    let tree = json_of c.position-item.result in
    let ps = c.loop-position.points.items in
    let far : IsFar c.origin_of-from.result.x c.origin_of-from.result.y tree = c.in_default.ensures.none in
    let x_is = c.origin_of-from.ensures.x ∙ ap (λ (qs : List Point). next_of across c.args.relative (pos 0) qs) c.deref.ensures.value in
    let y_is = c.origin_of-from.ensures.y ∙ ap (λ (qs : List Point). next_of up c.args.relative (pos 0) qs) c.deref.ensures.value in
    let here = subst (λ (z : ℤ). IsFar (next_of across c.args.relative (pos 0) ps) z tree) y_is (subst (λ (z : ℤ). IsFar z c.origin_of-from.result.y tree) x_is far) in (
      refl,
      subst (λ (ts : List Json). HasFar c.args.relative (pos 0) (pos 0) ts) (sym (listed_at xs i c.position-item.result c.loop-position-test.true c.position-item.is))
          (far_behind c.args.relative (pos 0) (pos 0) (list_of (take i xs)) ps (tree ∷ list_of (drop (i + 1) xs)) c.loop-position.invariant (inl here)),
    )

pub loop-position-preserved : goal.loop-position-preserved
loop-position-preserved c =
    let i = c.loop-position.position-index in
    let ps = c.loop-position.points.items in
    let x_is = c.origin_of-from.ensures.x ∙ ap (λ (qs : List Point). next_of across c.args.relative (pos 0) qs) c.deref.ensures.value in
    let y_is = c.origin_of-from.ensures.y ∙ ap (λ (qs : List Point). next_of up c.args.relative (pos 0) qs) c.deref.ensures.value in
    points_more c.args.relative (list_of (take i c.args.positions.now)) (list_of (take (i + 1) c.args.positions.now)) ps c.push.new.self.items c.origin_of-from.result.x c.origin_of-from.result.y (json_of c.position-item.result) c.in-Some.point
    c.loop-position.invariant x_is y_is c.in-Some.ensures.found (listed_more c.args.positions.now i c.position-item.result c.loop-position-test.true c.position-item.is) c.in_ok-push.ensures.items

pub returns-clause-found : goal.returns-clause-found
returns-clause-found c =
    subst (λ (ts : List Json). SpellPoints c.args.relative (pos 0) (pos 0) ts c.loop-position.points.items) (listed_all c.args.positions.now c.loop-position.position-index (omega arith)) c.loop-position.invariant
