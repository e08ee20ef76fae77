use Rattle.std.proofs.Common.{sym, ◌∙◌, ◌+◌, ap, subst, IsTrue, List, Any, All, Contains, take, Vec, Global}
use Rattle.std.proofs.lemmas.List.{take_all}
use Rattle.plane_edge.specs.declared.point.Point.{Point}
use Rattle.ring_arcs.specs.Breaks.{is_node, IsBroken}
use Rattle.ring_arcs.proofs.LoopLemmas.{broken_more, broken_pushed, broken_by_loop, broken_by_node, all_broken_moved}
use Rattle.ring_arcs.proofs.loops.loops_of.Goals as goal
use Rattle.ring_arcs.proofs.loops.loops_of.Goals.{in-Some+in_ok-push, in_default}

pub loop-ring-preserved : goal.loop-ring-preserved
loop-ring-preserved c =
    let ways = c.args.ways.now in
    let rings = c.args.rings.now in
    let i = c.loop-ring.ring-index in
    let ring = c.ring-item.result in
    let before = c.loop-ring.loops.items in
    let P : List Point → Type 0 = λ loops. All (λ r. IsBroken ways loops r.items) (take (i + 1) rings) in
    elim c.match-least_of_loop.branch [
      | in-Some+in_ok-push w ↦
          let p = w.in-Some.least in
          let inside = subst (λ (r : List Point). Contains r p) c.deref.ensures.value w.in-Some.ensures.inside in
          subst P (sym (ap (λ (v : Vec Point Global). v.items) w.loops-is ∙ w.in_ok-push.ensures.items))
          (broken_more ways before _ rings i ring c.loop-ring-test.true c.ring-item.is (λ r b. broken_pushed ways before r p b) (broken_by_loop ways before ring.items p inside) c.loop-ring.invariant)
      | in_default w ↦
          let node = subst (λ (r : List Point). Any (λ p. IsTrue (is_node ways p)) r) c.deref.ensures.value w.in_default.ensures.node in
          subst P (sym (ap (λ (v : Vec Point Global). v.items) w.loops-is))
          (broken_more ways before before rings i ring c.loop-ring-test.true c.ring-item.is (λ r b. b) (broken_by_node ways before ring.items node) c.loop-ring.invariant)
    ]

pub returns-clause-broken : goal.returns-clause-broken
returns-clause-broken c =
    let ways = c.args.ways.now in
    let before = c.loop-ring.loops.items in
    let all = take_all c.loop-ring.ring-index c.args.rings.now c.loop-ring-test.false in
    all_broken_moved ways before c.sort_unstable.new.self.items c.args.rings.now c.sort_unstable.ensures.permutation
    (subst (All (λ r. IsBroken ways before r.items)) all c.loop-ring.invariant)
