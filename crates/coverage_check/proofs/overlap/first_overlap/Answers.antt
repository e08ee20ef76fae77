use Rattle.std.proofs.Common.{rules, subst, ℕ, ◌+◌, ◌-◌, ◌≤◌, ◌<◌, FitsSigned, w32, List, length}
use Rattle.std.proofs.lemmas.Int.{to_z-of_z}
use Rattle.coverage_check.specs.Strips.{height_at, mid_of}
use Rattle.coverage_check.specs.Walk.{is_inside_after, IsAlone, AreTwoLeast}
use Rattle.coverage_check.specs.declared.border.Border.{Border}
use Rattle.plane_edge.specs.Plane.{Same}
use Rattle.coverage_check.specs.Active.{IsAcross}
use Rattle.coverage_check.proofs.OverlapLemmas.{heights_up, past_more, past_found}
use Rattle.coverage_check.proofs.overlap.first_overlap.Goals as goal

pub enter-requires-clause-rising : goal.enter-requires-clause-rising
enter-requires-clause-rising c =
    let hs = c.args.heights.now in
    let at = c.loop-at.at in
    let fl : FitsSigned w32 (height_at hs (at - 1)) = search rules in
    let fh : FitsSigned w32 (height_at hs at) = search rules in
    simp to_z-of_z (heights_up hs at c.requires.laid.heights_rise c.loop-at.invariant.some c.loop-at-test.true)

pub returns-in-Some-clause-found : goal.returns-in-Some-clause-found
returns-in-Some-clause-found c =
    let hs = c.args.heights.now in
    let at = c.loop-at.at in
    let fl : FitsSigned w32 (height_at hs (at - 1)) = search rules in
    let fh : FitsSigned w32 (height_at hs at) = search rules in
    let bs = c.args.borders.now in
    let active = c.enter.new.active.items in
    let p = c.in-Some.place in
    let spot = c.middle_spot-spot.result in
    let seen = c.deref.ensures.value in
    let across : IsAcross bs c.in_ok-next.next (height_at hs (at - 1)) (height_at hs at) active = simp to_z-of_z at c.in_ok-next.ensures in
    let same : Same (mid_of (height_at hs (at - 1)) (height_at hs at) c.index.result.now.edge) spot = simp to_z-of_z at c.middle_spot-spot.ensures.same in
    let inside = subst (λ (xs : List Border). p.at < length xs) seen c.in-Some.ensures.found in
    let pair = subst (λ (xs : List Border). AreTwoLeast (is_inside_after xs (p.at + 1)) p.a p.b) seen c.in-Some.ensures.pair in
    let alone = subst (λ (xs : List Border). (n : ℕ) → n ≤ p.at → IsAlone xs n) seen c.in-Some.ensures.before in
    past_found hs bs at c.in_ok-next.next c.loop-at.next c.loop-at.active.items active p.at p.a p.b c.index.result.now spot c.requires.laid c.loop-at.invariant c.loop-at-test.true across
    inside alone pair c.middle_spot-spot.ensures.real c.middle_spot-spot.ensures.is_lowest (subst (λ (b : Border). Same (mid_of (height_at hs (at - 1)) (height_at hs at) b.edge) spot) c.index.ensures same)

pub loop-at-preserved : goal.loop-at-preserved
loop-at-preserved c =
    let hs = c.args.heights.now in
    let bs = c.args.borders.now in
    let at = c.loop-at.at in
    let active = c.enter.new.active.items in
    let fl : FitsSigned w32 (height_at hs (at - 1)) = search rules in
    let fh : FitsSigned w32 (height_at hs at) = search rules in
    let across : IsAcross bs c.in_ok-next.next (height_at hs (at - 1)) (height_at hs at) active = simp to_z-of_z at c.in_ok-next.ensures in
    let alone = subst (λ (xs : List Border). (n : ℕ) → n ≤ length xs → IsAlone xs n) c.deref.ensures.value c.in_default.ensures.nowhere in
    past_more hs bs at c.in_ok-next.next c.loop-at.next c.loop-at.active.items active c.requires.laid c.loop-at.invariant c.loop-at-test.true across alone
