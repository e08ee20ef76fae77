use Rattle.std.proofs.Common.{◌-◌, ◌∙◌, ap, subst, List, length, get_or, Vec, Global}
use Rattle.std.proofs.lemmas.Result.{IfOk-weaker}
use Rattle.plane_edge.specs.declared.point.Point.{Point}
use Rattle.ring_arcs.specs.Breaks.{is_break}
use Rattle.ring_arcs.specs.Chains.{AreCuts, AreChainsOf}
use Rattle.agg_base.specs.Lists.{lists_of}
use Rattle.ring_arcs.proofs.CutLemmas.{chains_are}
use Rattle.ring_arcs.proofs.RoundLemmas.{round_first, round_last}
use Rattle.ring_arcs.proofs.chains.chains_of.Goals as goal

pub parts_of-requires-clause-begins : goal.parts_of-requires-clause-begins
parts_of-requires-clause-begins c = λ d.
    let B = is_break c.args.breaks.now.ways.items c.args.breaks.now.loops.items in
    let is = c.deref.ensures.value ∙ c.in_ok-round.ensures in
    ap (λ (path : List Point). B (get_or path 0 d)) is ∙ ap B (round_first c.args.ring.now c.first_break-at.result d c.first_break-at.ensures.within) ∙ c.first_break-at.ensures.break_there d

pub parts_of-requires-clause-ends : goal.parts_of-requires-clause-ends
parts_of-requires-clause-ends c = λ d.
    let B = is_break c.args.breaks.now.ways.items c.args.breaks.now.loops.items in
    let is = c.deref.ensures.value ∙ c.in_ok-round.ensures in
    ap (λ (path : List Point). B (get_or path (length path - 1) d)) is ∙ ap B (round_last c.args.ring.now c.first_break-at.result d c.first_break-at.ensures.within) ∙ c.first_break-at.ensures.break_there d

pub returns : goal.returns
returns c =
    let ways = c.args.breaks.now.ways.items in
    let loops = c.args.breaks.now.loops.items in
    let ring = c.args.ring.now in
    let at = c.first_break-at.result in
    let is = c.deref.ensures.value ∙ c.in_ok-round.ensures in
    IfOk-weaker c.parts_of.result (λ (v : Vec (Vec Point Global) Global). AreCuts (is_break ways loops) c.deref.result.now (lists_of v.items)) (λ (v : Vec (Vec Point Global) Global). AreChainsOf ways loops ring (lists_of v.items))
    (λ v h. chains_are ways loops ring at (lists_of v.items) c.requires.broken.1 c.requires.ring c.requires.covered c.first_break-at.ensures.within (subst (λ (path : List Point). AreCuts (is_break ways loops) path (lists_of v.items)) is h)) c.parts_of.ensures
