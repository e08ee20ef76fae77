use Rattle.std.proofs.Common.{arith, ◌+◌, ◌∙◌, sym, FitsSigned}
use Rattle.std.specs.Int.{w32}
use Rattle.std.proofs.lemmas.Int.{to_z-of_z}
use Rattle.coverage_check.specs.Partners.{AreBeside}
use Rattle.coverage_check.proofs.PartnerLemmas.{is_above, none_higher, none_more, read_at, differ_at, partner_at}
use Rattle.coverage_check.proofs.SpanLemmas.{none_past}
use Rattle.coverage_check.proofs.crossing.first_partner.Goals as goal

pub returns-then-is_beyond-clause-none : goal.returns-then-is_beyond-clause-none
returns-then-is_beyond-clause-none c =
    none_higher c.args.edges.now c.args.at c.loop-place.place c.index-edges-at.result c.index-edges-place.result c.requires.rising (omega arith) c.loop-place.invariant.1
    (read_at c.args.edges.now c.args.at c.index-edges-at.result c.requires.within c.index-edges-at.is) (read_at c.args.edges.now c.loop-place.place c.index-edges-place.result (omega arith) c.index-edges-place.is)
    (is_above c.index-edges-at.result.high.y c.index-edges-place.result.low.y (sym c.is_beyond.ensures ∙ c.if-is_beyond.true))

pub meet_across-requires-clause-differ : goal.meet_across-requires-clause-differ
meet_across-requires-clause-differ c =
    differ_at c.args.edges.now c.args.at c.loop-place.place c.index-edges-at.result c.index-edges-place.result c.requires.rising c.loop-place.invariant.0 (omega arith)
    (read_at c.args.edges.now c.args.at c.index-edges-at.result c.requires.within c.index-edges-at.is) (read_at c.args.edges.now c.loop-place.place c.index-edges-place.result (omega arith) c.index-edges-place.is)

pub returns-in-Some-clause-found : goal.returns-in-Some-clause-found
returns-in-Some-clause-found c =
    partner_at c.args.edges.now c.args.at c.loop-place.place c.index-edges-at.result c.index-edges-place.result c.in-Some.spot c.loop-place.invariant.0 (omega arith)
    (read_at c.args.edges.now c.args.at c.index-edges-at.result c.requires.within c.index-edges-at.is) (read_at c.args.edges.now c.loop-place.place c.index-edges-place.result (omega arith) c.index-edges-place.is)
    c.in-Some.ensures.found c.loop-place.invariant.1

pub loop-place-preserved : goal.loop-place-preserved
loop-place-preserved c =
    let es = c.args.edges.now in
    let e = c.index-edges-at.result in
    let place = c.loop-place.place in
    let left = c.left_of-left.result in
    let right = c.right_of-right.result in
    let l : FitsSigned w32 left = record { sfits = c.left_of-left.type_inv } in
    let r : FitsSigned w32 right = record { sfits = c.right_of-right.type_inv } in
    let p = read_at es c.args.at e c.requires.within c.index-edges-at.is in
    let none = none_more es c.args.at place e c.index-edges-place.result c.loop-place.invariant.1 p
    (read_at es place c.index-edges-place.result (omega arith) c.index-edges-place.is) c.in_default.ensures.none in
    let passed : AreBeside es (place + 1) c.next_across-place.result left right = simp to_z-of_z at c.next_across-place.ensures.passed in (
      omega (arith, c.loop-place.invariant.0, c.next_across-place.ensures.behind),
      none_past es c.args.at place c.next_across-place.result e left right none p c.left_of-left.ensures c.right_of-right.ensures passed,
    )

pub returns-clause-none : goal.returns-clause-none
returns-clause-none c = λ j d a b. c.loop-place.invariant.1 j d a (omega arith)
