use Rattle.std.proofs.Common.{◌≡◌, arith, length, ◌∙◌}
use Rattle.std.proofs.lemmas.List.{length-map}
use Rattle.agg_base.specs.Lists.{lists_of}
use Rattle.arc_dissolve.proofs.ShellLemmas.{list_at, head_added, heads_all, AreHeadsBelow}
use Rattle.arc_dissolve.proofs.heads.heads_of.Goals as goal

pub loop-place-preserved : goal.loop-place-preserved
loop-place-preserved c =
    let old : AreHeadsBelow c.args.shells.now (lists_of c.args.outlines.now) c.loop-place.place c.loop-place.heads.items = record { count = c.loop-place.invariant.count; each = c.loop-place.invariant.each } in
    let at = list_at c.args.outlines.now c.loop-place.place c.index-outlines-place.result c.deref-in-loop-place.result.now c.loop-place-test.true c.index-outlines-place.is c.deref-in-loop-place.ensures.value in
    let new = head_added c.args.shells.now (lists_of c.args.outlines.now) c.loop-place.place c.in_ok-head_of.field-0 c.deref-in-loop-place.result.now c.loop-place.heads.items c.push.new.self.items old at c.in_ok-head_of.ensures c.in_ok-push.ensures.items in
    record { count = new.count; each = new.each }

pub returns : goal.returns
returns c =
    let e : length c.args.outlines.now ≡ c.loop-place.place = omega arith in
    let n = length-map c.args.outlines.now (λ v. v.items) ∙ e in
    heads_all c.args.shells.now (lists_of c.args.outlines.now) c.loop-place.place c.loop-place.heads.items n (record { count = c.loop-place.invariant.count; each = c.loop-place.invariant.each })
