use Rattle.std.proofs.Common.{◌≡◌, ◌+ℤ◌, subst, filter, FitsSigned, w32}
use Rattle.std.specs.Int.{w128}
use Rattle.std.specs.List.Sorted.{IsSortedBy}
use Rattle.std.proofs.lemmas.Int.{to_z-of_z}
use Rattle.coverage_check.specs.Active.{is_up_to, is_left_of, AreTakenUp}
use Rattle.coverage_check.proofs.ActiveLemmas.{entered}
use Rattle.coverage_check.proofs.strip.enter.Goals as goal

pub returns : goal.returns
returns c =
    let fl : FitsSigned w32 c.args.low = c.ranges.low in
    let fh : FitsSigned w32 c.args.high = c.ranges.high in
    let ft : FitsSigned w128 c.twice_middle.result = record { sfits = c.twice_middle.type_inv } in
    let dropped : c.drop_ended.new.active.items ≡ filter (is_up_to c.args.high) c.args.active.now.items = simp to_z-of_z at c.drop_ended.ensures in
    let up : AreTakenUp c.args.borders.now c.args.from c.in_ok-to.to c.args.low c.args.high c.drop_ended.new.active.items c.take_up.new.active.items = simp to_z-of_z at c.in_ok-to.ensures in
    let e : c.twice_middle.result ≡ c.args.low +ℤ c.args.high = simp to_z-of_z at c.twice_middle.ensures.value in
    let sorted : IsSortedBy (is_left_of c.twice_middle.result) c.sort_along.new.active.items = simp to_z-of_z at c.sort_along.ensures.sorted in
    entered c.args.borders.now c.args.from c.in_ok-to.to c.args.low c.args.high c.args.active.now.items c.drop_ended.new.active.items c.take_up.new.active.items c.sort_along.new.active.items
    c.requires.rising c.requires.below dropped up c.sort_along.ensures.permutation (subst (λ y. IsSortedBy (is_left_of y) c.sort_along.new.active.items) e sorted)
