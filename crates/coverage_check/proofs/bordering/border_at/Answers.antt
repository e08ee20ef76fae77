use Rattle.std.proofs.Common.{◌≡◌, rules, true, false, refl, int_le, FitsSigned, w32}
use Rattle.std.proofs.lemmas.Int.{to_z-of_z}
use Rattle.coverage_check.proofs.BorderLemmas.{not_level, second_same, here_used, lt_from, areas_rise}
use Rattle.coverage_check.proofs.bordering.border_at.Goals as goal
use Rattle.coverage_check.proofs.bordering.border_at.Goals.{then-used-via-then-used, then-used-via-else-used+then-is_second}

pub returns-then-used-clause-none : goal.returns-then-used-clause-none
returns-then-used-clause-none c = λ u h steep.
    let us = c.args.uses.now in
    let d = c.index-uses-at.result in
    elim c.then-used.branch [
      | then-used-via-then-used w ↦
          let low : FitsSigned w32 d.edge.low.y = search rules in
          let high : FitsSigned w32 d.edge.high.y = search rules in
          let level : int_le d.edge.high.y d.edge.low.y ≡ true = simp to_z-of_z at w.if-used.true in
          absurd (not_level us c.args.at u d h c.index-uses-at.is level steep)
      | then-used-via-else-used+then-is_second w ↦ second_same us c.args.at u d h c.index-uses-at.is (w.if-is_second.ensures.0 refl)
    ]

pub invariant_of-result : goal.invariant_of-result
invariant_of-result c =
    let us = c.args.uses.now in
    let d = c.index-uses-at.result in
    let low : FitsSigned w32 d.edge.low.y = search rules in
    let high : FitsSigned w32 d.edge.high.y = search rules in
    let steep : int_le d.edge.high.y d.edge.low.y ≡ false = simp to_z-of_z at c.if-used.false in
    record {
      steep = lt_from d.edge.high.y d.edge.low.y steep;
      areas_rise = areas_rise us c.args.at d.area d.edge c.area_at-second.result c.requires.rising (here_used us c.args.at d c.requires.within c.index-uses-at.is) c.area_at-second.ensures;
    }
