use Rattle.std.proofs.Common.{◌≡◌, ap, ◌∙◌, arith, rules}
use Rattle.std.specs.Prelude.{FitsSigned}
use Rattle.std.specs.Int.{w128}
use Rattle.std.proofs.lemmas.Int.{ints, clamps}
use mir.Val.{to_z, of_z}
use Rattle.row_laws.specs.Rows.{near_end, far_end}
use Rattle.bound_rows.specs.Domains.{allows}
use Rattle.relax_bound.specs.declared.tips.Tip.{Tip}
use Rattle.relax_bound.specs.Levels.{numbers_of, link_number, tip_at, drop_at, IsLeastOfThree}
use Rattle.relax_bound.proofs.UnitLemmas.{min3_of}
use Rattle.relax_bound.proofs.levels.Levels.border_units.Goals as goal

least : (c : goal.After-min-2) → IsLeastOfThree c.args.problem.now (allows c.args.domains.now) (numbers_of c.args.self.now.left) c.args.self.now.tips.items c.args.link c.args.side (to_z w128 (of_z w128 c.min-2.result))
least c =
    let p = c.args.problem.now in
    let ok = allows c.args.domains.now in
    let s = numbers_of c.args.self.now.left in
    let tips = c.args.self.now.tips.items in
    let near = near_end p c.args.link c.args.side in
    let far = far_end p c.args.link c.args.side in
    let tip = c.requires.tips.each c.args.near c.requires.within.0 in
    let low = tip.gap.low in
    let high = tip.gap.high in
    let t = c.tip_at-tip.ensures ∙ ap (tip_at tips) c.requires.near in
    let old = ap (λ (x : Tip). x.gap) c.tip_at-tip.ensures in
    let fg : FitsSigned w128 c.tip_at-tip.result.gap = omega (arith, ints) in
    let fl : FitsSigned w128 c.link.result = search rules in
    let fd : FitsSigned w128 c.drop_at-drop.result = search rules in
    let fx : FitsSigned w128 c.min.result = search rules in
    let fy : FitsSigned w128 c.min-2.result = search rules in
    let drop : c.drop_at-drop.result ≡ drop_at p ok s tips far (tip_at tips near).class = c.drop_at-drop.ensures.value ∙ (ap (λ u. drop_at p ok s tips u c.tip_at-tip.result.class) c.requires.far ∙ ap (λ (x : Tip). drop_at p ok s tips far x.class) t) in
    record { is = min3_of (tip_at tips near).gap (link_number s c.args.link) (drop_at p ok s tips far (tip_at tips near).class) c.tip_at-tip.result.gap c.link.result c.drop_at-drop.result c.min.result c.min-2.result fg fl fd fx fy (ap (λ (x : Tip). x.gap) t) c.link.ensures drop c.min.ensures.value c.min-2.ensures.value }

pub returns-clause-low : goal.returns-clause-low
returns-clause-low c =
    let tip = c.requires.tips.each c.args.near c.requires.within.0 in
    let low = tip.gap.low in
    let high = tip.gap.high in
    let gap = ap (λ (x : Tip). x.gap) c.tip_at-tip.ensures in
    let link = c.link.ensures in
    let across = c.requires.across in
    let drop = c.drop_at-drop.ensures.low in
    let first = c.min.ensures.value in
    let second = c.min-2.ensures.value in
    let fl : FitsSigned w128 c.link.result = search rules in
    let fd : FitsSigned w128 c.drop_at-drop.result = search rules in
    let fx : FitsSigned w128 c.min.result = search rules in
    let fy : FitsSigned w128 c.min-2.result = search rules in
    omega (arith, ints, clamps)

pub returns-clause-least : goal.returns-clause-least
returns-clause-least c = least c
