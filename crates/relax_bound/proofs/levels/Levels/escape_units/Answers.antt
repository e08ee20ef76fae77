use Rattle.std.proofs.Common.{◌≡◌, ◌-◌, ◌*◌, ℕ, ap, sym, ◌∙◌, arith, subst, rules, length, inl}
use Rattle.std.specs.Prelude.{ℤ, FitsSigned}
use Rattle.std.specs.Int.{w128, int_min}
use Rattle.std.proofs.lemmas.Int.{ints, to_z-of_z}
use mir.Val.{to_z, of_z}
use Rattle.bound_rows.specs.Domains.{allows}
use Rattle.bound_rows.specs.Scratch.{IsLast, way_from, way_to}
use Rattle.relax_bound.specs.declared.tips.Tip.{Tip}
use Rattle.relax_bound.specs.Levels.{numbers_of, tip_at, drop_at, IsMetFrom}
use Rattle.relax_bound.proofs.LeadLemmas.{met_next}
use Rattle.relax_bound.proofs.levels.Levels.escape_units.Goals as goal

pub loop-lead-init : goal.loop-lead-init
loop-lead-init c =
    let p = c.args.problem.now in
    let last : IsLast p c.args.area (2 * length p.links) c.last-lead.result = subst (λ (x : ℕ). IsLast p c.args.area (2 * length p.links) x) (sym c.last-lead.ensures) (c.requires.leads.from_area c.args.area c.requires.area) in
    let tip = c.requires.tips.each c.args.area c.requires.area in
    let low = tip.gap.low in
    let high = tip.gap.high in
    let is = ap (λ (x : Tip). x.gap) c.tip_at-tip.ensures in (
      last.most,
      last.from,
      record {
        low = omega (arith, ints);
        gap = omega (arith, ints);
        drops = λ h a b e. absurd (last.none h a b e);
        met = inl (omega (arith, ints));
      },
    )

last : (c : goal.After-before-lead) → IsLast c.args.problem.now (way_from c.args.problem.now (c.loop-lead.lead - 1)) (c.loop-lead.lead - 1) c.before-lead.result
last c =
    let p = c.args.problem.now in
    let h = c.loop-lead.lead - 1 in
    let most = c.loop-lead.invariant.0 in
    let some = c.loop-lead-test.true in
    subst (λ (x : ℕ). IsLast p (way_from p h) h x) (sym c.before-lead.ensures) (c.requires.leads.from_way h (omega arith))

pub loop-lead-smaller : goal.loop-lead-smaller
loop-lead-smaller c =
    let most = (last c).most in
    let some = c.loop-lead-test.true in
    omega arith

pub loop-lead-preserved : goal.loop-lead-preserved
loop-lead-preserved c =
    let p = c.args.problem.now in
    let ok = allows c.args.domains.now in
    let s = numbers_of c.args.self.now.left in
    let tips = c.args.self.now.tips.items in
    let inv = c.loop-lead.invariant in
    let lead = c.loop-lead.lead in
    let some = c.loop-lead-test.true in
    let from = inv.1 some in
    let before = last c in
    let most = before.most in
    let most' = inv.0 in
    let fd : FitsSigned w128 c.drop_at-drop.result = search rules in
    let fm : FitsSigned w128 c.min-units.result = search rules in
    let drop : c.drop_at-drop.result ≡ drop_at p ok s tips (way_to p (lead - 1)) (tip_at tips c.args.area).class = c.drop_at-drop.ensures.value ∙ (ap (λ u. drop_at p ok s tips u c.tip_at-tip.result.class) c.end_of.ensures.value ∙ ap (λ (x : Tip). drop_at p ok s tips (way_to p (lead - 1)) x.class) c.tip_at-tip.ensures) in
    let met = met_next p ok s tips c.args.area lead c.before-lead.result (to_z w128 c.loop-lead.units-bits) c.drop_at-drop.result inv.2 some inv.0 from before c.drop_at-drop.ensures.low drop in
    let is : to_z w128 (of_z w128 c.min-units.result) ≡ int_min (to_z w128 c.loop-lead.units-bits) c.drop_at-drop.result = to_z-of_z w128 c.min-units.result fm ∙ (c.min-units.ensures.value ∙ ap (int_min (to_z w128 c.loop-lead.units-bits)) (to_z-of_z w128 c.drop_at-drop.result fd)) in
    (omega arith, (λ ne. before.from ne ∙ from), subst (λ (x : ℤ). IsMetFrom p ok s tips c.args.area c.before-lead.result x) (sym is) met)

pub returns-clause-met : goal.returns-clause-met
returns-clause-met c =
    let met = c.loop-lead.invariant.2 in
    let none = c.loop-lead-test.false in
    record {
      gap = met.gap;
      drops = λ h b e. met.drops h (omega arith) b e;
      met = met.met;
    }
