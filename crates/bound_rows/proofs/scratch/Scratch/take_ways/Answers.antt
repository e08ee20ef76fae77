use Rattle.std.proofs.Common.{◌≡◌, ◌≢◌, ◌-◌, ◌*◌, ◌<◌, ℕ, true, ap, sym, ◌∙◌, arith, length, subst, ℤ}
use Rattle.std.specs.Prelude.{◌==◌, ◌||◌}
use Rattle.std.specs.Int.{w128}
use Rattle.std.proofs.lemmas.Int.{to_z-of_z}
use Rattle.agg_model.specs.Problem.{areas}
use Rattle.row_laws.specs.Rows.{Place, is_in}
use Rattle.bound_rows.specs.Scratch.{IsLast, has_mark, way_from, way_to}
use Rattle.bound_rows.specs.declared.ways.Step.{Step}
use Rattle.bound_rows.specs.Escapes.{IsTaken, counted}
use Rattle.bound_rows.proofs.WayLemmas.{way_below}
use Rattle.bound_rows.proofs.MemberLemmas.{seen_more, sound_more, kept_mark, new_mark}
use Rattle.bound_rows.proofs.scratch.Scratch.take_ways.Goals as goal

pub take_neighbour-worst-requires-clause-area : goal.take_neighbour-worst-requires-clause-area
take_neighbour-worst-requires-clause-area c =
    let p = c.args.problem.now in
    let inv = c.loop-lead.invariant in
    let lead = c.loop-lead.lead in
    let some = c.loop-lead-test.true in
    let most = inv.2 in
    let h = lead - 1 in
    let q : h < 2 * length p.links = omega arith in
    let area : c.step-step.result.area ≡ way_to p h = ap (λ (s : Step). s.area) c.step-step.ensures ∙ inv.0.ways.to h q in
    subst (λ (x : ℕ). x < areas p) (sym area) (way_below p h c.requires.rules q)

pub loop-lead-preserved : goal.loop-lead-preserved
loop-lead-preserved c =
    let p = c.args.problem.now in
    let set = c.args.set.now in
    let inv = c.loop-lead.invariant in
    let lead = c.loop-lead.lead in
    let some : lead ≢ 0 = c.loop-lead-test.true in
    let most = inv.2 in
    let h = lead - 1 in
    let q : h < 2 * length p.links = omega arith in
    let area : c.step-step.result.area ≡ way_to p h = ap (λ (s : Step). s.area) c.step-step.ensures ∙ inv.0.ways.to h q in
    let last : IsLast p (way_from p h) h c.step-step.result.before = subst (λ (s : Step). IsLast p (way_from p h) h s.before) (sym c.step-step.ensures) (inv.0.ways.befores h q) in
    let from : way_from p h ≡ c.args.member = inv.3 some in
    let member : is_in set (way_from p h) ≡ true = ap (is_in set) from ∙ c.requires.in_set in
    let ok = c.requires.rules in
    let old = c.loop-lead.self.marks in
    let new = c.take_neighbour-worst.new.self.marks in
    let mark : (v : ℕ) → v < areas p → has_mark new v ≡ (v == way_to p h || has_mark old v) =
    subst (λ (x : ℕ). (v : ℕ) → v < areas p → has_mark new v ≡ (v == x || has_mark old v)) area c.take_neighbour-worst.ensures.mark in
    let kept : (v : ℕ) → v < areas p → has_mark old v ≡ true → has_mark new v ≡ true = kept_mark p old new (way_to p h) mark in
    let before = last.most in (
      c.take_neighbour-worst.ensures.scratch,
      c.take_neighbour-worst.ensures.ways ∙ inv.1,
      omega arith,
      λ ne. last.from ne ∙ from,
      seen_more p old new c.args.member lead c.step-step.result.before some from last inv.4 (λ i r t. kept (way_to p i) (way_below p i ok r) t) (new_mark p old new (way_to p h) (way_below p h ok q) mark),
      λ v hv t. kept v hv (inv.5 v hv t),
      λ s. sound_more p set old new h q member mark (inv.6 s),
      λ f t. c.take_neighbour-worst.ensures.taken f (inv.7 f t),
    )

pub returns-clause-taken : goal.returns-clause-taken
returns-clause-taken c =
    subst
    (λ (m : ℤ). (f : Place → ℤ) → IsTaken c.args.problem.now f c.args.class m (counted c.args.set.now c.args.self.now.marks) c.args.worst c.args.self.now.numbers → IsTaken c.args.problem.now f c.args.class m (counted c.args.set.now c.loop-lead.self.marks) c.loop-lead.worst c.loop-lead.self.numbers)
    (to_z-of_z w128 c.args.amount c.ranges.amount)
    c.loop-lead.invariant.7
