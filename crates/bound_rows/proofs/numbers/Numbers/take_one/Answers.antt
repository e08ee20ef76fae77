use Rattle.std.proofs.Common.{ap, sym, ◌∙◌, refl, true, false, IsTrue, rules, subst, ℕ, Some}
use Rattle.std.specs.Prelude.{◌-ℤ◌}
use Rattle.std.specs.Int.{w128}
use Rattle.std.proofs.lemmas.Int.{to_z-of_z}
use Rattle.row_laws.specs.Rows.{Choice}
use Rattle.row_laws.specs.Exact.{is_in_128}
use Rattle.bound_rows.specs.Scratch.{Numbers}
use Rattle.bound_rows.specs.Escapes.{after_at, IsTaken}
use Rattle.bound_rows.proofs.EscapeLemmas.{taken_here, taken_fits, taken_wide}
use Rattle.bound_rows.proofs.numbers.Numbers.take_one.Goals as goal

pub returns-then-lower_choice-clause-taken : goal.returns-then-lower_choice-clause-taken
returns-then-lower_choice-clause-taken c = λ f test more out h t.
    let p = c.args.problem.now in
    let u = c.args.area in
    let k = c.args.class in
    let m = c.args.amount in
    let was = after_at f k m test in
    let passed = to_z-of_z w128 m c.ranges.amount in
    let fit = c.if-lower_choice.ensures.fits p was (sym c.classes.ensures.value) c.requires.area t.0 in
    let done : IsTrue true = search rules in
    let lowered = c.if-lower_choice.ensures.lowered done p was (sym c.classes.ensures.value) c.requires.area t.0 in
    let here = taken_here p f k m test u true out (fit ∙ ap (λ x. is_in_128 (was (Choice u k) -ℤ x)) passed) in
    taken_fits p f k m test more u c.args.worst _ out h (sym here) t.1 (rw passed at lowered)

pub returns-else-lower_choice-clause-taken : goal.returns-else-lower_choice-clause-taken
returns-else-lower_choice-clause-taken c = λ f test more out h t.
    let p = c.args.problem.now in
    let u = c.args.area in
    let k = c.args.class in
    let m = c.args.amount in
    let was = after_at f k m test in
    let passed = to_z-of_z w128 m c.ranges.amount in
    let fit = c.if-lower_choice.ensures.fits p was (sym c.classes.ensures.value) c.requires.area t.0 in
    let same = c.if-lower_choice.ensures.none refl in
    let here = taken_here p f k m test u false out (fit ∙ ap (λ x. is_in_128 (was (Choice u k) -ℤ x)) passed) in
    let wide = taken_wide p f k m test more u c.args.worst c.args.self.now c.requires.area out h (sym here) t in
    subst (λ (s : Numbers). IsTaken p f k m more (Some c.lesser_area.result) s) (sym same)
    (subst (λ (x : ℕ). IsTaken p f k m more (Some x) c.args.self.now) (sym c.lesser_area.ensures) wide)
