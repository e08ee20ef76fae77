use Rattle.std.proofs.Common.{◌≡◌, ◌<◌, ◌∙◌, ℕ, sym, subst, arith, Option, false}
use Rattle.bound_rows.specs.Domains.{allows}
use Rattle.relax_bound.specs.Levels.{numbers_of, number, IsLowestSoFar}
use Rattle.row_laws.proofs.Tests.{clash}
use Rattle.relax_bound.proofs.left.Left.cheapest.Goals as goal

pub unreachable-requires : goal.unreachable-requires
unreachable-requires c =
    let p = c.args.problem.now in
    let ok = allows c.args.domains.now c.args.area in
    let some = c.requires.domains.filled c.args.area c.requires.area in
    let below = c.requires.domains.below c.args.area some.0 c.requires.area some.1 in
    let none : (j : ℕ) → j < c.loop-class.class → ok j ≡ false = subst (λ (b : Option ℕ). IsLowestSoFar ok (number p (numbers_of c.args.self.now) c.args.area) c.loop-class.class b) c.in-None.is c.loop-class.invariant in
    let end = c.loop-class-test.false in
    let count = c.classes-class-end.ensures.value in
    clash (sym (none some.0 (omega arith)) ∙ some.1)
