use Rattle.std.proofs.Common.{◌≡◌, sym, ◌∙◌, arith, false, ℤ, subst}
use Rattle.std.specs.Int.{w128}
use Rattle.std.proofs.lemmas.Int.{to_z-of_z}
use Rattle.bound_rows.specs.Scratch.{has_mark}
use Rattle.bound_rows.specs.Escapes.{IsTaken, counted}
use Rattle.bound_rows.proofs.MemberLemmas.{outside, not_counted, counted_more}
use Rattle.bound_rows.proofs.scratch.Scratch.take_neighbour.Goals as goal

pub returns-clause-taken : goal.returns-clause-taken
returns-clause-taken c = λ f t.
    let p = c.args.problem.now in
    let set = c.args.set.now in
    let old = c.args.self.now.marks in
    let new = c.mark.new.self in
    let u = c.args.area in
    let n = c.requires.scratch.marks.count_is in
    let unmarked : has_mark old u ≡ false = sym c.is_marked.ensures ∙ c.if-is_marked.false in
    let out = outside set old u (λ m. c.requires.members u c.requires.area m) unmarked in
    let step = c.take_one.ensures.taken f (counted set old) (counted set new) (not_counted set old u unmarked) (counted_more p set old new u out (λ v hv. c.mark.ensures.mark v (omega (arith, n)))) in
    subst
    (λ (m : ℤ). IsTaken p f c.args.class m (counted set old) c.args.worst c.args.self.now.numbers → IsTaken p f c.args.class m (counted set new) c.take_one.result c.take_one.new.self)
    (to_z-of_z w128 c.args.amount c.ranges.amount)
    step t
