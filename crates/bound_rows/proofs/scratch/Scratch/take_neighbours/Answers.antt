use Rattle.std.proofs.Common.{◌∙◌, ◌≤◌, length, ℤ, subst}
use Rattle.std.specs.Int.{w128}
use Rattle.std.proofs.lemmas.Int.{to_z-of_z}
use Rattle.row_laws.specs.Rows.{is_neighbour}
use Rattle.bound_rows.specs.Escapes.{IsTaken, counted}
use Rattle.bound_rows.proofs.EscapeLemmas.{taken_same}
use Rattle.bound_rows.proofs.MemberLemmas.{counted_all, seen_next, is_in_index, is_in_all}
use Rattle.bound_rows.proofs.scratch.Scratch.take_neighbours.Goals as goal

pub take_ways-worst-requires-clause-in_set : goal.take_ways-worst-requires-clause-in_set
take_ways-worst-requires-clause-in_set c = is_in_index c.args.set.now c.loop-area.area-index c.loop-area-test.true

pub loop-area-preserved : goal.loop-area-preserved
loop-area-preserved c =
    let inv = c.loop-area.invariant in
    let ways = c.take_ways-worst.ensures in (
      ways.scratch,
      ways.ways ∙ inv.1,
      λ v hv t. ways.kept v hv (inv.2 v hv t),
      ways.sound inv.3,
      seen_next c.args.problem.now c.args.set.now c.loop-area.area-index c.loop-area.self.marks c.take_ways-worst.new.self.marks c.requires.rules c.loop-area-test.true ways.kept ways.seen inv.4,
      λ f h. ways.taken f (inv.5 f h),
    )

pub returns-clause-taken : goal.returns-clause-taken
returns-clause-taken c = λ f h.
    let p = c.args.problem.now in
    let set = c.args.set.now in
    let inv = c.loop-area.invariant in
    let end : length set ≤ c.loop-area.area-index = c.loop-area-test.false in
    taken_same p f c.args.class c.args.amount (counted set c.loop-area.self.marks) (is_neighbour p set) c.loop-area.worst c.loop-area.self.numbers
    (counted_all p set c.loop-area.self.marks inv.2 inv.3 (λ u t. inv.4 u (is_in_all set c.loop-area.area-index u end ∙ t)))
    (subst (λ (m : ℤ). IsTaken p f c.args.class m (counted set c.loop-area.self.marks) c.loop-area.worst c.loop-area.self.numbers) (to_z-of_z w128 c.args.amount c.ranges.amount) (inv.5 f h))
