use Rattle.std.proofs.Common.{arith, sym, ◌∙◌}
use Rattle.coverage_check.proofs.SharedLemmas.{shared_at, no_three_more, none_shared}
use Rattle.coverage_check.proofs.shared.first_shared.Goals as goal

pub returns-then-is_same-clause-found : goal.returns-then-is_same-clause-found
returns-then-is_same-clause-found c =
    shared_at c.args.uses.now c.requires c.loop-i.i (omega arith) (omega arith) c.index-uses-i.result c.index-uses-i-in-loop-i.result c.index-uses-i-then-is_same.result
    (sym c.is_same.ensures ∙ c.if-is_same.true) c.loop-i.invariant

pub loop-i-preserved : goal.loop-i-preserved
loop-i-preserved c =
    no_three_more c.args.uses.now c.loop-i.i (omega arith) (omega arith) c.index-uses-i.result c.index-uses-i-in-loop-i.result
    (sym c.is_same.ensures ∙ c.if-is_same.false) c.loop-i.invariant

pub returns-clause-none : goal.returns-clause-none
returns-clause-none c = none_shared c.args.uses.now c.loop-i.i c.requires (omega arith) c.loop-i.invariant
