use Rattle.std.proofs.Common.{rules}
use Rattle.std.proofs.lemmas.Fn.{always_returns_same}
use Rattle.coverage_check.specs.Active.{is_left_of}
use Rattle.coverage_check.proofs.ActiveLemmas.{left_order}
use Rattle.coverage_check.proofs.strip.sort_along.Goals as goal

pub returns-clause-sorted : goal.returns-clause-sorted
returns-clause-sorted c = c.sort_unstable_by.ensures.sorted (is_left_of c.args.twice) (left_order c.args.twice) (always_returns_same _ _ _ (λ a r f' k. search rules))
