use Rattle.std.proofs.Common.{rules}
use Rattle.std.proofs.lemmas.Fn.{always_returns_same}
use Rattle.region_rings.specs.Exits.{is_met_before}
use Rattle.region_rings.proofs.ExitLemmas.{exit_order, exits_sorted}
use Rattle.region_rings.proofs.exit.exits_of.Goals as goal

pub returns : goal.returns
returns c =
    let sorted = c.sort_unstable_by.ensures.sorted is_met_before exit_order (always_returns_same _ _ _ (λ a r f' k. search rules)) in
    exits_sorted c.args.edges.now c.args.leftward.now _ _ c.requires (record { count = c.in_ok-exits.ensures.count; each = c.in_ok-exits.ensures.each }) c.sort_unstable_by.ensures.permutation sorted
