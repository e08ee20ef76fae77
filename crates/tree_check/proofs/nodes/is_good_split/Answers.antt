use Rattle.std.proofs.Common.{arith, sym, ◌∙◌}
use Rattle.tree_check.proofs.RootLemmas.{good_split, split_not_single, denied, deny}
use Rattle.tree_check.proofs.nodes.is_good_split.Goals as goal

pub returns-then-allows : goal.returns-then-allows
returns-then-allows c =
    let p = c.args.problem.now in
    let sets = c.args.domains.now in
    let rules = c.areas.ensures.rules in
    let count = c.areas.ensures.value in
    let within = c.if-area-areas.false in (
      λ t. good_split p sets c.args.area c.args.class rules c.requires (omega arith) (sym c.allows.ensures ∙ c.if-allows.true) (λ single. denied c.single.result t (c.single.ensures.1 single)),
      λ good. deny c.single.result (λ t. split_not_single p sets c.args.area c.args.class rules c.requires good (c.single.ensures.0 t)),
    )
