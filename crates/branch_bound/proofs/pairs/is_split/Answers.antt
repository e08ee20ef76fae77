use Rattle.std.proofs.Common.{sym, ◌∙◌, arith}
use Rattle.row_laws.proofs.Tests.{clash}
use Rattle.bound_rows.proofs.KindLemmas.{single_classes}
use Rattle.branch_bound.proofs.PairLemmas.{fork_of}
use Rattle.branch_bound.proofs.pairs.is_split.Goals as goal

pub returns : goal.returns
returns c = λ t.
    let few = c.areas.ensures.rules.few_classes in
    let p = c.args.problem.now in
    let sets = c.args.domains.now in
    fork_of p sets c.args.area c.args.class c.requires (omega arith) (sym c.allows.ensures ∙ t)
    (λ single. clash (sym c.if-single.false ∙ c.single.ensures.1 ((single_classes p sets c.args.area few c.requires (omega arith)).1 single)))
