use Rattle.std.proofs.Common.{ap, ◌∙◌, length, rules}
use Rattle.std.specs.Prelude.{FitsSigned}
use Rattle.std.specs.Int.{w128}
use Rattle.std.proofs.lemmas.Int.{to_z-of_z}
use Rattle.row_laws.specs.Exact.{add_up, link_term_at, with_links}
use Rattle.row_laws.specs.declared.bound.Entry.TheVariants.{TotalLink}
use Rattle.bound_rows.proofs.numbers.Numbers.total.Goals as goal

pub returns : goal.returns
returns c = λ f h.
    let n = length c.args.problem.now.links in
    let fits : FitsSigned w128 c.in_ok-areas.areas = search rules in
    c.link_total.ensures f h
    ∙ (ap (λ z. add_up (λ l. TotalLink l) (link_term_at f) z n) (to_z-of_z w128 c.in_ok-areas.areas fits)
    ∙ ap (λ r. with_links f n r) (c.in_ok-areas.ensures f h))
