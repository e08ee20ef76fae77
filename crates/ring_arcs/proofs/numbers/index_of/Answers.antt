use Rattle.std.proofs.Common.{◌≡◌, sym, ◌∙◌, ap, subst, ℤ, FitsSigned, w64}
use Rattle.std.proofs.lemmas.Int.{to_z-of_z}
use Rattle.ring_arcs.specs.RingArcs.{arc_at}
use Rattle.agg_base.specs.Lists.{lists_of}
use Rattle.ring_arcs.specs.Turning.{is_backward}
use Rattle.ring_arcs.proofs.NumberLemmas.{told_forward, told_backward}
use Rattle.ring_arcs.proofs.numbers.index_of.Goals as goal

pub returns-then-backward-clause-told : goal.returns-then-backward-clause-told
returns-then-backward-clause-told c =
    let arcs = lists_of c.args.arcs.now in
    let chain = c.args.chain.items in
    let fits : FitsSigned w64 c.index_backwards.result = record { sfits = c.index_backwards.type_inv } in
    simp to_z-of_z (subst (λ (i : ℤ). arc_at arcs i ≡ chain) (sym c.index_backwards.ensures)
    (told_backward arcs chain c.number_in-number.result c.number_in-number.ensures.found (λ d. sym c.if-backward.true ∙ (c.is_backward-backward.ensures d ∙ ap (is_backward d) c.deref.ensures.value))))

pub returns-else-backward-clause-told : goal.returns-else-backward-clause-told
returns-else-backward-clause-told c =
    let arcs = lists_of c.args.arcs.now in
    let chain = c.args.chain.items in
    let fits : FitsSigned w64 c.index_forwards.result = record { sfits = c.index_forwards.type_inv } in
    simp to_z-of_z (subst (λ (i : ℤ). arc_at arcs i ≡ chain) (sym c.index_forwards.ensures)
    (told_forward arcs chain c.number_in-number.result c.number_in-number.ensures.found (λ d. sym c.if-backward.false ∙ (c.is_backward-backward.ensures d ∙ ap (is_backward d) c.deref.ensures.value))))
