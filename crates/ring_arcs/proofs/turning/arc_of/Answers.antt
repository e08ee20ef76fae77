use Rattle.std.proofs.Common.{sym, ◌∙◌, ap}
use Rattle.ring_arcs.specs.Turning.{is_backward}
use Rattle.ring_arcs.proofs.TurnLemmas.{arc_of-backward, arc_of-forward}
use Rattle.ring_arcs.proofs.turning.arc_of.Goals as goal

pub returns-then-backward : goal.returns-then-backward
returns-then-backward c =
    c.reverse.ensures.items ∙ sym (arc_of-backward c.args.chain.items (λ d. sym c.if-backward.true ∙ (c.is_backward-backward.ensures d ∙ ap (is_backward d) c.deref.ensures.value)))

pub returns-else-backward : goal.returns-else-backward
returns-else-backward c =
    sym (arc_of-forward c.args.chain.items (λ d. sym c.if-backward.false ∙ (c.is_backward-backward.ensures d ∙ ap (is_backward d) c.deref.ensures.value)))
