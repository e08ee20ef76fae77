use Rattle.std.proofs.Common.{sym, ◌∙◌}
use Rattle.generalise_core.proofs.CheckStepLemmas.{drawn_read}
use Rattle.generalise_core.proofs.checking.drawn_for.Goals as goal

pub returns-clause-drawn : goal.returns-clause-drawn
returns-clause-drawn g c =
    drawn_read (g.S.Shelf.state c.args.shelf.now) (g.S.Shelf.state c.read_out.new.shelf) c.args.name.now c.args.status c.in_ok-drawn.drawn (sym c.is_hopeless.ensures ∙ c.if-is_hopeless.false) c.in_ok-drawn.ensures.drawn c.in_ok-drawn.ensures.same
