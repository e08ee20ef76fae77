use Rattle.std.proofs.Common.{refl, ◌∙◌}
use Rattle.generalise_core.specs.Orders.{request}
use Rattle.generalise_core.proofs.Decisions.{files_planned, text_fetched}
use Rattle.generalise_core.proofs.decision.decide.Goals as goal

pub returns : goal.returns
returns g c =
    let r = request c.args.order.now in
    let old = g.S.Shelf.state c.args.shelf.now in
    files_planned old _ r c.in-Ok.bytes.items c.in-Ok-fetch.bytes.items c.make_plan.result
    (text_fetched old old r.map _ _ _ refl refl c.in-Ok.ensures.bound c.in-Ok.ensures.bytes)
    (text_fetched old (g.S.Shelf.state c.fetch.new.self) r.table _ _ _ c.in-Ok.ensures.state refl c.in-Ok-fetch.ensures.bound c.in-Ok-fetch.ensures.bytes)
    (c.in-Ok-fetch.ensures.state ∙ c.in-Ok.ensures.state)
    c.make_plan.ensures
