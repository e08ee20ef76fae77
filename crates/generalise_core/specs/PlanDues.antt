-- What a plan puts out.
use Rattle.std.specs.Prelude.{List, ◌∷◌}
use Rattle.generalise_core.specs.Puts.{Due}
use Rattle.generalise_core.specs.Runs.{map_due}
use Rattle.generalise_core.specs.Texts.{text_of}
use Rattle.generalise_core.specs.declared.plan.Plan.{Plan}
use Rattle.generalise_core.specs.declared.words.Order.{Order}

-- the certificate, and then the map where there is one
abbrev pub due_of : Order → Plan → List Due
due_of order plan = (order.certificate.now, plan.certificate.items) ∷ map_due order.out.now (text_of plan.map)
