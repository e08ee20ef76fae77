use Rattle.std.proofs.Common.{◌*◌}
use Rattle.relax_bound.specs.Leads.{HasLeads}
use Rattle.relax_bound.proofs.leads.Leads.new.Given as goal

abbrev pub invariant-loop-link : goal.invariant-loop-link
invariant-loop-link l = HasLeads l.problem (2 * l.link) l.leads.lasts.items l.leads.befores.items
