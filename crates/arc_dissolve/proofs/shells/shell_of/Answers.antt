use Rattle.std.proofs.Common.{All, rules, subst}
use Rattle.edge_rows.specs.Beside.{AreCrossedAlike}
use Rattle.arc_dissolve.specs.Extents.{HasEdge}
use Rattle.arc_dissolve.proofs.ExtentLemmas.{extent_of_ring}
use Rattle.arc_dissolve.proofs.shells.shell_of.Goals as goal

pub invariant_of-result : goal.invariant_of-result
invariant_of-result c =
    record {
      is_extent = extent_of_ring c.args.outline.now c.in_ok-rows.rows c.in_ok-steps.steps.items c.of_edges-extent.result c.in_ok-steps.ensures
          (subst (λ es. AreCrossedAlike c.in_ok-rows.rows es) c.deref.ensures.value c.in_ok-rows.ensures)
          (subst (λ es. All (HasEdge c.of_edges-extent.result) es) c.deref-2.ensures.value c.of_edges-extent.ensures);
    }

pub returns-clause-tells : goal.returns-clause-tells
returns-clause-tells c = record {
  first = search rules;
  sum = search rules;
  rows = record {
    edges = c.in_ok-steps.steps.items;
    steps = c.in_ok-steps.ensures;
    alike = subst (λ es. AreCrossedAlike c.in_ok-rows.rows es) c.deref.ensures.value c.in_ok-rows.ensures;
  };
}
