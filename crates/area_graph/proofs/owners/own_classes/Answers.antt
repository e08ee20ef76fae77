use Rattle.std.proofs.Common.{◌≡◌, ◌∙◌, subst, get_or, arith, List, ℕ}
use Rattle.area_graph.specs.Problems.{IsUnknown, IsLeastUnknown}
use Rattle.area_graph.proofs.owners.own_classes.Goals as goal

pub returns-in-None-clause-unknown : goal.returns-in-None-clause-unknown
returns-in-None-clause-unknown c = λ v e.
    let same : c.loop-area.area ≡ v = cc in
    subst (λ (n : ℕ). IsLeastUnknown c.args.checked.now.areas c.args.table.now n) same (record {
      within = omega arith;
      unknown = subst (λ (name : List ℕ). IsUnknown c.args.table.now name) (c.as_str.ensures ∙ c.class.ensures) c.in-None.ensures.none;
      least = λ u l. (get_or c.loop-area.own.items u 0, c.loop-area.invariant.1 u l);
    })
