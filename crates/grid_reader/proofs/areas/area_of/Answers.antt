use Rattle.std.proofs.Common.{◌∙◌, ap, map}
use Rattle.grid_reader.specs.Areas.{place_of}
use Rattle.grid_reader.proofs.AreaLemmas.{if_ok_both, sides_from, sides_few}
use Rattle.grid_reader.proofs.areas.area_of.Goals as goal

pub returns-clause-area : goal.returns-clause-area
returns-clause-area c = if_ok_both c.of_rings.result _ _ _ c.of_rings.ensures.class c.of_rings.ensures.steps
    (λ area class steps. record {
      class_is = class ∙ c.in_ok-class.ensures;
      sides = sides_from (λ ring. ring.items) c.deref.result.now c.args.grid.now c.args.cells.now area.steps
          (ap (map (λ ring. map place_of ring.items)) c.deref.ensures.value ∙ c.in_ok-rings.ensures) steps;
    })

pub returns-clause-few : goal.returns-clause-few
returns-clause-few c = if_ok_both c.of_rings.result _ _ _ c.of_rings.ensures.class c.of_rings.ensures.steps
    (λ area class steps. sides_few c.args.grid.now c.args.cells.now area.steps
    (sides_from (λ ring. ring.items) c.deref.result.now c.args.grid.now c.args.cells.now area.steps
    (ap (map (λ ring. map place_of ring.items)) c.deref.ensures.value ∙ c.in_ok-rings.ensures) steps))
