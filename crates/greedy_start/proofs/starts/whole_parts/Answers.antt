use Rattle.std.proofs.Common.{◌≡◌, ℕ, ◌<◌, ◌≤◌, List, length, arith, slice_index, subst, sym, Err}
use Rattle.std.specs.Prelude.{Option}
use Rattle.std.proofs.lemmas.Result.{IfOk-weaker}
use Rattle.agg_model.specs.Problem.{Grouping, IsFeasible, areas}
use Rattle.greedy_start.specs.declared.choices.Best.{Best}
use Rattle.greedy_start.specs.declared.starts.StartFault.TheVariants.{Hopeless}
use Rattle.greedy_start.specs.Starts.{IsNumberedByLeast, IsOneRegionEach, IsFirstHopeless}
use Rattle.greedy_start.specs.Tallies.{AreBest, IsStart, IsFirstNone}
use Rattle.greedy_start.proofs.PartLemmas.{part_at_most}
use Rattle.greedy_start.proofs.HopelessLemmas.{hopeless_law}
use Rattle.greedy_start.proofs.RegionLemmas.{IsDone, start_feasible, start_numbered, start_one_each, first_hopeless}
use Rattle.greedy_start.proofs.starts.whole_parts.Goals as goal

pub best_classes-requires-clause-parts : goal.best_classes-requires-clause-parts
best_classes-requires-clause-parts c =
    subst (λ (ps : List ℕ). (v : ℕ) → v < length ps → slice_index ps v < length ps) (sym c.deref.ensures.value) (λ v h.
    let count = c.in_ok-parts.ensures.length in
    let down = part_at_most c.args.problem.now _ c.in_ok-parts.ensures.parts v (omega arith) in
    omega arith)

pub one_region_each-requires-clause-down : goal.one_region_each-requires-clause-down
one_region_each-requires-clause-down c =
    subst (λ (ps : List ℕ). (v : ℕ) → v < length ps → slice_index ps v ≤ v) (sym c.deref-2.ensures.value) (λ v h.
    let count = c.in_ok-parts.ensures.length in
    part_at_most c.args.problem.now _ c.in_ok-parts.ensures.parts v (omega arith))

done : (c : goal.After-drop-parts-2) → IsDone c.args.problem.now c.in_ok-parts.parts.items c.in_ok-best.best.items
done c =
    let p = c.args.problem.now in
    record {
      rules = c.areas.ensures.rules;
      one_each = c.in_ok-parts.ensures.length;
      are_parts = c.in_ok-parts.ensures.parts;
      are_best = subst (λ (ps : List ℕ). AreBest p ps p.classes c.in_ok-best.best.items) c.deref.ensures.value c.in_ok-best.ensures;
    }

started : (c : goal.After-drop-parts-2) (g : Grouping) → IsStart c.deref-2.result.now c.deref-3.result.now (length c.deref-2.result.now) g → IsStart c.in_ok-parts.parts.items c.in_ok-best.best.items (areas c.args.problem.now) g
started c g start =
    plain _ _ _ _ _ g c.deref-2.ensures.value c.deref-3.ensures.value c.in_ok-parts.ensures.length start
  where
    plain : (ps parts : List ℕ) (bs best : List (Option Best)) (n : ℕ) (g : Grouping) → ps ≡ parts → bs ≡ best → length parts ≡ n → IsStart ps bs (length ps) g → IsStart parts best n g
    plain ps parts bs best n g e f count start =
        subst (λ (m : ℕ). IsStart parts best m g) count
        (subst (λ (xs : List ℕ). IsStart xs best (length xs) g) e (subst (λ (xs : List (Option Best)). IsStart ps xs (length ps) g) f start))

pub returns-clause-found : goal.returns-clause-found
returns-clause-found c =
    let p = c.args.problem.now in
    IfOk-weaker c.one_region_each.result _ (λ g. IsFeasible p g × IsNumberedByLeast p g) (λ g start. (
      start_feasible p _ _ g (done c) (started c g start),
      start_numbered p _ _ g (done c) (started c g start),
    )) c.one_region_each.ensures.found

pub returns-clause-chosen : goal.returns-clause-chosen
returns-clause-chosen c =
    let p = c.args.problem.now in
    IfOk-weaker c.one_region_each.result _ (λ g. IsOneRegionEach p g) (λ g start. start_one_each p _ _ g (done c) (started c g start)) c.one_region_each.ensures.found

first : (c : goal.After-drop-parts-2) (v : ℕ) → c.one_region_each.result ≡ Err (Hopeless v) → IsFirstHopeless c.args.problem.now v
first c v e =
    let none = c.one_region_each.ensures.hopeless v e in
    first_hopeless c.args.problem.now _ _ (done c) v
    (subst (λ (bs : List (Option Best)). IsFirstNone c.in_ok-parts.parts.items bs v) c.deref-3.ensures.value
    (subst (λ (ps : List ℕ). IsFirstNone ps c.deref-3.result.now v) c.deref-2.ensures.value none))

pub returns-clause-hopeless : goal.returns-clause-hopeless
returns-clause-hopeless c v e = first c v e

pub returns-clause-none : goal.returns-clause-none
returns-clause-none c v e g feasible =
    let at = first c v e in
    hopeless_law c.args.problem.now at.part c.areas.ensures.rules at.are_parts v at.within at.hopeless g feasible
