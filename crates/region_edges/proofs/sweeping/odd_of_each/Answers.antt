use Rattle.std.proofs.Common.{sym, ◌∙◌, ap, subst, List, [], ◌∷◌, ◌++◌, append_assoc, Vec, Global}
use Rattle.std.proofs.lemmas.List.{map_push}
use Rattle.plane_edge.specs.declared.edge.Edge.{Edge}
use Rattle.agg_base.specs.Lists.{lists_of}
use Rattle.region_edges.proofs.SweepLemmas.{AreOddOfEach, one_swept}
use Rattle.region_edges.proofs.sweeping.odd_of_each.Goals as goal

pub loop-list-preserved : goal.loop-list-preserved
loop-list-preserved c =
    let done : List (Vec Edge Global) = c.loop-list.yielded in
    let list : Vec Edge Global = c.in-Some.list in
    let odd : Vec Edge Global = c.in_ok-odd_of.field-0 in
    let odds : List (Vec Edge Global) = c.loop-list.odds.items in
    let left : List (Vec Edge Global) = c.next.new.self.rest.items in
    let more = one_swept (lists_of done) (lists_of odds) list.items odd.items c.in_ok-odd_of.ensures.odd c.in_ok-odd_of.ensures.short c.loop-list.invariant.swept in
    record {
      rest = append_assoc done (list ∷ []) left ∙ ap (λ (xs : List (Vec Edge Global)). done ++ xs) (sym c.in-Some.ensures.steps.0) ∙ c.loop-list.invariant.rest;
      swept =
          subst (λ (xs : List (List Edge)). AreOddOfEach xs (lists_of c.push.new.self.items)) (sym (map_push (λ v. v.items) done list))
          (subst (λ (xs : List (List Edge)). AreOddOfEach (lists_of done ++ list.items ∷ []) xs) (sym (ap lists_of c.in_ok-push.ensures.items ∙ map_push (λ v. v.items) odds odd)) more);
    }
