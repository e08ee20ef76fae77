use Rattle.std.proofs.Common.{◌≡◌, sym, ◌∙◌, ap, ap₂, subst, ℤ, FitsSigned, w64, List, [], ◌∷◌, ◌++◌, map, All, Vec, Global}
use Rattle.std.proofs.lemmas.Int.{to_z-of_z}
use Rattle.std.proofs.lemmas.List.{map_push}
use Rattle.std.proofs.lemmas.List.Elements.{All-push}
use Rattle.plane_edge.specs.declared.point.Point.{Point}
use Rattle.ring_arcs.specs.RingArcs.{arc_at, IsIndex}
use Rattle.agg_base.specs.Lists.{lists_of}
use Rattle.ring_arcs.proofs.numbers.indexes_of_chains.Goals as goal

pub loop-chain-preserved : goal.loop-chain-preserved
loop-chain-preserved c =
    let arcs = lists_of c.args.arcs.now in
    let fits : FitsSigned w64 c.index_of.result = record { sfits = c.index_of.type_inv } in
    let pushed : c.push.new.self.items ≡ c.loop-chain.indexes.items ++ c.index_of.result ∷ [] = simp to_z-of_z at c.in_ok-push.ensures.items in
    record {
      in_range = subst (λ (is : List ℤ). All (IsIndex arcs) is) (sym pushed) (All-push (IsIndex arcs) c.loop-chain.indexes.items c.index_of.result c.loop-chain.invariant.in_range c.index_of.ensures.in_range);
      told =
          ap (λ (is : List ℤ). map (arc_at arcs) is) pushed
          ∙ (map_push (arc_at arcs) c.loop-chain.indexes.items c.index_of.result
          ∙ (ap₂ (λ (xs : List (List Point)) (x : List Point). xs ++ x ∷ []) c.loop-chain.invariant.told c.index_of.ensures.told ∙ sym (map_push (λ (v : Vec Point Global). v.items) c.loop-chain.yielded c.in-Some.chain)));
    }
