use Rattle.std.proofs.Common.{◌&&◌, sym, subst, Bool, List}
use Rattle.std.specs.Ordering.{int_eq}
use Rattle.std.proofs.lemmas.List.Filters.{dedup_is}
use Rattle.plane_edge.specs.declared.point.Point.{Point}
use Rattle.topo_reader.specs.Thinned.{IsThinned}
use Rattle.topo_reader.proofs.ThinLemmas.{thin_dedup, is_same}
use Rattle.topo_reader.proofs.arcs.without_repeats.Goals as goal

abbrev same : Point → Point → Bool
same q p = int_eq q.y p.y && int_eq q.x p.x

pub returns : goal.returns
returns c =
    subst (λ (ps : List Point). IsThinned c.args.arc.items ps) (sym (dedup_is same c.args.arc.items c.dedup.new.self.items c.dedup.ensures.filtered)) (thin_dedup same is_same c.args.arc.items)
