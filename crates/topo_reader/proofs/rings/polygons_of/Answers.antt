use Rattle.std.proofs.Common.{List, refl, sym, ap}
use Rattle.json_text.specs.Values.{json_of, list_of}
use Rattle.json_text.specs.declared.tree.Tree.{Tree}
use Rattle.topo_reader.specs.Indexes.{one}
use Rattle.topo_reader.proofs.rings.polygons_of.Goals as goal

pub returns-then-has_type-clause-found : goal.returns-then-has_type-clause-found
returns-then-has_type-clause-found c =
    one (json_of c.in_ok-arcs.arcs.now) (c.if-has_type.ensures.0 refl) (sym c.in_ok-arcs.ensures) (ap (λ (ts : List Tree). list_of ts) c.from_ref.ensures.value)
