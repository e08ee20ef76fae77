use Rattle.std.proofs.Common.{List, ℕ, ◌++◌, ◌∙◌, ap}
use Rattle.arc_dissolve.specs.Shapes.{Shape}
use Rattle.agg_base.specs.Lists.{nested_of}
use Rattle.json_text.specs.Strings.{escape}
use Rattle.topo_writer.specs.MapText.{commas, polygon_text, geometry_text}
use Rattle.topo_writer.proofs.Pieces.{and_then}
use Rattle.topo_writer.proofs.geometry.push_geometry.Goals as goal

pub returns-clause-text : goal.returns-clause-text
unfolding geometry_text
returns-clause-text c =
    let old = c.args.out.now.items in
    let class = c.as_str.ensures ∙ ap (λ (f : Shape). f.class) c.shape.view_is in
    let polygons = ap nested_of c.deref.ensures.value ∙ ap (λ (f : Shape). f.polygons) c.shape.view_is in
    let a = c.in_ok-extend_from_slice.ensures.items in
    let b = and_then old _ _ _ _ a c.in_ok-push_number.ensures in
    let d = and_then old _ _ _ _ b c.in_ok-extend_from_slice-2.ensures.items in
    let e = and_then old _ _ _ _ d (c.in_ok-push_escaped.ensures.text ∙ ap (λ (t : List ℕ). c.extend_from_slice-2.new.self.items ++ escape t) class) in
    let f = and_then old _ _ _ _ e c.in_ok-extend_from_slice-3.ensures.items in
    let g = and_then old _ _ _ _ f (c.in_ok-push_polygons.ensures ∙ ap (λ ps. c.extend_from_slice-3.new.self.items ++ commas polygon_text ps) polygons) in
    and_then old _ _ _ _ g c.in_ok-extend_from_slice-4.ensures.items
