use Rattle.std.proofs.Common.{List, ℕ, ◌++◌, ◌∙◌, ap, subst, All, ◌<◌, ◌^◌, length, arith}
use Rattle.std.proofs.lemmas.List.{length-map}
use Rattle.std.specs.Str.{IsUtf8}
use Rattle.arc_dissolve.specs.Shapes.{Shape, Regions}
use Rattle.agg_base.specs.Lists.{lists_of}
use Rattle.topo_reader.specs.Arcs.{is_relative}
use Rattle.topo_writer.specs.MapText.{commas, arc_text, geometries_text, map_text}
use Rattle.topo_writer.proofs.Pieces.{and_then}
use Rattle.topo_writer.proofs.writer.bytes_of.Goals as goal

pub returns-clause-layout : goal.returns-clause-layout
unfolding map_text
returns-clause-layout c =
    let old = c.new-out.result.items in
    let shapes = c.deref.ensures.value ∙ ap (λ (d : Regions). d.shapes) c.regions.view_is in
    let arcs = ap lists_of c.deref-2.ensures.value ∙ ap (λ (d : Regions). d.arcs) c.regions.view_is in
    let a = c.in_ok-extend_from_slice.ensures.items in
    let b = and_then old _ _ _ _ a c.in_ok-push_transform.ensures in
    let d = and_then old _ _ _ _ b c.in_ok-extend_from_slice-2.ensures.items in
    let e = and_then old _ _ _ _ d (c.in_ok-push_geometries.ensures.text ∙ ap (λ (fs : List Shape). c.extend_from_slice-2.new.self.items ++ geometries_text fs) shapes) in
    let f = and_then old _ _ _ _ e c.in_ok-extend_from_slice-3.ensures.items in
    let g = and_then old _ _ _ _ f (c.in_ok-push_arcs.ensures ∙ ap (λ r. c.extend_from_slice-3.new.self.items ++ commas (arc_text r) (lists_of c.deref-2.result.now)) c.is_relative.ensures ∙ ap (λ arcs. c.extend_from_slice-3.new.self.items ++ commas (arc_text (is_relative c.args.frame.now)) arcs) arcs) in
    let h = and_then old _ _ _ _ g c.in_ok-extend_from_slice-4.ensures.items in
    h ∙ ap (λ (t : List ℕ). t ++ map_text c.args.regions.now c.args.frame.now) c.new-out.ensures.items

pub returns-clause-utf8 : goal.returns-clause-utf8
returns-clause-utf8 c =
    let shapes = c.deref.ensures.value ∙ ap (λ (d : Regions). d.shapes) c.regions.view_is in
    subst (λ (fs : List Shape). All (λ (shape : Shape). IsUtf8 shape.class) fs) shapes c.in_ok-push_geometries.ensures.utf8

pub returns-clause-few : goal.returns-clause-few
returns-clause-few c =
    let arcs = c.regions.inside.arcs in
    let few : length arcs.items < 2 ^ 64 = omega (arith, arcs.ok.0, arcs.small) in
    subst (λ (d : Regions). length d.arcs < 2 ^ 64) c.regions.view_is (omega (arith, length-map arcs.items (λ v. v.items)))
