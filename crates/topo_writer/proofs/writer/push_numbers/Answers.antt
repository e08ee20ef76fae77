use Rattle.topo_writer.specs.MapText.{transform_text}
use Rattle.topo_writer.proofs.Pieces.{and_then}
use Rattle.topo_writer.proofs.writer.push_numbers.Goals as goal

pub returns : goal.returns
unfolding transform_text
returns c =
    let old = c.args.out.now.items in
    let a = and_then old _ _ _ _ c.in_ok-extend_from_slice.ensures.items c.in_ok-push_pair.ensures in
    let b = and_then old _ _ _ _ a c.in_ok-extend_from_slice-2.ensures.items in
    let d = and_then old _ _ _ _ b c.in_ok-push_pair-2.ensures in
    and_then old _ _ _ _ d c.in_ok-extend_from_slice-3.ensures.items
