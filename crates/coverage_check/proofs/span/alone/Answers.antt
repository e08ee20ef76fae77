use Rattle.std.proofs.Common.{refl, FitsSigned}
use Rattle.std.specs.Int.{w32}
use Rattle.std.proofs.lemmas.Int.{to_z-of_z}
use Rattle.coverage_check.proofs.PartnerLemmas.{read_at}
use Rattle.coverage_check.proofs.SpanLemmas.{span_alone}
use Rattle.coverage_check.proofs.span.alone.Goals as goal

pub returns : goal.returns
returns c =
    let es = c.args.edges.now in
    let e = c.index-edges-at.result in
    let r : FitsSigned w32 c.right_of.result = record { sfits = c.right_of.type_inv } in
    let l : FitsSigned w32 c.left_of.result = record { sfits = c.left_of.type_inv } in
    simp to_z-of_z (span_alone es c.args.at e _ c.requires (read_at es c.args.at e c.requires c.index-edges-at.is) refl refl c.right_of.ensures c.left_of.ensures)
