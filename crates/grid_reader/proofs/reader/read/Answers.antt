use Rattle.grid_reader.proofs.OutcomeLemmas.{spelled_read, faulty_fails, handed_reads, handed_fails}
use Rattle.grid_reader.proofs.ReaderLemmas.{grid_spelled, patch_fault}
use Rattle.grid_reader.proofs.reader.read.Goals as goal

pub returns-clause-found : goal.returns-clause-found
returns-clause-found c = grid_spelled c.args.bytes.now c.in_ok-grid.grid c.in_ok-grid.frame c.coverage_of.result c.in_ok-grid.ensures.found c.coverage_of.ensures.areas c.coverage_of.ensures.frame

pub returns-clause-fault : goal.returns-clause-fault
returns-clause-fault c = patch_fault c.args.bytes.now c.in_ok-grid.grid c.in_ok-grid.frame c.coverage_of.result c.in_ok-grid.ensures.found c.coverage_of.ensures.fault

pub returns-clause-spelled : goal.returns-clause-spelled
returns-clause-spelled c = spelled_read c.args.bytes.now c.coverage_of.result (grid_spelled c.args.bytes.now c.in_ok-grid.grid c.in_ok-grid.frame c.coverage_of.result c.in_ok-grid.ensures.found c.coverage_of.ensures.areas c.coverage_of.ensures.frame)
    (patch_fault c.args.bytes.now c.in_ok-grid.grid c.in_ok-grid.frame c.coverage_of.result c.in_ok-grid.ensures.found c.coverage_of.ensures.fault)

pub returns-clause-faulty : goal.returns-clause-faulty
returns-clause-faulty c = faulty_fails c.args.bytes.now c.coverage_of.result (grid_spelled c.args.bytes.now c.in_ok-grid.grid c.in_ok-grid.frame c.coverage_of.result c.in_ok-grid.ensures.found c.coverage_of.ensures.areas c.coverage_of.ensures.frame)
    (patch_fault c.args.bytes.now c.in_ok-grid.grid c.in_ok-grid.frame c.coverage_of.result c.in_ok-grid.ensures.found c.coverage_of.ensures.fault)

pub returns-in_err-grid-clause-spelled : goal.returns-in_err-grid-clause-spelled
returns-in_err-grid-clause-spelled c = handed_reads c.args.bytes.now c.from_residual.result c.in_err-grid.field-0.0 c.from_residual.ensures.1 c.in_err-grid.ensures.fault

pub returns-in_err-grid-clause-faulty : goal.returns-in_err-grid-clause-faulty
returns-in_err-grid-clause-faulty c = handed_fails c.args.bytes.now c.from_residual.result c.in_err-grid.field-0.0 c.from_residual.ensures.1 c.in_err-grid.ensures.fault
