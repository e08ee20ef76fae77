use Rattle.std.proofs.Common.{rules, arith}
use Rattle.cert_text.specs.declared.line.Line.TheVariants.{Region}
use Rattle.cert_text.proofs.TextLemmas.{appends_item}
use Rattle.cert_text.proofs.writer.push_regions.Goals as goal

pub loop-region-preserved : goal.loop-region-preserved
loop-region-preserved c = appends_item Region _ _ _ _ _ _ (omega arith) (search rules) c.loop-region.invariant c.in_ok-push_region.ensures
