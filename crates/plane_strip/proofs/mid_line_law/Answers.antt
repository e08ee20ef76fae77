use Rattle.plane_strip.proofs.CoverLemmas.{mid_line}
use Rattle.plane_strip.proofs.mid_line_law.Goals as goal

pub returns : goal.returns
returns c = mid_line
