use Rattle.std.proofs.Common.{◌∙◌}
use Rattle.generalise_steps.proofs.LineLemmas.{text_is, crossing_line, overlap_line}
use Rattle.generalise_steps.proofs.cover_lines.line_of.Goals as goal

pub returns-in_ok-format-in-Crossing-clause-line : goal.returns-in_ok-format-in-Crossing-clause-line
returns-in_ok-format-in-Crossing-clause-line c = rw c.in-Crossing.is
    (text_is _ _ _ _ c.of.ensures (c.as_str.ensures.value ∙ c.in_ok-format-in-Crossing.ensures.ok) (crossing_line c.in-Crossing.e c.in-Crossing.f c.in-Crossing.spot))

pub returns-in_ok-format-in-Overlap-clause-line : goal.returns-in_ok-format-in-Overlap-clause-line
returns-in_ok-format-in-Overlap-clause-line c = rw c.in-Overlap.is
    (text_is _ _ _ _ c.of-in-Overlap.ensures (c.as_str-in-Overlap.ensures.value ∙ c.in_ok-format-in-Overlap.ensures.ok) (overlap_line c.in-Overlap.a c.in-Overlap.b c.in-Overlap.spot))
