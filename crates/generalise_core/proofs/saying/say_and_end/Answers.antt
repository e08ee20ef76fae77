use Rattle.std.proofs.Common.{rules, length, ap, ◌∙◌}
use Rattle.std.proofs.Math.Seq.{take-length}
use Rattle.shelf_io.specs.Files.{with_said}
use Rattle.generalise_core.proofs.saying.say_and_end.Goals as goal

pub returns-in-Ok-clause-partly : goal.returns-in-Ok-clause-partly
returns-in-Ok-clause-partly g c = (length c.args.line.now, rw take-length (ap (λ s. s.said) c.in-Ok.ensures.state ∙ ap (with_said _) (search rules)))
