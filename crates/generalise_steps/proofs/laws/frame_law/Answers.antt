use Rattle.generalise_steps.proofs.FrameLemmas.{frame_law}
use Rattle.generalise_steps.proofs.laws.frame_law.Goals as goal

pub returns : goal.returns
returns c = frame_law
