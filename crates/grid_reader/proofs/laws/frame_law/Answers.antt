use Rattle.grid_reader.proofs.FrameLemmas.{frame_law}
use Rattle.grid_reader.proofs.laws.frame_law.Goals as goal

pub returns : goal.returns
returns c = frame_law
