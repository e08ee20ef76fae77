use Rattle.cert_reader.proofs.WordLemmas.{is_over_is}
use Rattle.cert_reader.proofs.words.Words.is_empty.Goals as goal

pub returns : goal.returns
returns c = is_over_is _ _ _ c.self.view_is
