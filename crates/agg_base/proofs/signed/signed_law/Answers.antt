use Rattle.agg_base.proofs.PlainText.{one_plain_spelling}
use Rattle.agg_base.proofs.signed.signed_law.Goals as goal

pub returns : goal.returns
returns c = one_plain_spelling
