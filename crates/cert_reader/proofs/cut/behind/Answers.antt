use Rattle.std.proofs.lemmas.List.{take_rest}
use Rattle.cert_reader.proofs.cut.behind.Goals as goal

pub returns : goal.returns
returns c = take_rest c.args.text.now c.args.at
