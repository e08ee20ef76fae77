use Rattle.std.proofs.Common.{refl, sym}
use Rattle.cert_reader.proofs.CutLemmas.{split_at_first, split_without}
use Rattle.cert_reader.proofs.cut.cut_at.Goals as goal

pub returns-in-Some-clause-some : goal.returns-in-Some-clause-some
returns-in-Some-clause-some c = split_at_first c.args.byte c.args.text.now _ _ c.in-Some.at (sym c.in-Some.ensures.place) refl c.behind.ensures

pub returns-in-None-clause-none : goal.returns-in-None-clause-none
returns-in-None-clause-none c = split_without c.args.byte c.args.text.now (sym c.in-None.ensures.place)
