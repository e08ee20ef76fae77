use Rattle.class_table.specs.Words.{trim_start}
use Rattle.class_table.proofs.WordLemmas.{rest_at}
use Rattle.class_table.proofs.name.trim_start.Goals as goal

pub returns : goal.returns
unfolding trim_start
returns c = rest_at c.args.text.now c.blanks_end.result _ c.blanks_end.ensures.place
