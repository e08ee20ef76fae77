use Rattle.geo_reader.proofs.PositionLemmas.{beyond_never}
use Rattle.geo_reader.proofs.outline.small_value.Goals as goal

pub returns-in-Beyond-clause-none : goal.returns-in-Beyond-clause-none
returns-in-Beyond-clause-none c = let m = c.in-Beyond.ensures in beyond_never c.args.number.now m.0 m.1 m.2
