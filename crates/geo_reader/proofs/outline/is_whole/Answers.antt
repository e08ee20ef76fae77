use Rattle.geo_reader.proofs.outline.is_whole.Goals as goal

pub returns-in-Not : goal.returns-in-Not
returns-in-Not c = (λ e. cc, λ is. absurd (c.in-Not.ensures is.0 is.1))
