use Rattle.map_values.proofs.position.numbers_of.Goals as goal

pub returns-clause-none : goal.returns-clause-none
returns-clause-none c = rw c.in_ok-list_of.ensures.found c.two_numbers.ensures.none
