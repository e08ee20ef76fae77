use Rattle.region_rings.proofs.tests.edges_of.Goals as goal

pub returns-clause-rising : goal.returns-clause-rising
returns-clause-rising g c = c.in_ok-edges.ensures.odd.rising

pub returns-clause-even : goal.returns-clause-even
returns-clause-even g c = c.in_ok-edges.ensures.even c.in_ok-steps_of_rings.ensures.even
