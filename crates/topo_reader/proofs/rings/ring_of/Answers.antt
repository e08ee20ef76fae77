use Rattle.std.proofs.Common.{◌∙◌, refl, ap}
use Rattle.json_text.proofs.Cases.{false_true}
use Rattle.json_text.specs.Tree.{array}
use Rattle.json_text.specs.Values.{json_of, list_of}
use Rattle.topo_reader.proofs.FormLemmas.{no_ring}
use Rattle.topo_reader.proofs.rings.ring_of.Goals as goal

pub returns-then-not-are_numbers-clause-none : goal.returns-then-not-are_numbers-clause-none
returns-then-not-are_numbers-clause-none c = λ texts. no_ring (json_of c.args.tree.now) (list_of c.in_ok-numbers.numbers.now) texts c.in_ok-numbers.ensures.found (λ all. false_true (c.if-not-are_numbers.ensures.1 all))

pub returns-clause-found : goal.returns-clause-found
returns-clause-found c = let all = c.if-not-are_numbers.ensures.0 refl in (all.0, c.in_ok-numbers.ensures.found ∙ ap (λ ts. array ts) all.1, all.1)
