use Rattle.json_text.specs.Values.{json_of}
use Rattle.map_values.proofs.ClassLemmas.{class_found, class_missed}
use Rattle.map_values.proofs.class.class_of.Goals as goal

pub returns-clause-found : goal.returns-clause-found
returns-clause-found c =
    class_found c.class_text.result (json_of c.args.tree.now) (json_of c.in-Some.properties.now) (json_of c.in-Some-member.value.now) c.args.name.now c.in-Some.ensures c.in-Some-member.ensures c.class_text.ensures.found

pub returns-clause-none : goal.returns-clause-none
returns-clause-none c =
    class_missed c.class_text.result (json_of c.args.tree.now) (json_of c.in-Some.properties.now) (json_of c.in-Some-member.value.now) c.args.name.now c.in-Some.ensures c.in-Some-member.ensures c.class_text.ensures.none
