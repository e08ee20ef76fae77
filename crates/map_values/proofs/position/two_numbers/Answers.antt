use Rattle.std.proofs.Common.{arith}
use Rattle.std.proofs.lemmas.List.{length-map}
use Rattle.json_text.specs.Values.{json_of, list_of}
use Rattle.map_values.proofs.NumberLemmas.{too_short}
use Rattle.map_values.proofs.position.two_numbers.Goals as goal

pub returns-in_default-clause-none : goal.returns-in_default-clause-none
returns-in_default-clause-none c = λ first second.
    too_short (list_of c.args.trees.now) first second (let short = c.in_default.len_below in let same = length-map c.args.trees.now json_of in omega arith)
