use Rattle.std.proofs.Common.{rules, Some, None, FitsSigned, ap, ◌∙◌}
use Rattle.std.specs.Int.{w128}
use Rattle.std.proofs.lemmas.Int.{to_z-of_z}
use Rattle.cert_reader.proofs.WordLemmas.{read_whole_is}
use Rattle.cert_reader.proofs.words.read_whole.Goals as goal

pub returns-in-Some : goal.returns-in-Some
returns-in-Some c =
    let fits : FitsSigned w128 c.in-Some.number = search rules in
    ap Some (to_z-of_z w128 c.in-Some.number fits) ∙ read_whole_is c.args.word.now (Some c.in-Some.number) c.in-Some.ensures.found c.in-Some.ensures.spelled fits

pub returns-in-None : goal.returns-in-None
returns-in-None c = read_whole_is c.args.word.now None tt c.in-None.ensures.spelled tt
