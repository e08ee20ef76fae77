use Rattle.std.proofs.Common.{arith}
use Rattle.union_find.proofs.StepLemmas.{hung_at}
use Rattle.union_find.proofs.steps.join.Goals as goal

pub returns-clause-forest : goal.returns-clause-forest
returns-clause-forest c label_of old =
    let first = c.top_of-a.ensures.forest label_of old in
    let second = c.top_of-b.ensures.forest label_of first.0 in
    hung_at label_of c.top_of-b.new.above c.args.a c.args.b c.top_of-a.result c.top_of-b.result c.max.result c.min.result
    (omega (arith, c.top_of-a.ensures.below, c.top_of-b.ensures.length)) c.top_of-b.ensures.below first.1 second.1 first.2 second.2 c.max.ensures c.min.ensures second.0
