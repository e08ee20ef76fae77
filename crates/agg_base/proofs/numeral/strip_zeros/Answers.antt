use Rattle.std.proofs.Common.{◌+◌, drop, length, rules}
use Rattle.std.proofs.lemmas.List.{take_rest}
use Rattle.agg_base.proofs.PointCuts.{when_none, when_cut, when_kept, cut_parts}
use Rattle.agg_base.proofs.numeral.strip_zeros.Goals as goal

pub returns-in_default-clause-front : goal.returns-in_default-clause-front
returns-in_default-clause-front c = λ front zeros none parts. when_none c.args.text.now front zeros (search rules) none parts

pub returns-then-are_zeros-clause-parts : goal.returns-then-are_zeros-clause-parts
returns-then-are_zeros-clause-parts c =
    let are = rw take_rest at c.are_zeros.ensures in
    (length (drop (c.in-Some.at + 1) c.args.text.now), cut_parts c.args.text.now c.in-Some.at (search rules) (are.0 (search rules)))

pub returns-then-are_zeros-clause-front : goal.returns-then-are_zeros-clause-front
returns-then-are_zeros-clause-front c = λ front zeros none parts. when_cut c.args.text.now front zeros c.in-Some.at (search rules) none parts

pub returns-else-are_zeros-clause-front : goal.returns-else-are_zeros-clause-front
returns-else-are_zeros-clause-front c = λ front zeros none parts.
    let are = rw take_rest at c.are_zeros.ensures in
    when_kept c.args.text.now front zeros c.in-Some.at (search rules) none parts (λ all. let t = are.1 all in search rules)
