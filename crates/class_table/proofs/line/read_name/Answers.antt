use Rattle.std.proofs.Common.{◌==◌, ◌≤◌, ◌∙◌, length, sym, arith, rules}
use Rattle.std.proofs.lemmas.Bool.Decides.{Decides-eqb, not_from_Decides}
use Rattle.class_table.proofs.NameLemmas.{name_holds, name_no_text}
use Rattle.class_table.proofs.line.read_name.Goals as goal

pub returns-in_default-clause-none : goal.returns-in_default-clause-none
returns-in_default-clause-none c = name_no_text c.args.name.now c.in_default.ensures.cases.0

pub returns-clause-found : goal.returns-clause-found
returns-clause-found c =
    let some : 1 ≤ length c.args.name.now = (let filled = not_from_Decides (length c.args.name.now == 0) (Decides-eqb (length c.args.name.now) 0) (sym c.is_empty.ensures ∙ c.if-is_empty.false) in omega arith) in
    (search rules, name_holds c.args.name.now some c.if-name-gt-MOST_BYTES.false (sym c.is_printed.ensures ∙ c.if-not-is_printed.false) (search rules))
