use Rattle.std.proofs.Common.{◌∙◌, ap}
use Rattle.std.specs.Option.{option_map}
use Rattle.cert_reader.proofs.WordLemmas.{set_found, set_unrising, set_miscounted}
use Rattle.cert_reader.proofs.line_reader.read_set.Goals as goal

pub returns-in_default-of : goal.returns-in_default-of
returns-in_default-of c = set_unrising c.args.count c.args.words.now c.in-Some.members.items (rw c.in-Some.is at c.in_ok-members.ensures) c.in_default-of.ensures.none

pub returns-then-is_counted : goal.returns-then-is_counted
returns-then-is_counted c =
    set_found c.args.count c.args.words.now c.in-Some.members.items c.in-Some-of.set c.has_count-is_counted.result (rw c.in-Some.is at c.in_ok-members.ensures) c.in-Some-of.ensures.found
    c.has_count-is_counted.ensures.count c.if-is_counted.true c.has_count-is_counted.ensures.rising

pub returns-else-is_counted : goal.returns-else-is_counted
returns-else-is_counted c =
    set_miscounted c.args.count c.args.words.now c.in-Some.members.items c.in-Some-of.set c.has_count-is_counted.result (rw c.in-Some.is at c.in_ok-members.ensures) c.in-Some-of.ensures.found
    c.has_count-is_counted.ensures.count c.if-is_counted.false
