use Rattle.std.proofs.Common.{◌≡◌, take}
use Rattle.std.specs.List.{AllByRecursion}
use Rattle.json_text.specs.Values.{pairs_of}
use Rattle.topo_reader.proofs.head.have_name.Given as goal

abbrev pub invariant-loop-member : goal.invariant-loop-member
invariant-loop-member l = AllByRecursion (λ pair. pair.0 ≡ l.name) (pairs_of (take l.member-index l.members))
