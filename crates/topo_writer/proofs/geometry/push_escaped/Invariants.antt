use Rattle.std.proofs.Common.{◌≡◌, ◌++◌, take}
use Rattle.json_text.specs.Strings.{escape}
use Rattle.topo_writer.proofs.geometry.push_escaped.Given as goal

abbrev pub invariant-loop-byte : goal.invariant-loop-byte
invariant-loop-byte l = l.out.items ≡ l.initial.out.items ++ escape (take l.byte-index l.byte-items)
