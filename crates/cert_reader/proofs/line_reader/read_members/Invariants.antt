use Rattle.std.proofs.Common.{◌≡◌, length}
use Rattle.cert_reader.specs.LineReading.{members_in}
use Rattle.cert_reader.proofs.WordLemmas.{onto}
use Rattle.cert_reader.proofs.line_reader.read_members.Given as goal

abbrev pub invariant-loop-word : goal.invariant-loop-word
invariant-loop-word l = members_in l.initial.words ≡ onto l.members.items (members_in l.words)

abbrev pub decreases-loop-word : goal.decreases-loop-word
decreases-loop-word l = length l.words
