use Rattle.std.proofs.Common.{◌≡◌, ◌≤◌, length, take}
use Rattle.json_text.specs.Tree.{last_of, members_of}
use Rattle.json_text.specs.Values.{pairs_of}
use Rattle.json_text.proofs.tree.last_of.Given as goal

abbrev pub invariant-loop-left : goal.invariant-loop-left
invariant-loop-left l = (last_of (members_of (pairs_of l.members.items)) l.name ≡ last_of (members_of (pairs_of (take l.left l.members.items))) l.name) × (l.left ≤ length l.members.items)

abbrev pub decreases-loop-left : goal.decreases-loop-left
decreases-loop-left l = l.left
