use Rattle.std.proofs.Common.{◌≡◌, ◌-◌, ◌<◌, [], Some, length, sym, ap, ◌∙◌, arith}
use Rattle.std.specs.Prelude.{slice_get}
use Rattle.std.proofs.lemmas.Option.{slice_get_within}
use Rattle.json_text.specs.Stacks.{has_list}
use Rattle.json_text.proofs.StackLemmas.{frames_last}
use Rattle.json_text.proofs.stack.has_list.Goals as goal

pub returns-in-Some : goal.returns-in-Some
returns-in-Some c =
    let xs = c.args.stack.now.frames.items in
    let frame = c.in-Some.frame.now in
    let got : slice_get xs (length xs - 1) ≡ Some frame = sym (rw c.deref.ensures.value at c.in-Some.ensures.value) in
    let within : length xs - 1 < length xs = slice_get_within xs (length xs - 1) frame got in
    let last = frames_last [] xs (length xs - 1) frame (omega arith) got in
    c.is_list.ensures ∙ sym (ap has_list last.1)
