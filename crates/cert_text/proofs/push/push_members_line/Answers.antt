use Rattle.std.proofs.Common.{map}
use Rattle.std.specs.Fmt.{signed_decimal, decimal}
use Rattle.cert_text.proofs.TextLemmas.{words_spaced_twice, line_of_three_pieces}
use Rattle.cert_text.proofs.push.push_members_line.Goals as goal

pub returns : goal.returns
returns c =
    line_of_three_pieces _ _ _ _ _ _ _ _ _ c.in_ok-extend_from_slice.ensures.items c.in_ok-push_numbers.ensures c.in_ok-push_members.ensures c.in_ok-push.ensures.items
    (words_spaced_twice signed_decimal decimal c.args.word.now c.args.numbers.now c.args.members.now)
