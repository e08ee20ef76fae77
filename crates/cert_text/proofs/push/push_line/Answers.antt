use Rattle.std.proofs.Common.{map}
use Rattle.std.specs.Fmt.{signed_decimal}
use Rattle.cert_text.proofs.TextLemmas.{words_spaced, line_of_pieces}
use Rattle.cert_text.proofs.push.push_line.Goals as goal

pub returns : goal.returns
returns c = line_of_pieces _ _ _ _ _ _ _ c.in_ok-extend_from_slice.ensures.items c.in_ok-push_numbers.ensures c.in_ok-push.ensures.items (words_spaced signed_decimal c.args.word.now c.args.numbers.now)
