use Rattle.std.proofs.Common.{rules, refl}
use Rattle.std.specs.Char.{is_ascii_digit}
use Rattle.std.specs.Str.{all_ascii_digits}
use Rattle.std.proofs.lemmas.List.Recursion.{and_is}
use Rattle.text_words.proofs.Digits.{digits_decided}
use Rattle.text_words.proofs.byte.has_digits_only.Goals as goal

pub returns : goal.returns
returns c = digits_decided c.all.result c.args.text.now (and_is all_ascii_digits is_ascii_digit refl (λ _ _. refl) c.args.text.now 0 _ (search rules) (search rules))
