use Rattle.std.proofs.Common.{not, rules}
use Rattle.std.specs.Char.{is_ascii_digit}
use Rattle.json_text.proofs.FirstOther.{first_at, none_at}
use Rattle.json_text.proofs.number.digits_end.Goals as goal

pub returns-in-Some-clause-place : goal.returns-in-Some-clause-place
returns-in-Some-clause-place c = first_at (λ byte. not (is_ascii_digit byte)) c.args.text.now c.in-Some.at (search rules)

pub returns-in-None-clause-place : goal.returns-in-None-clause-place
returns-in-None-clause-place c = none_at (λ byte. not (is_ascii_digit byte)) c.args.text.now (search rules)
