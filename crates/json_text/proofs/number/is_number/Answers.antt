use Rattle.std.proofs.Common.{◌≡◌, ap, sym, ◌∙◌}
use Rattle.json_text.specs.NumberTest.{is_bare_number, is_json_number}
use Rattle.json_text.proofs.NumberLemmas.{json_to, json_from}
use Rattle.json_text.proofs.number.is_number.Goals as goal

pub returns : goal.returns
returns c =
    let text = c.args.text.now in
    let same : c.is_bare_number.result ≡ is_json_number text = c.is_bare_number.ensures ∙ ap is_bare_number c.without_minus.ensures in
    (λ is. json_to text (sym same ∙ is), λ number. same ∙ json_from text number)
