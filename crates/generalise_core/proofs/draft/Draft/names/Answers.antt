use Rattle.std.proofs.Common.{rules, arith, ◌≡◌, length, ◌∙◌, ap, sym}
use Rattle.generalise_core.specs.Texts.{texts}
use Rattle.generalise_core.proofs.DraftLemmas.{five_texts}
use Rattle.generalise_core.proofs.draft.Draft.names.Goals as goal

pub returns-clause-found : goal.returns-clause-found
returns-clause-found c =
    let items = c.as_slice.result.now in
    let long : length items ≡ 5 = omega arith in
    let same : items ≡ c.self.inside.operands.items = c.as_slice.ensures.value in
    record {
      operands_are = sym (ap (λ d. d.operands) c.self.view_is) ∙ ap texts (sym same) ∙ five_texts items _ long;
      differ = search rules;
    }
