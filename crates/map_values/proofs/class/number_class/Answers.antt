use Rattle.std.proofs.Common.{ℕ, List, refl, ◌∙◌, ap, subst}
use Rattle.std.specs.Int.{w64}
use Rattle.std.specs.Fmt.{signed_decimal}
use Rattle.std.proofs.lemmas.Int.{to_z-of_z}
use Rattle.agg_base.specs.Numbers.{SpellsWhole}
use Rattle.map_values.specs.Classes.{by_number}
use Rattle.map_values.proofs.class.number_class.Goals as goal

pub returns-clause-found : goal.returns-clause-found
returns-clause-found c =
    let answer = c.in-Is.ensures.answer in
    let spells = subst (λ (text : List ℕ). SpellsWhole text c.in-Is.value) (c.as_bytes.ensures.value ∙ c.as_str.ensures) answer.0 in
    by_number c.args.number.now c.in-Is.value refl spells answer.1 (c.in_ok-decimal.ensures ∙ ap signed_decimal (to_z-of_z w64 c.in-Is.value answer.1))
