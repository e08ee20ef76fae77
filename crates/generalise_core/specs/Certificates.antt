-- What is stated of an answer, and the report that is said.
use Rattle.std.specs.Prelude.{ℕ, List, [], ◌∷◌, ◌++◌, length, Option, codes}
use Rattle.std.specs.Fmt.{decimal}
use Rattle.agg_base.specs.Texts.{text_of_lines}
use Rattle.row_laws.specs.Trees.{split_count}
use Rattle.cert_text.specs.Lines.{status_word, number_or_dash}
use Rattle.cert_text.specs.declared.certificate.Certificate.{Certificate}

-- What is stated of an answer, in the certificate, the report and the written map: the certificate, how many areas were passed over, and the text of the map. Where no grouping is feasible there is no map.
pub record Outcome : Type 0 where
  pub certificate : Certificate
  pub passed : ℕ
  pub map : Option (List ℕ)

-- what is said
unfoldable pub report : Outcome → List ℕ
report s =
    let c = s.certificate in
    text_of_lines (
    status_word c.status
    ∷ (codes "areas " ++ decimal c.areas)
    ∷ (codes "passed " ++ decimal s.passed)
    ∷ (codes "regions " ++ decimal (length c.grouping.class_of))
    ∷ (codes "cost " ++ number_or_dash c.cost)
    ∷ (codes "bound " ++ number_or_dash c.bound)
    ∷ (codes "splits " ++ decimal (split_count c.tree))
    ∷ []
    )
