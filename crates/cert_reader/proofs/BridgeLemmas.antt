-- The reader's lines of a certificate have the texts of its spelling.
use Rattle.std.proofs.Common.{◌≡◌, ℕ, Bool, true, false, cond, List, [], ◌∷◌, ◌++◌, length, map, refl, ap, sym, ◌∙◌}
use Rattle.std.specs.Prelude.{ℤ}
use Rattle.std.proofs.lemmas.List.{map-append}
use Rattle.agg_base.specs.Texts.{text_of_lines}
use Rattle.agg_model.specs.Problem.{Grouping}
use Rattle.row_laws.specs.declared.row.Row.{Row}
use Rattle.row_laws.specs.declared.leaf.Leaf.{Leaf}
use Rattle.row_laws.specs.declared.leaf.Leaf.TheVariants.{Sum, Fixed}
use Rattle.row_laws.specs.declared.tree.Tree.{Tree, Leaf as LeafNode, Split'}
use Rattle.row_laws.specs.Values.{RowSum}
use Rattle.cert_text.specs.Lines.{line_text as text_there}
use Rattle.cert_text.specs.TreeTexts.{row_line as row_line_there, tree_lines as tree_lines_there}
use Rattle.cert_text.specs.CertTexts.{group_lines as group_lines_there, certificate_lines as certificate_lines_there, spelling}
use Rattle.cert_text.specs.declared.certificate.Certificate.{Certificate}
use Rattle.cert_reader.specs.Lines.{line_text}
use Rattle.cert_reader.specs.CertLines.{row_line, tree_lines, group_lines, certificate_lines}
use Rattle.cert_reader.specs.declared.line.Line.TheVariants as line

rows_there : (rows : List (Row × ℤ)) → map text_there (map row_line_there rows) ≡ map line_text (map row_line rows)
unfolding text_there line_text
rows_there [] = refl
rows_there (row ∷ rows) = ap (λ t. line_text (row_line row) ∷ t) (rows_there rows)

sum_there : (void : Bool) (q : ℕ) (rows : List (Row × ℤ)) → map text_there (tree_lines_there (LeafNode (Sum (record { denominator = q; void = void; rows = rows })))) ≡ map line_text (tree_lines (LeafNode (Sum (record { denominator = q; void = void; rows = rows }))))
unfolding text_there line_text
sum_there true q rows = ap (λ t. line_text (line.Void (length rows)) ∷ t) (rows_there rows)
sum_there false q rows = ap (λ t. line_text (line.Sum q (length rows)) ∷ t) (rows_there rows)

tree_there : (tree : Tree Leaf) → map text_there (tree_lines_there tree) ≡ map line_text (tree_lines tree)
unfolding text_there line_text
tree_there (LeafNode Fixed) = refl
tree_there (LeafNode (Sum s)) = sum_there s.void s.denominator s.rows
tree_there (Split' area class p with q rest) =
    ap (λ t. line_text (line.Split area class) ∷ t)
    (map-append text_there (tree_lines_there with) (tree_lines_there rest)
    ∙ ap (λ t. t ++ map text_there (tree_lines_there rest)) (tree_there with)
    ∙ ap (λ t. map line_text (tree_lines with) ++ t) (tree_there rest)
    ∙ sym (map-append line_text (tree_lines with) (tree_lines rest)))

groups_there : (cs rs : List ℕ) → map text_there (group_lines_there (record { region_of = rs; class_of = cs })) ≡ map line_text (group_lines (record { region_of = rs; class_of = cs }))
unfolding text_there line_text
groups_there [] [] = refl
groups_there [] (r ∷ rs) = ap (λ t. line_text (line.Region r) ∷ t) (groups_there [] rs)
groups_there (c ∷ cs) rs = ap (λ t. line_text (line.Class c) ∷ t) (groups_there cs rs)

lines_there : (c : Certificate) → map text_there (certificate_lines_there c) ≡ map line_text (certificate_lines c)
unfolding text_there line_text
lines_there c =
    ap (λ t. line_text line.Version ∷ line_text (line.Status c.status) ∷ line_text (line.Cost c.cost) ∷ line_text (line.Bound c.bound) ∷ line_text (line.Areas c.areas) ∷ line_text (line.Regions (length c.grouping.class_of)) ∷ t)
    (map-append text_there (group_lines_there c.grouping ++ tree_lines_there c.tree) _
    ∙ ap (λ t. t ++ line_text line.End ∷ []) (map-append text_there (group_lines_there c.grouping) (tree_lines_there c.tree)
    ∙ ap (λ t. t ++ map text_there (tree_lines_there c.tree)) (groups_there c.grouping.class_of c.grouping.region_of)
    ∙ ap (λ t. map line_text (group_lines c.grouping) ++ t) (tree_there c.tree)
    ∙ sym (map-append line_text (group_lines c.grouping) (tree_lines c.tree)))
    ∙ sym (map-append line_text (group_lines c.grouping ++ tree_lines c.tree) (line.End ∷ [])))

pub spelling_is : (c : Certificate) → spelling c ≡ text_of_lines (map line_text (certificate_lines c))
unfolding spelling
spelling_is c = ap text_of_lines (lines_there c)
