use Rattle.std.proofs.Common.{◌∷◌, [], ◌++◌, ◌∙◌, ap, map}
use Rattle.agg_base.specs.Texts.{text_of_lines}
use Rattle.cert_text.specs.Lines.{line_text}
use Rattle.cert_text.specs.TreeTexts.{tree_lines}
use Rattle.cert_text.specs.CertTexts.{spelling, head_lines, group_lines, certificate_lines}
use Rattle.cert_text.specs.declared.line.Line.TheVariants.{End}
use Rattle.cert_text.proofs.TextLemmas.{appends_more}
use Rattle.cert_text.proofs.writer.write.Goals as goal

pub returns : goal.returns
unfolding spelling
returns c =
    let certificate = c.args.certificate.now in
    let head = head_lines certificate in
    let groups = group_lines certificate.grouping in
    let nodes = tree_lines certificate.tree in
    record {
      has_spelling = c.requires;
      text_is =
          appends_more _ _ _ (head ++ groups ++ nodes) (End ∷ [])
          (appends_more _ _ _ (head ++ groups) nodes
          (appends_more _ _ _ head groups c.in_ok-push_head.ensures c.in_ok-push_groups.ensures)
          c.in_ok-push_tree.ensures)
          c.in_ok-push_end.ensures
          ∙ ap (λ t. t ++ text_of_lines (map line_text (certificate_lines certificate))) c.new-out.ensures.items;
    }
