use Rattle.std.proofs.Common.{◌∷◌, [], ◌++◌}
use Rattle.cert_text.specs.TreeTexts.{tree_lines}
use Rattle.cert_text.specs.declared.line.Line.TheVariants.{Split}
use Rattle.cert_text.proofs.TextLemmas.{appends_more}
use Rattle.cert_text.proofs.tree_writer.+push_tree.Goals as goal

pub returns-in_ok-push_tree-in-Split-2 : goal.returns-in_ok-push_tree-in-Split-2
returns-in_ok-push_tree-in-Split-2 t c =
    let yes_lines = tree_lines c.deref.result.now in
    let no_lines = tree_lines c.deref-in-Split.result.now in
    rw c.in-Split.is
    (rw (← c.deref.ensures, ← c.deref-in-Split.ensures)
    (appends_more _ _ _ (Split c.in-Split.area c.in-Split.class ∷ []) (yes_lines ++ no_lines) c.in_ok-push_split-in-Split.ensures
    (appends_more _ _ _ yes_lines no_lines c.in_ok-push_tree-in-Split.ensures c.in_ok-push_tree-in-Split-2.ensures)))
