use Rattle.std.proofs.Common.{rules, ap, sym, ◌∙◌}
use Rattle.std.proofs.lemmas.List.{take_rest}
use Rattle.shelf_io.proofs.NameLemmas.{differ_more, not_different}
use Rattle.shelf_io.proofs.names.are_names_distinct.Goals as goal

pub returns-then-is_some : goal.returns-then-is_some
returns-then-is_some c =
    let place = rw take_rest at c.place_of.ensures in
    let clash = not_different c.args.files.now c.loop-at.at c.as_str.result.now c.index-files-at.result c.place_of.result (search rules) c.index-files-at.is (c.as_str.ensures ∙ ap (λ f. f.0) (sym c.index-files-at.is)) place (search rules) in
    (λ t. search rules, λ differ. absurd (clash differ))

pub loop-at-preserved : goal.loop-at-preserved
loop-at-preserved c =
    let place = rw take_rest at c.place_of.ensures in
    differ_more c.args.files.now c.loop-at.at c.as_str.result.now c.index-files-at.result c.place_of.result c.loop-at.invariant (search rules) c.index-files-at.is (c.as_str.ensures ∙ ap (λ f. f.0) (sym c.index-files-at.is)) place (search rules)
