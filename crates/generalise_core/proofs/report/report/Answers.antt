use Rattle.std.proofs.Common.{◌≡◌, arith, ◌++◌, ◌∷◌, [], codes, length, ◌∙◌, ap}
use Rattle.std.specs.Fmt.{decimal}
use Rattle.agg_base.specs.Texts.{text_of_lines}
use Rattle.row_laws.specs.Trees.{split_count}
use Rattle.cert_text.specs.Lines.{status_word, number_or_dash}
use Rattle.generalise_core.specs.Certificates.{report}
use Rattle.generalise_core.proofs.Endings.{next_line}
use Rattle.generalise_core.proofs.report.report.Goals as goal

pub returns : goal.returns
unfolding report
returns c =
    let i = c.args.certificate.now in
    let regions = length i.grouping.class_of in
    let counted : c.region_count-regions.result ≡ regions = c.region_count-regions.ensures in
    let status = status_word i.status ∷ [] in
    let areas = codes "areas " ++ decimal i.areas in
    let passed = codes "passed " ++ decimal c.args.passed in
    let many = codes "regions " ++ decimal regions in
    let cost = codes "cost " ++ number_or_dash i.cost in
    let bound = codes "bound " ++ number_or_dash i.bound in
    let splits = codes "splits " ++ decimal (split_count i.tree) in
    let first : c.push_line.new.out.items ≡ [] ++ text_of_lines status = rw (c.in_ok-push_line.ensures, c.word_of.ensures, c.new-out.ensures.items) in
    let second = next_line [] _ _ status areas first c.in_ok-push_count.ensures in
    let third = next_line [] _ _ (status ++ areas ∷ []) passed second c.in_ok-push_count-2.ensures in
    let fourth = next_line [] _ _ (status ++ areas ∷ [] ++ passed ∷ []) many third (c.in_ok-push_count-3.ensures ∙ ap (λ n. c.push_count-2.new.out.items ++ text_of_lines ((codes "regions " ++ decimal n) ∷ [])) counted) in
    let fifth = next_line [] _ _ (status ++ areas ∷ [] ++ passed ∷ [] ++ many ∷ []) cost fourth c.in_ok-push_number_or_dash.ensures in
    let sixth = next_line [] _ _ (status ++ areas ∷ [] ++ passed ∷ [] ++ many ∷ [] ++ cost ∷ []) bound fifth c.in_ok-push_number_or_dash-2.ensures in
    let exact : c.splits-splits.result ≡ split_count i.tree = (let counts = c.splits-splits.ensures in let few = c.requires.splits in omega arith) in
    next_line [] _ _ (status ++ areas ∷ [] ++ passed ∷ [] ++ many ∷ [] ++ cost ∷ [] ++ bound ∷ []) splits sixth
    (c.in_ok-push_count-4.ensures ∙ ap (λ n. c.push_number_or_dash-2.new.out.items ++ text_of_lines ((codes "splits " ++ decimal n) ∷ [])) exact)
