use Rattle.std.proofs.Common.{rules, ap, ◌∙◌}
use Rattle.std.proofs.lemmas.List.Elements.{filter_from_retain}
use Rattle.agg_base.specs.Lists.{lists_of, nested_of}
use Rattle.arc_dissolve.specs.Slots.{is_filled}
use Rattle.arc_dissolve.proofs.ListLemmas.{map-filter}
use Rattle.arc_dissolve.proofs.slots.drop_empty.Goals as goal

pub returns : goal.returns
returns c =
    let old = c.args.slots.now.items in
    let kept = filter_from_retain _ (λ v. is_filled (lists_of v.items)) (λ p x b q k. search rules) _ old c.retain.new.self.items c.retain.ensures.filtered in
    ap nested_of kept ∙ map-filter (λ v. lists_of v.items) is_filled old
