use Rattle.std.proofs.Common.{subst, sym, ◌∙◌}
use Rattle.agg_base.specs.Lists.{lists_of, nested_of}
use Rattle.arc_dissolve.specs.Slots.{AreSlots}
use Rattle.arc_dissolve.proofs.ListLemmas.{lists_length}
use Rattle.arc_dissolve.proofs.SlotLemmas.{groups_are}
use Rattle.arc_dissolve.proofs.slots.group.Goals as goal

pub returns : goal.returns
returns c =
    let rings = lists_of c.args.rings.now in
    let slots = nested_of c.fill.new.slots.items in
    let n = lists_length c.args.rings.now in
    groups_are rings c.args.heads.now slots (nested_of c.drop_empty.new.slots.items) (c.requires.count ∙ sym n) (subst (λ k. AreSlots rings c.args.heads.now k slots) (sym n) c.in_ok-fill.ensures) c.drop_empty.ensures
