use Rattle.std.proofs.Common.{ap, ◌∙◌, sym, slice_set, List, ℕ, [], ◌∷◌, ◌++◌}
use Rattle.std.proofs.lemmas.List.{map-set}
use Rattle.agg_base.specs.Lists.{lists_of}
use Rattle.grid_reader.proofs.MemberLemmas.{list_held}
use Rattle.grid_reader.proofs.members.push_member.Goals as goal

pub returns : goal.returns
returns c =
    let p = c.args.patch in
    let old = c.args.members.now.items in
    let list = c.index_mut-list.result.now in
    map-set (λ v. v.items) old p c.push.new.self
    ∙ ap (slice_set (lists_of old) p) (c.in_ok-push.ensures.items ∙ ap (λ (xs : List ℕ). xs ++ c.args.cell ∷ []) (ap (λ v. v.items) c.index_mut-list.ensures.value ∙ sym (list_held old list p c.requires)))
