use Rattle.std.proofs.Common.{◌≡◌, ◌<◌, ℕ, length, sym, ◌∙◌, subst}
use Rattle.std.proofs.lemmas.List.{length-map}
use Rattle.grid_reader.specs.Patches.{number_at}
use Rattle.grid_reader.specs.Members.{AreMembers}
use Rattle.agg_base.specs.Lists.{lists_of}
use Rattle.grid_reader.proofs.MemberLemmas.{members_areas, patch_filled, patch_inside}
use Rattle.grid_reader.proofs.coverage.coverage_of.Goals as goal

pub areas_of-requires-clause-filled : goal.areas_of-requires-clause-filled
areas_of-requires-clause-filled c =
    let g = c.args.grid.now in
    let number = number_at c.in_ok-numbered.numbered.numbers.items in
    let count = c.in_ok-numbered.numbered.count in
    let ds = c.deref.result.now in
    let m : AreMembers number (length g.cells) count (lists_of ds) = subst (λ xs. AreMembers number (length g.cells) count (lists_of xs)) (sym c.deref.ensures.value) c.in_ok-members.ensures in
    λ p h. patch_filled g number count (lists_of ds) c.in_ok-numbered.ensures.patches m p (subst (λ (n : ℕ). p < n) (sym (length-map ds (λ v. v.items)) ∙ m.long) h)

pub areas_of-requires-clause-inside : goal.areas_of-requires-clause-inside
areas_of-requires-clause-inside c =
    let g = c.args.grid.now in
    let number = number_at c.in_ok-numbered.numbered.numbers.items in
    let count = c.in_ok-numbered.numbered.count in
    let ds = c.deref.result.now in
    let m : AreMembers number (length g.cells) count (lists_of ds) = subst (λ xs. AreMembers number (length g.cells) count (lists_of xs)) (sym c.deref.ensures.value) c.in_ok-members.ensures in
    λ p h. patch_inside g number count (lists_of ds) m p (subst (λ (n : ℕ). p < n) (sym (length-map ds (λ v. v.items)) ∙ m.long) h)

pub returns-clause-areas : goal.returns-clause-areas
returns-clause-areas c =
    let g = c.args.grid.now in
    let number = number_at c.in_ok-numbered.numbered.numbers.items in
    let count = c.in_ok-numbered.numbered.count in
    let ds = c.deref.result.now in
    let m : AreMembers number (length g.cells) count (lists_of ds) = subst (λ xs. AreMembers number (length g.cells) count (lists_of xs)) (sym c.deref.ensures.value) c.in_ok-members.ensures in
    let long : length ds ≡ count = sym (length-map ds (λ v. v.items)) ∙ m.long in
    members_areas g number count (lists_of ds) c.in_ok-areas.areas.items c.in_ok-numbered.ensures.patches m (c.in_ok-areas.ensures.long ∙ long)
    (λ p h. c.in_ok-areas.ensures.each p (subst (λ (n : ℕ). p < n) (sym long) h))
