use Rattle.std.proofs.Common.{◌≡◌, ◌<◌, ◌≤◌, ◌*◌, ℕ, List, length, ap, sym, ◌∙◌, subst, arith, rules, All}
use Rattle.grid_reader.specs.Members.{IsAreaOf, list_at}
use Rattle.agg_base.specs.Lists.{lists_of}
use Rattle.std.proofs.lemmas.List.{length-map}
use Rattle.grid_reader.proofs.AreaLemmas.{area_pushed, steps_pushed}
use Rattle.grid_reader.proofs.MemberLemmas.{list_held}
use Rattle.grid_reader.proofs.areas.areas_of.Goals as goal

pub area_of-requires-clause-filled : goal.area_of-requires-clause-filled
area_of-requires-clause-filled c =
    let k = c.loop-cells.cells-index in
    let ms = c.args.members.now in
    let h : k < length ms = omega arith in
    subst (λ (cells : List ℕ). 0 < length cells) (list_held ms c.cells-item.result k h ∙ (sym (ap (λ v. v.items) c.cells-item.is) ∙ sym c.deref.ensures.value)) (c.requires.filled k h)

pub area_of-requires-clause-inside : goal.area_of-requires-clause-inside
area_of-requires-clause-inside c =
    let k = c.loop-cells.cells-index in
    let ms = c.args.members.now in
    let h : k < length ms = omega arith in
    subst (λ (cells : List ℕ). All (λ i. i < length c.args.grid.now.cells) cells) (list_held ms c.cells-item.result k h ∙ (sym (ap (λ v. v.items) c.cells-item.is) ∙ sym c.deref.ensures.value)) (c.requires.inside k h)

pub loop-cells-preserved : goal.loop-cells-preserved
loop-cells-preserved c =
    let g = c.args.grid.now in
    let k = c.loop-cells.cells-index in
    let ms = c.args.members.now in
    let xs = lists_of ms in
    let area = c.in_ok-area_of.field-0 in
    let h : k < length ms = omega arith in
    let within : k < length xs = subst (λ (n : ℕ). k < n) (sym (length-map ms (λ v. v.items))) h in
    let same : c.deref.result.now ≡ list_at xs k = c.deref.ensures.value ∙ (ap (λ v. v.items) c.cells-item.is ∙ sym (list_held ms c.cells-item.result k h)) in
    record {
      long = (let pushed = c.in_ok-push.ensures.len in let before = c.loop-cells.invariant.long in search rules);
      each = area_pushed g xs c.loop-cells.areas.items c.push.new.self.items k area c.in_ok-push.ensures.items c.loop-cells.invariant.long within
          (subst (λ (cells : List ℕ). IsAreaOf g cells area) same c.in_ok-area_of.ensures.area) c.loop-cells.invariant.each;
      few = steps_pushed xs c.loop-cells.areas.items c.push.new.self.items k area c.in_ok-push.ensures.items within
          (subst (λ (cells : List ℕ). length area.steps ≤ 4 * length cells) same c.in_ok-area_of.ensures.few) c.loop-cells.invariant.few;
    }
