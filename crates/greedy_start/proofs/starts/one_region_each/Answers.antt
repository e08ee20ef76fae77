use Rattle.std.proofs.Common.{◌≡◌, ◌≢◌, ℕ, ◌≤◌, ◌+◌, List, [], ◌∷◌, ◌++◌, length, arith, sym, ap, ◌∙◌, subst, slice_index}
use Rattle.std.proofs.lemmas.List.{get_or_read}
use Rattle.greedy_start.specs.declared.choices.Best.{Best}
use Rattle.greedy_start.specs.Tallies.{IsStart, IsFirstNone}
use Rattle.greedy_start.proofs.StartSteps.{follower, opener, had_before}
use Rattle.greedy_start.proofs.starts.one_region_each.Goals as goal

pub loop-area-preserved-then-part-area : goal.loop-area-preserved-then-part-area
loop-area-preserved-then-part-area c =
    let parts = c.args.parts.now in
    let best = c.args.best.now in
    let n : ℕ = c.loop-area.area in
    let regions = c.loop-area.region_of.items in
    let classes = c.loop-area.class_of.items in
    let down : (v : ℕ) → v ≤ n → slice_index parts v ≤ v = λ v h. c.requires.down v (omega arith) in
    let apart : slice_index parts n ≢ n = c.if-part-area.true in
    let part_down : slice_index parts n ≤ n = down n (omega arith) in
    let count = c.loop-area.invariant.one_each in
    let read : c.index.result.now ≡ slice_index regions (slice_index parts n) = get_or_read regions _ _ (omega arith) c.index.ensures 0 in
    let pushed : c.push.new.self.items ≡ regions ++ slice_index regions (slice_index parts n) ∷ [] = c.in_ok-push.ensures.items ∙ ap (λ r. regions ++ r ∷ []) read in
    subst (λ (rs : List ℕ). IsStart parts best (n + 1) (record { region_of = rs; class_of = classes })) (sym pushed)
    (follower parts best n regions classes down apart c.loop-area.invariant)

pub returns-in_default-clause-hopeless : goal.returns-in_default-clause-hopeless
returns-in_default-clause-hopeless c v e =
    let parts = c.args.parts.now in
    let best = c.args.best.now in
    let n : ℕ = c.loop-area.area in
    let same : n ≡ v = cc in
    let here : IsFirstNone parts best n =
    record {
      within = omega arith;
      top = c.if-part-area.false;
      none = c.in_default.is;
      before = λ u h tu. had_before parts best n _ c.loop-area.invariant u h tu;
    } in
    subst (λ (w : ℕ). IsFirstNone parts best w) same here

pub loop-area-preserved : goal.loop-area-preserved
loop-area-preserved c =
    let parts = c.args.parts.now in
    let best = c.args.best.now in
    let n : ℕ = c.loop-area.area in
    let regions = c.loop-area.region_of.items in
    let classes = c.loop-area.class_of.items in
    let k : ℕ = c.in-Some.class in
    let down : (v : ℕ) → v ≤ n → slice_index parts v ≤ v = λ v h. c.requires.down v (omega arith) in
    let count : c.len.result ≡ length classes = omega arith in
    let regions_more : c.push-in-loop-area.new.self.items ≡ regions ++ length classes ∷ [] = c.in_ok-push-2.ensures.items ∙ ap (λ r. regions ++ r ∷ []) count in
    let classes_more : c.push-in-loop-area-2.new.self.items ≡ classes ++ k ∷ [] = c.in_ok-push-3.ensures.items ∙ ap (λ j. classes ++ j ∷ []) c.in-Some.class-is in
    let class_is : c.in-Some.field-0.class ≡ k = ap (λ (b : Best). b.class) (sym c.in-Some.field-0-is) ∙ c.in-Some.class-is in
    subst (λ (rs : List ℕ). IsStart parts best (n + 1) (record { region_of = rs; class_of = c.push-in-loop-area-2.new.self.items })) (sym regions_more)
    (subst (λ (cs : List ℕ). IsStart parts best (n + 1) (record { region_of = regions ++ length classes ∷ []; class_of = cs })) (sym classes_more)
    (opener parts best n regions classes k down c.if-part-area.false (c.in-Some.field-0, c.in-Some.is, class_is) c.loop-area.invariant))
