use Rattle.std.proofs.Common.{◌≡◌, ◌≢◌, ℕ, ◌≤◌, ◌+◌, List, [], ◌∷◌, ◌++◌, length, arith, sym, ap, ◌∙◌, subst, slice_index, refl}
use Rattle.std.proofs.lemmas.List.{get_or_read}
use Rattle.branch_bound.specs.Components.{AreRegions}
use Rattle.branch_bound.proofs.RegionSteps.{follower, opener}
use Rattle.branch_bound.proofs.components.regions.Goals as goal

pub loop-area-preserved-then-head-area : goal.loop-area-preserved-then-head-area
loop-area-preserved-then-head-area c =
    let heads = c.args.heads.now in
    let kinds = c.args.kinds.now in
    let n : ℕ = c.loop-area.area in
    let regions = c.loop-area.region_of.items in
    let classes = c.loop-area.class_of.items in
    let down : (v : ℕ) → v ≤ n → slice_index heads v ≤ v = λ v h. c.requires.down v (omega arith) in
    let apart : slice_index heads n ≢ n = c.if-head-area.true in
    let head_down : slice_index heads n ≤ n = down n (omega arith) in
    let count = c.loop-area.invariant.one_each in
    let read : c.index.result.now ≡ slice_index regions (slice_index heads n) = get_or_read regions _ _ (omega arith) c.index.ensures 0 in
    let pushed : c.push.new.self.items ≡ regions ++ slice_index regions (slice_index heads n) ∷ [] = c.in_ok-push.ensures.items ∙ ap (λ r. regions ++ r ∷ []) read in
    subst (λ (rs : List ℕ). AreRegions heads kinds (n + 1) (record { region_of = rs; class_of = classes })) (sym pushed)
    (follower heads kinds n regions classes down apart c.loop-area.invariant)

pub loop-area-preserved : goal.loop-area-preserved
loop-area-preserved c =
    let heads = c.args.heads.now in
    let kinds = c.args.kinds.now in
    let n : ℕ = c.loop-area.area in
    let regions = c.loop-area.region_of.items in
    let classes = c.loop-area.class_of.items in
    let k : ℕ = slice_index kinds n in
    let down : (v : ℕ) → v ≤ n → slice_index heads v ≤ v = λ v h. c.requires.down v (omega arith) in
    let count : c.len.result ≡ length classes = omega arith in
    let regions_more : c.push-in-loop-area.new.self.items ≡ regions ++ length classes ∷ [] = c.in_ok-push-2.ensures.items ∙ ap (λ r. regions ++ r ∷ []) count in
    let classes_more : c.push-in-loop-area-2.new.self.items ≡ classes ++ k ∷ [] = c.in_ok-push-3.ensures.items in
    subst (λ (rs : List ℕ). AreRegions heads kinds (n + 1) (record { region_of = rs; class_of = c.push-in-loop-area-2.new.self.items })) (sym regions_more)
    (subst (λ (cs : List ℕ). AreRegions heads kinds (n + 1) (record { region_of = regions ++ length classes ∷ []; class_of = cs })) (sym classes_more)
    (opener heads kinds n regions classes k down c.if-head-area.false refl c.loop-area.invariant))
