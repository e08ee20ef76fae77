use Rattle.std.proofs.Common.{◌≡◌, ◌≢◌, ℕ, ◌<◌, length, refl, sym, ◌∙◌, ap, subst, arith, get_or-set_other, get_or-set_same}
use Rattle.std.specs.Prelude.{slice_index, slice_set}
use Rattle.agg_model.specs.Tops.{AreFront}
use Rattle.agg_model.proofs.HeadLemmas.{nothing_in_front, front_same, front_more}
use Rattle.agg_model.proofs.tops.gather_tops.Goals as goal

pub loop-area-init : goal.loop-area-init
loop-area-init c = record { front = nothing_in_front (slice_index c.args.heads.now) (slice_index c.args.heads.now); rest = λ v h. refl }

pub loop-area-preserved-then-head-area : goal.loop-area-preserved-then-head-area
loop-area-preserved-then-head-area c =
    let old = c.args.heads.now in
    let now = c.loop-area.heads in
    let n = c.loop-area.area in
    let read = c.loop-area.invariant.rest n (omega arith) in
    let apart : slice_index old n ≢ n = λ e. c.if-head-area.true (read ∙ e) in
    record {
      front = front_same (slice_index old) (slice_index now) n c.loop-area.count apart c.loop-area.invariant.front;
      rest = λ v h. c.loop-area.invariant.rest v (omega arith);
    }

pub loop-area-preserved : goal.loop-area-preserved
loop-area-preserved c =
    let old = c.args.heads.now in
    let now = c.loop-area.heads in
    let n : ℕ = c.loop-area.area in
    let count : ℕ = c.loop-area.count in
    let few = c.loop-area.invariant.front.few in
    let x = slice_index now n in
    let read = c.loop-area.invariant.rest n (omega arith) in
    let is : x ≡ n = c.if-head-area.false in
    let inside : count < length now = omega arith in
    record {
      front = front_more (slice_index old) (slice_index now) (slice_index (slice_set now count x)) n count (sym read ∙ is) (get_or-set_same now count x 0 inside ∙ is)
          (λ i h. (let ne : i ≢ count = omega arith in get_or-set_other now count i x 0 ne)) c.loop-area.invariant.front;
      rest = λ v h. (let ne : v ≢ count = omega arith in get_or-set_other now count v x 0 ne ∙ c.loop-area.invariant.rest v (omega arith));
    }
