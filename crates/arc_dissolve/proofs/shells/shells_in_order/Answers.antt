use Rattle.std.proofs.Common.{◌≡◌, ◌<◌, true, false, rules, arith, length, get_or, [], ◌∙◌, ap, subst}
use Rattle.std.proofs.lemmas.List.{length-map}
use Rattle.arc_dissolve.specs.Holes.{is_shell}
use Rattle.agg_base.specs.Lists.{lists_of}
use Rattle.arc_dissolve.proofs.ShellLemmas.{list_at, among, shell_added, shell_passed}
use Rattle.arc_dissolve.proofs.shells.shells_in_order.Goals as goal
use Rattle.arc_dissolve.proofs.shells.shells_in_order.Goals.{then-sum-gt0+in_ok-shell+in_ok-push, else-sum-gt0}

pub loop-place-preserved : goal.loop-place-preserved
loop-place-preserved c =
    let rings = lists_of c.args.rings.now in
    let outlines = lists_of c.args.outlines.now in
    let place = c.loop-place.place in
    let tested = list_at c.args.outlines.now place c.index-outlines-place.result c.deref.result.now c.loop-place-test.true c.index-outlines-place.is c.deref.ensures.value in
    elim c.if-sum-gt0.branch [
      | then-sum-gt0+in_ok-shell+in_ok-push w ↦
          let shell : is_shell c.deref.result.now ≡ true = search rules in
          let there : is_shell (get_or outlines place []) ≡ true = subst (λ l. is_shell l ≡ true) tested shell in
          let r = list_at c.args.rings.now place w.index-rings-place.result w.deref-then-sum-gt0.result.now (omega arith) w.index-rings-place.is w.deref-then-sum-gt0.ensures.value in
          let o = list_at c.args.outlines.now place w.index-outlines-place-then-sum-gt0.result w.deref-then-sum-gt0-2.result.now c.loop-place-test.true w.index-outlines-place-then-sum-gt0.is w.deref-then-sum-gt0-2.ensures.value in
          let within : place < length outlines = omega (arith, length-map c.args.outlines.now (λ v. v.items)) in
          let one = among rings outlines place w.deref-then-sum-gt0.result.now w.deref-then-sum-gt0-2.result.now w.in_ok-shell.shell within r o there w.in_ok-shell.ensures.place w.in_ok-shell.ensures.tells in
          shell_added rings outlines place w.in_ok-shell.shell c.loop-place.shells.items c.if-sum-gt0.shells.items c.loop-place.invariant one w.in_ok-shell.ensures.place (ap (λ v. v.items) w.shells-is ∙ w.in_ok-push.ensures.items)
      | else-sum-gt0 w ↦
          let hole : is_shell c.deref.result.now ≡ false = search rules in
          shell_passed rings outlines place c.loop-place.shells.items c.if-sum-gt0.shells.items c.loop-place.invariant (subst (λ l. is_shell l ≡ false) tested hole) (ap (λ v. v.items) w.shells-is)
    ]
