use Rattle.std.proofs.Common.{◌≡◌, false, rules, refl, ap}
use Rattle.std.proofs.lemmas.List.{get_or_default}
use Rattle.arc_dissolve.specs.Holes.{is_shell}
use Rattle.arc_dissolve.specs.Shells.IsHead.{owned, unowned}
use Rattle.arc_dissolve.proofs.heads.head_of.Goals as goal

pub returns-in-Some : goal.returns-in-Some
returns-in-Some c =
    let hole : is_shell c.args.outline.now ≡ false = search rules in
    let best = c.in-Some.ensures.some in
    owned hole c.in_ok-spot.spot c.in_ok-spot.ensures.value c.in-Some.best best (λ d. ap (λ s. s.place) (get_or_default c.args.shells.now c.in-Some.best c.index-shells-best.result d best.within))

pub returns-in-None : goal.returns-in-None
returns-in-None c =
    let hole : is_shell c.args.outline.now ≡ false = search rules in
    unowned hole c.in_ok-spot.spot c.in_ok-spot.ensures.value c.in-None.ensures.none refl
