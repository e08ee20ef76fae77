use Rattle.std.proofs.Common.{refl, ap, sym}
use Rattle.arc_dissolve.proofs.ReachLemmas.{reach_alone}
use Rattle.arc_dissolve.proofs.reach.own_reach.Goals as goal

pub returns : goal.returns
returns c = reach_alone c.args.shells.now c.args.place c.index-shells-place.result _ c.requires c.index-shells-place.is (ap (λ s. s.extent) (sym c.index-shells-place.is)) refl
