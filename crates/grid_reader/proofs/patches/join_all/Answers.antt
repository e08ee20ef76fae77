use Rattle.std.proofs.Common.{◌≡◌, ℕ, [], length, arith, subst}
use Rattle.grid_reader.specs.Joins.{AreJoins}
use Rattle.grid_reader.proofs.PatchLemmas.{joins_none, sets_lead}
use Rattle.grid_reader.proofs.patches.join_all.Goals as goal

pub loop-at-init : goal.loop-at-init
loop-at-init c = record { long = c.requires.length; joined = ([], joins_none c.args.grid.now, c.requires.alone) }

pub returns-clause-leaders : goal.returns-clause-leaders
returns-clause-leaders c =
    let g = c.args.grid.now in
    let joined = c.loop-at.invariant.joined in
    let all : c.loop-at.at ≡ length g.cells = omega arith in
    sets_lead g joined.0 c.loop-at.forest (subst (λ (n : ℕ). AreJoins g n n joined.0) all joined.1) joined.2 c.loop-at.invariant.long
