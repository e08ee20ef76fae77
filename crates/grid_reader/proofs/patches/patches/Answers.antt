use Rattle.std.proofs.Common.{List, ℕ, sym, ◌∙◌, subst}
use Rattle.std.specs.Prelude.{slice_index}
use Rattle.grid_reader.specs.Patches.{AreLeaders}
use Rattle.grid_reader.proofs.patches.patches.Goals as goal

pub number_all-requires-clause-leaders : goal.number_all-requires-clause-leaders
number_all-requires-clause-leaders c =
    subst (λ (xs : List ℕ). AreLeaders c.args.grid.now (λ i. slice_index xs i)) (sym (c.deref.ensures.value ∙ c.least_members-leaders.ensures)) c.join_all.ensures.leaders
