use Rattle.std.proofs.Common.{◌≡◌, ◌<◌, ℕ, List, [], length, ap, sym, ◌∙◌, subst, slice_index}
use Rattle.union_find.specs.Sets.{AreSets}
use Rattle.union_find.specs.Steps.{tops}
use Rattle.union_find.proofs.StepLemmas.{written_over}
use Rattle.union_find.proofs.SetLemmas.{sets_apart}
use Rattle.union_find.proofs.forest.Forest.reset.Goals as goal

pub returns-clause-sets : goal.returns-clause-sets
returns-clause-sets c =
    let written = written_over c.self.inside.above.len c.stand_alone.new.above _ (c.stand_alone.ensures.length ∙ c.deref_mut.ensures.len) in
    subst (λ (xs : List ℕ). AreSets [] (tops xs)) (sym written)
    (sets_apart c.stand_alone.new.above (subst (λ (n : ℕ). (v : ℕ) → v < n → slice_index c.stand_alone.new.above v ≡ v) (sym c.stand_alone.ensures.length) c.stand_alone.ensures.alone))
