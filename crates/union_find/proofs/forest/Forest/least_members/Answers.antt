use Rattle.std.proofs.Common.{ap, sym, ◌∙◌, subst}
use Rattle.union_find.specs.Steps.{LeadsDown, tops, top_at}
use Rattle.union_find.proofs.StepLemmas.{written_over}
use Rattle.union_find.proofs.TopLemmas.{tops_label, is_tops}
use Rattle.union_find.proofs.forest.Forest.least_members.Goals as goal

pub returns : goal.returns
returns c =
    let old = c.deref_mut.result.now in
    let new = c.flatten.new.above in
    let down : LeadsDown old = subst LeadsDown (sym c.deref_mut.ensures.value) c.self.invariant.down in
    written_over c.self.inside.above.len new _ (c.flatten.ensures.length ∙ c.deref_mut.ensures.len)
    ∙ (is_tops old new down c.flatten.ensures.length (c.flatten.ensures.labels (top_at old) (tops_label old down))
    ∙ (ap tops c.deref_mut.ensures.value ∙ c.self.view_is))
