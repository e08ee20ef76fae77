use Rattle.std.proofs.Common.{◌≡◌, ◌<◌, ℕ, List, length, ap, sym, ◌∙◌, subst, slice_index}
use Rattle.union_find.specs.Steps.{LeadsDown, tops, top_at}
use Rattle.union_find.proofs.StepLemmas.{written_over}
use Rattle.union_find.proofs.TopLemmas.{length-tops, tops_at, tops_label, tops_stay}
use Rattle.union_find.proofs.forest.Forest.least.Goals as goal

-- a member has a place in the list of steps
inside : (a : ℕ) (value steps now : List ℕ) → a < length value → tops steps ≡ value → now ≡ steps → a < length now
inside a value steps now h is e = subst (λ (n : ℕ). a < n) (sym (ap length is) ∙ (length-tops steps ∙ sym (ap length e))) h

pub top_of-requires-clause-member : goal.top_of-requires-clause-member
top_of-requires-clause-member c = inside c.args.member c.args.self.now c.self.inside.above.items c.deref_mut.result.now c.requires c.self.view_is c.deref_mut.ensures.value

pub returns-clause-least : goal.returns-clause-least
returns-clause-least c =
    let old = c.deref_mut.result.now in
    let down : LeadsDown old = subst LeadsDown (sym c.deref_mut.ensures.value) c.self.invariant.down in
    let same : c.args.self.now ≡ tops old = sym c.self.view_is ∙ ap tops (sym c.deref_mut.ensures.value) in
    let within = inside c.args.member c.args.self.now c.self.inside.above.items old c.requires c.self.view_is c.deref_mut.ensures.value in
    (c.top_of.ensures.forest (top_at old) (tops_label old down)).1 ∙ (sym (tops_at old c.args.member within) ∙ ap (λ (xs : List ℕ). slice_index xs c.args.member) (sym same))

pub returns-clause-sets : goal.returns-clause-sets
returns-clause-sets c =
    let old = c.deref_mut.result.now in
    let new = c.top_of.new.above in
    let down : LeadsDown old = subst LeadsDown (sym c.deref_mut.ensures.value) c.self.invariant.down in
    let same : c.args.self.now ≡ tops old = sym c.self.view_is ∙ ap tops (sym c.deref_mut.ensures.value) in
    let written = written_over c.self.inside.above.len new _ (c.top_of.ensures.length ∙ c.deref_mut.ensures.len) in
    ap tops written ∙ (tops_stay old new down c.top_of.ensures.length (c.top_of.ensures.forest (top_at old) (tops_label old down)).0 ∙ sym same)
