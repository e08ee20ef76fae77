use Rattle.std.proofs.Common.{slice_index, ◌≡◌, ◌<◌, ℕ, List, length, ap, sym, ◌∙◌, subst, ◌∷◌}
use Rattle.union_find.specs.Sets.{AreSets}
use Rattle.union_find.specs.Steps.{merge, LeadsDown, tops, top_at}
use Rattle.union_find.proofs.StepLemmas.{written_over}
use Rattle.union_find.proofs.TopLemmas.{length-tops, tops_label}
use Rattle.union_find.proofs.SetLemmas.{sets_joined, tops_merged}
use Rattle.union_find.proofs.forest.Forest.join.Goals as goal

-- a member has a place in the list of steps
inside : (a : ℕ) (value steps now : List ℕ) → a < length value → tops steps ≡ value → now ≡ steps → a < length now
inside a value steps now h is e = subst (λ (n : ℕ). a < n) (sym (ap length is) ∙ (length-tops steps ∙ sym (ap length e))) h

pub join-requires-clause-a : goal.join-requires-clause-a
join-requires-clause-a c = inside c.args.a c.args.self.now c.self.inside.above.items c.deref_mut.result.now c.requires.a c.self.view_is c.deref_mut.ensures.value

pub join-requires-clause-b : goal.join-requires-clause-b
join-requires-clause-b c = inside c.args.b c.args.self.now c.self.inside.above.items c.deref_mut.result.now c.requires.b c.self.view_is c.deref_mut.ensures.value

pub returns-clause-sets : goal.returns-clause-sets
returns-clause-sets c pairs sets =
    let old = c.deref_mut.result.now in
    let new = c.join.new.above in
    let down : LeadsDown old = subst LeadsDown (sym c.deref_mut.ensures.value) c.self.invariant.down in
    let same : c.args.self.now ≡ tops old = sym c.self.view_is ∙ ap tops (sym c.deref_mut.ensures.value) in
    let written = written_over c.self.inside.above.len new _ (c.join.ensures.length ∙ c.deref_mut.ensures.len) in
    subst (λ (xs : List ℕ). AreSets ((c.args.a, c.args.b) ∷ pairs) (tops xs)) (sym written)
    (sets_joined pairs old new c.args.a c.args.b down c.join.ensures.length (inside c.args.a c.args.self.now c.self.inside.above.items old c.requires.a c.self.view_is c.deref_mut.ensures.value)
    (inside c.args.b c.args.self.now c.self.inside.above.items old c.requires.b c.self.view_is c.deref_mut.ensures.value)
    (c.join.ensures.forest (top_at old) (tops_label old down)) (subst (AreSets pairs) same sets))

pub returns-clause-merged : goal.returns-clause-merged
returns-clause-merged c v h =
    let old = c.deref_mut.result.now in
    let new = c.join.new.above in
    let down : LeadsDown old = subst LeadsDown (sym c.deref_mut.ensures.value) c.self.invariant.down in
    let same : c.args.self.now ≡ tops old = sym c.self.view_is ∙ ap tops (sym c.deref_mut.ensures.value) in
    let written = written_over c.self.inside.above.len new _ (c.join.ensures.length ∙ c.deref_mut.ensures.len) in
    let merged = tops_merged old new c.args.a c.args.b c.join.ensures.length (inside c.args.a c.args.self.now c.self.inside.above.items old c.requires.a c.self.view_is c.deref_mut.ensures.value)
    (inside c.args.b c.args.self.now c.self.inside.above.items old c.requires.b c.self.view_is c.deref_mut.ensures.value)
    (c.join.ensures.forest (top_at old) (tops_label old down)) v (subst (λ (xs : List ℕ). v < length xs) same h) in
    subst (λ (xs : List ℕ). slice_index (tops xs) v ≡ merge (slice_index c.args.self.now c.args.a) (slice_index c.args.self.now c.args.b) (slice_index c.args.self.now v)) (sym written)
    (subst (λ (xs : List ℕ). slice_index (tops new) v ≡ merge (slice_index xs c.args.a) (slice_index xs c.args.b) (slice_index xs v)) (sym same) merged)
