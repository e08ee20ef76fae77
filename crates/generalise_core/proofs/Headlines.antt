-- What a run that stores all has stated.
use Rattle.std.proofs.Common.{◌≡◌, ◌≢◌, ◌⊎◌, inl, inr, ℕ, ℤ, ◌≤ℤ◌, ◌<ℤ◌, List, ◌∷◌, Option, Some, None, refl, sym, ◌∙◌, ap, subst}
use Rattle.shelf_io.specs.State.{ShelfState}
use Rattle.agg_model.specs.Problem.{Problem, Grouping, IsFeasible, cost}
use Rattle.class_table.specs.Table.{Table}
use Rattle.coverage_check.specs.Checked.{Checked}
use Rattle.coverage_check.specs.Kept.{odds_of}
use Rattle.map_drawing.specs.Drawn.{IsDrawnMap}
use Rattle.generalise_core.specs.Words.{Request, Spells}
use Rattle.generalise_core.specs.Texts.{text_of}
use Rattle.search_answer.specs.Answers.{States, StatesGrouping, IsStatusOf}
use Rattle.branch_bound.specs.Enough.{HasEnough}
use Rattle.branch_bound.specs.Trees.{IsDeep}
use Rattle.row_laws.specs.Trees.{split_count}
use Rattle.row_laws.specs.declared.bound.Bound.TheVariants.{Least}
use Rattle.generalise_core.specs.Answers.{AnswersProblem, IsDrawn}
use Rattle.generalise_core.specs.Spent.{IsUsedUp, HasAscents}
use Rattle.generalise_core.specs.States.{with_all}
use Rattle.generalise_core.specs.Runs.{Answer, map_due, dues, PutsOut}
use Rattle.generalise_core.specs.Plans.{PlansFiles}
use Rattle.generalise_core.specs.Codes.{status_of, HasGrouping, MayEndAs}
use Rattle.cert_text.specs.declared.certificate.Certificate.{Certificate}
use Rattle.cert_text.specs.declared.certificate.CertStatus.{CertStatus}
use Rattle.cert_text.specs.declared.certificate.CertStatus.TheVariants.{Optimal, Within, Hopeless}
use Rattle.generalise_core.specs.declared.plan.Plan.{Plan}
use Rattle.generalise_core.specs.declared.status.Status.{Status}
use Rattle.generalise_core.specs.declared.status.Status.TheVariants as status
use Rattle.generalise_core.proofs.RunLemmas.{due_is}

-- an answer of that kind
abbrev pub OfKind : CertStatus → Answer → Type 0
OfKind kind a = (a.outcome.certificate.status ≡ kind) × AnswersProblem a.checked a.classes a.problem a.request.splits a.outcome

-- where the run ends so, an answer of that kind is put out
abbrev pub Stated : ShelfState → ShelfState → List (List ℕ) → Status → Type 0
Stated old new words result = (kind : CertStatus) → result ≡ status_of kind → PutsOut old new words (OfKind kind)

puts_weaker : (old new : ShelfState) (words : List (List ℕ)) (P Q : Answer → Type 0) → ((a : Answer) → P a → Q a) → PutsOut old new words P → PutsOut old new words Q
puts_weaker old new words P Q f puts = (puts.0, puts.1, puts.2, f puts.0 puts.3)

-- ---- a plan that is carried out

one_kind : (k kind : CertStatus) → status_of k ≡ status_of kind → k ≡ kind
one_kind Optimal Optimal e = refl
one_kind Optimal Within e = (cc)
one_kind Optimal Hopeless e = (cc)
one_kind Within Optimal e = (cc)
one_kind Within Within e = refl
one_kind Within Hopeless e = (cc)
one_kind Hopeless Optimal e = (cc)
one_kind Hopeless Within e = (cc)
one_kind Hopeless Hopeless e = refl

no_fault : (kind : CertStatus) → status_of kind ≢ status.WriteFault
no_fault Optimal e = (cc)
no_fault Within e = (cc)
no_fault Hopeless e = (cc)

no_memory : (kind : CertStatus) → status_of kind ≢ status.Memory
no_memory Optimal e = (cc)
no_memory Within e = (cc)
no_memory Hopeless e = (cc)

ends_so : (k kind : CertStatus) (result : Status) → MayEndAs (status_of k) result → result ≡ status_of kind → result ≡ status_of k
ends_so k kind result may e = elim may [
  | inl same ↦ same
  | inr other ↦ elim other [ inl fault ↦ absurd (no_fault kind (sym e ∙ fault)) | inr memory ↦ absurd (no_memory kind (sym e ∙ memory)) ]
]

all_put : (old between new : ShelfState) (words : List (List ℕ)) (r : Request) (plan : Plan)
    → Spells words r → PlansFiles old.files r plan → between ≡ old
    → new ≡ with_all between ((r.certificate, plan.certificate.items) ∷ map_due r.out (text_of plan.map)) plan.report.items
    → PutsOut old new words (OfKind plan.status)
all_put old between new words r plan spelled plans same is =
    let found = plans.answers in
    let answer : Answer = record { request = r; map = found.map; table = found.table; checked = found.answers.checked; classes = found.answers.classes; problem = found.answers.problem; outcome = plans.stated } in (
      answer,
      record { spelled = spelled; map_is = found.map_is; table_is = found.table_is; loads = found.answers.loads },
      subst (λ line. new ≡ with_all old (dues r plans.stated) line) plans.writes.report_is
          (subst (λ due. new ≡ with_all old due plan.report.items) (due_is r plan plans.stated plans.writes)
          (subst (λ s. new ≡ with_all s ((r.certificate, plan.certificate.items) ∷ map_due r.out (text_of plan.map)) plan.report.items) same is)),
      (sym plans.writes.status, found.answers.answers),
    )

pub stated : (old between new : ShelfState) (words : List (List ℕ)) (r : Request) (plan : Plan) (result : Status)
    → Spells words r → PlansFiles old.files r plan → between ≡ old → MayEndAs (status_of plan.status) result
    → (result ≡ status_of plan.status → new ≡ with_all between ((r.certificate, plan.certificate.items) ∷ map_due r.out (text_of plan.map)) plan.report.items)
    → Stated old new words result
stated old between new words r plan result spelled plans same may whole = λ kind e.
    let so = ends_so plan.status kind result may e in
    subst (λ k. PutsOut old new words (OfKind k)) (one_kind plan.status kind (sym so ∙ e)) (all_put old between new words r plan spelled plans same (whole so))

-- a run that ends otherwise has stated nothing
pub not_stated : (old new : ShelfState) (words : List (List ℕ)) (result : Status) → ((kind : CertStatus) → result ≢ status_of kind) → Stated old new words result
not_stated old new words result never = λ kind e. absurd (never kind e)

-- ---- word by word

with_grouping : (p : Problem) (n : ℕ) (s : Certificate) (kind : CertStatus) → States p n s → s.status ≡ kind → kind ≢ Hopeless → StatesGrouping p n s
with_grouping p n s kind states e some = elim states.1 [
  | inl grouping ↦ grouping
  | inr none ↦ absurd (some (sym e ∙ none.status))
]

abbrev pub OfGrouping : Answer → Type 0
OfGrouping a = StatesGrouping a.problem a.request.splits a.outcome.certificate × AnswersProblem a.checked a.classes a.problem a.request.splits a.outcome

of_kind : (kind : CertStatus) → kind ≢ Hopeless → (a : Answer) → OfKind kind a → OfGrouping a
of_kind kind some a is = (with_grouping a.problem a.request.splits a.outcome.certificate kind is.1.states is.0 some, is.1)

of_grouping : (old new : ShelfState) (words : List (List ℕ)) (result : Status) → Stated old new words result → HasGrouping result → PutsOut old new words OfGrouping
of_grouping old new words result all has = elim has [
  | inl done ↦ puts_weaker old new words _ _ (of_kind Optimal (λ e. (cc))) (all Optimal done)
  | inr within ↦ puts_weaker old new words _ _ (of_kind Within (λ e. (cc))) (all Within within)
]

pub feasible_of : (old new : ShelfState) (words : List (List ℕ)) (result : Status) → Stated old new words result → HasGrouping result
    → PutsOut old new words (λ a. IsFeasible a.problem a.outcome.certificate.grouping)
feasible_of old new words result all has = puts_weaker old new words OfGrouping _ (λ a is. is.0.feasible) (of_grouping old new words result all has)

pub cost_of : (old new : ShelfState) (words : List (List ℕ)) (result : Status) → Stated old new words result → HasGrouping result
    → PutsOut old new words (λ a. a.outcome.certificate.cost ≡ Some (cost a.problem a.outcome.certificate.grouping))
cost_of old new words result all has = puts_weaker old new words OfGrouping _ (λ a is. is.0.states_cost) (of_grouping old new words result all has)

pub bound_of : (old new : ShelfState) (words : List (List ℕ)) (result : Status) → Stated old new words result → HasGrouping result
    → PutsOut old new words (λ a. (b : ℤ) × (a.outcome.certificate.bound ≡ Some b) × ((g : Grouping) → IsFeasible a.problem g → b ≤ℤ cost a.problem g))
bound_of old new words result all has =
    puts_weaker old new words OfGrouping _ (λ a is. (is.0.bound, is.0.states_bound, is.0.is_bound)) (of_grouping old new words result all has)

pub optimal_of : (old new : ShelfState) (words : List (List ℕ)) (result : Status) → Stated old new words result → result ≡ status.Done
    → PutsOut old new words (λ a. a.outcome.certificate.bound ≡ a.outcome.certificate.cost)
optimal_of old new words result all e =
    puts_weaker old new words (OfKind Optimal) _ (λ a is.
    let g = with_grouping a.problem a.request.splits a.outcome.certificate Optimal is.1.states is.0 (λ x. (cc)) in
    let same : g.bound ≡ cost a.problem a.outcome.certificate.grouping = subst (IsStatusOf g.bound (cost a.problem a.outcome.certificate.grouping)) is.0 g.status in
    g.states_bound ∙ ap Some same ∙ sym g.states_cost) (all Optimal e)

pub within_of : (old new : ShelfState) (words : List (List ℕ)) (result : Status) → Stated old new words result → result ≡ status.Within
    → PutsOut old new words (λ a. (b c : ℤ) × (a.outcome.certificate.bound ≡ Some b) × (a.outcome.certificate.cost ≡ Some c) × (b <ℤ c))
within_of old new words result all e =
    puts_weaker old new words (OfKind Within) _ (λ a is.
    let g = with_grouping a.problem a.request.splits a.outcome.certificate Within is.1.states is.0 (λ x. (cc)) in
    (g.bound, cost a.problem a.outcome.certificate.grouping, g.states_bound, g.states_cost, subst (IsStatusOf g.bound (cost a.problem a.outcome.certificate.grouping)) is.0 g.status)) (all Within e)

pub spent_of : (old new : ShelfState) (words : List (List ℕ)) (result : Status) → Stated old new words result → result ≡ status.Within
    → PutsOut old new words (λ a. (b : ℤ) × (a.outcome.certificate.bound ≡ Some b) × IsUsedUp a.problem a.request.splits b a.outcome.certificate.tree)
spent_of old new words result all e =
    puts_weaker old new words (OfKind Within) _ (λ a is.
    let g = with_grouping a.problem a.request.splits a.outcome.certificate Within is.1.states is.0 (λ x. (cc)) in
    (g.bound, g.states_bound, used_up a g (g.spent is.0))) (all Within e)
  where
    used_up : (a : Answer) → (g : StatesGrouping a.problem a.request.splits a.outcome.certificate)
        → (split_count a.outcome.certificate.tree ≡ a.request.splits) ⊎ IsDeep a.problem (Least g.bound) a.outcome.certificate.tree g.proves.allowed 0
        → IsUsedUp a.problem a.request.splits g.bound a.outcome.certificate.tree
    used_up a g (inl all) = inl all
    used_up a g (inr deep) = inr (g.proves.allowed, g.proves.root, deep)

pub ascents_of : (old new : ShelfState) (words : List (List ℕ)) (result : Status) → Stated old new words result → HasGrouping result
    → PutsOut old new words (λ a. HasAscents a.problem a.request.splits a.outcome.certificate.tree)
ascents_of old new words result all has =
    puts_weaker old new words OfGrouping _ (λ a is. (is.0.share, is.0.proves.allowed, is.0.dealt, is.0.proves.root, is.0.ascents)) (of_grouping old new words result all has)

pub enough_of : (old new : ShelfState) (words : List (List ℕ)) (result : Status) → Stated old new words result → result ≡ status.Within
    → PutsOut old new words (λ a. ¬ HasEnough a.problem a.request.splits)
enough_of old new words result all e =
    puts_weaker old new words (OfKind Within) _ (λ a is enough.
    let g = with_grouping a.problem a.request.splits a.outcome.certificate Within is.1.states is.0 (λ x. (cc)) in
    let other : Within ≡ Optimal = sym is.0 ∙ g.enough enough in
    (cc)) (all Within e)

drawn_text : (c : Checked) (t : Table) (g : Grouping) (kind : CertStatus) (map : Option (List ℕ)) → kind ≢ Hopeless → IsDrawn c t g kind map
    → (text : List ℕ) × (map ≡ Some text) × IsDrawnMap (odds_of c.areas) g t.names c.frame text
drawn_text c t g Hopeless map some drawn = absurd (some refl)
drawn_text c t g Optimal None some drawn = absurd drawn
drawn_text c t g Optimal (Some text) some drawn = (text, refl, drawn)
drawn_text c t g Within None some drawn = absurd drawn
drawn_text c t g Within (Some text) some drawn = (text, refl, drawn)

union_at : (kind : CertStatus) → kind ≢ Hopeless → (a : Answer) → OfKind kind a
    → (text : List ℕ) × (a.outcome.map ≡ Some text) × IsDrawnMap (odds_of a.checked.areas) a.outcome.certificate.grouping a.classes.names a.checked.frame text
union_at kind some a is = drawn_text a.checked a.classes a.outcome.certificate.grouping kind a.outcome.map some (subst (λ k. IsDrawn a.checked a.classes a.outcome.certificate.grouping k a.outcome.map) is.0 is.1.drawn)

pub union_of : (old new : ShelfState) (words : List (List ℕ)) (result : Status) → Stated old new words result → HasGrouping result
    → PutsOut old new words (λ a. (text : List ℕ) × (a.outcome.map ≡ Some text) × IsDrawnMap (odds_of a.checked.areas) a.outcome.certificate.grouping a.classes.names a.checked.frame text)
union_of old new words result all has = elim has [
  | inl done ↦ puts_weaker old new words (OfKind Optimal) _ (union_at Optimal (λ e. (cc))) (all Optimal done)
  | inr within ↦ puts_weaker old new words (OfKind Within) _ (union_at Within (λ e. (cc))) (all Within within)
]

none_at : (a : Answer) → OfKind Hopeless a → (g : Grouping) → ¬ IsFeasible a.problem g
none_at a is = elim is.1.states.1 [
  | inl grouping ↦ absurd (subst (IsStatusOf grouping.bound (cost a.problem a.outcome.certificate.grouping)) is.0 grouping.status)
  | inr none ↦ none.none_feasible
]

pub none_of : (old new : ShelfState) (words : List (List ℕ)) (result : Status) → Stated old new words result → result ≡ status.Hopeless
    → PutsOut old new words (λ a. (g : Grouping) → ¬ IsFeasible a.problem g)
none_of old new words result all e = puts_weaker old new words (OfKind Hopeless) _ none_at (all Hopeless e)
