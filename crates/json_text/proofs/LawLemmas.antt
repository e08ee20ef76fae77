-- What holds of all bytes, given what characters are.
use Rattle.std.proofs.Common.{◌≡◌, ◌⊎◌, ◌<◌, ◌≤◌, ◌+◌, ℕ, refl, sym, ap, ◌∙◌, subst, inl, inr, arith, List, [], ◌∷◌, ◌++◌, length, append-nil, length-append, le_antisymm}
use Rattle.std.specs.Prelude.{Result, Ok, Err}
use Rattle.std.proofs.lemmas.Bool.{cases_lt}
use Rattle.json_text.specs.Tree.{Json}
use Rattle.json_text.specs.Spelling.{Spells}
use Rattle.json_text.specs.Faults.{IsSyntaxFault, IsDepthFault, IsFirstFault, IsTextOf}
use Rattle.json_text.specs.Steps.{Progress, step, run, nothing, finish, reading}
use Rattle.json_text.specs.declared.fault.JsonFault.{JsonFault}
use Rattle.json_text.specs.declared.fault.Stop.{Stop}
use Rattle.json_text.specs.declared.fault.Stop.TheVariants.{Bad, Deep, Memory}
use Rattle.json_text.proofs.CharacterFacts.{CharacterFacts}
use Rattle.json_text.proofs.BackSteps.{CompletesIt}
use Rattle.json_text.proofs.Places.{place_of}
use Rattle.json_text.proofs.Outcomes.{Outcome, Overflows, step_outcome}
use Rattle.json_text.proofs.Runs.{IsSteady, StopsAt, all_steps, stops_at}
use Rattle.json_text.proofs.Ahead.{Leads}
use Rattle.json_text.proofs.AheadRun.{step_on, run_on, finish_on, spelled_completes}
use Rattle.json_text.proofs.FaultLemmas.{steady_nothing, read_fault, read_tree}

-- ---- one value

-- with a limit as great as the bytes are many, a text is read
text_read : CharacterFacts → (bytes : List ℕ) (tree : Json) → Spells bytes tree → (q : Progress) × (run (length bytes) 0 bytes nothing ≡ Ok q) × (finish q ≡ Ok tree)
text_read facts bytes tree s = cases (run (length bytes) 0 bytes nothing) refl
  where
    never : (p : Progress) (b : ℕ) (rest : List ℕ) (stop : Stop) → IsSteady (length bytes) p → length p.stack < length bytes → step (length bytes) b p ≡ Err stop → CompletesIt p tree (b ∷ rest) → ⊥
    never p b rest Bad steady room e h = subst (λ (r : Result Progress Stop). Leads r tree rest) e (step_on facts (length bytes) b p tree rest steady h)
    never p b rest Memory steady room e h = subst (λ (r : Result Progress Stop). Leads r tree rest) e (step_on facts (length bytes) b p tree rest steady h)
    never p b rest Deep steady room e h =
        let over : Overflows (length bytes) (length p.stack) (place_of p.mode) b =
        subst (λ (r : Result Progress Stop). Outcome (length bytes) (length p.stack) (place_of p.mode) b r) e (step_outcome (length bytes) b p steady.goes_on) in
        let full = over.full in
        omega arith

    cases : (r : Result Progress JsonFault) → run (length bytes) 0 bytes nothing ≡ r → (q : Progress) × (run (length bytes) 0 bytes nothing ≡ Ok q) × (finish q ≡ Ok tree)
    cases (Ok q) e =
        let r = all_steps (length bytes) 0 bytes nothing q (steady_nothing (length bytes)) e in
        let whole : CompletesIt nothing tree (bytes ++ []) = subst (λ (bs : List ℕ). CompletesIt nothing tree bs) (sym (append-nil bytes)) (spelled_completes tree bytes s) in
        (q, e, finish_on (length bytes) q tree r.steady (run_on facts (length bytes) 0 bytes nothing q tree [] (steady_nothing (length bytes)) e whole))
    cases (Err fault) e =
        let a : StopsAt (length bytes) 0 bytes nothing fault = stops_at (length bytes) 0 bytes nothing fault e in
        let r = all_steps (length bytes) 0 a.front nothing a.state (steady_nothing (length bytes)) a.before in
        let whole : CompletesIt nothing tree (a.front ++ a.byte ∷ a.rest) = subst (λ (bs : List ℕ). CompletesIt nothing tree bs) a.parts (spelled_completes tree bytes s) in
        let due = run_on facts (length bytes) 0 a.front nothing a.state tree (a.byte ∷ a.rest) (steady_nothing (length bytes)) a.before whole in
        let room : length a.state.stack < length bytes = (
        let long : length bytes ≡ length (a.front ++ a.byte ∷ a.rest) = ap length a.parts in
        let sum = length-append a.front (a.byte ∷ a.rest) in
        let near : length a.state.stack ≤ 0 + length a.front = r.near in omega arith) in
        absurd (never a.state a.byte a.rest a.stop r.steady room a.stops due)

pub one_tree_text : CharacterFacts → (bytes : List ℕ) (t u : Json) → Spells bytes t → Spells bytes u → t ≡ u
one_tree_text facts bytes t u s also =
    let a = text_read facts bytes t s in
    let b = text_read facts bytes u also in
    let same : a.0 ≡ b.0 = (let run_a = a.1 in let run_b = b.1 in cc) in
    let read : finish a.0 ≡ Ok t = a.2 in
    let again : finish a.0 ≡ Ok u = ap finish same ∙ b.2 in
    cc

-- ---- one fault

same_place : (m n : ℕ) → (m < n → ⊥) → (n < m → ⊥) → m ≡ n
same_place m n less more = le_antisymm (elim (cases_lt n m) as (λ _. m ≤ n) [ inl h ↦ absurd (more h) | inr h ↦ h ]) (elim (cases_lt m n) as (λ _. n ≤ m) [ inl h ↦ absurd (less h) | inr h ↦ h ])

no_second_syntax : (bytes : List ℕ) (m n : ℕ) → IsSyntaxFault bytes m → IsSyntaxFault bytes n → m < n → ⊥
no_second_syntax bytes m n f g h = f.longest n h g.within g.begins

no_second_depth : (bytes : List ℕ) (m n : ℕ) → IsDepthFault bytes m → IsDepthFault bytes n → m < n → ⊥
no_second_depth bytes m n f g h = let here = g.first (m + 1) (omega arith) in let deep = f.deep in omega arith

-- a bracket or brace that is too deep has to stand before the place of a fault of the grammar, and behind it
not_both : (bytes : List ℕ) (m n : ℕ) → IsSyntaxFault bytes m → IsDepthFault bytes n → ⊥
not_both bytes m n f g = elim (cases_lt n m) as (λ _. ⊥) [
  | inl h ↦ (let here = f.shallow (n + 1) (omega arith) in let deep = g.deep in omega arith)
  | inr h ↦ f.longest (n + 1) (omega arith) (let within = g.within in omega arith) g.begins
]

pub one_first_fault : (bytes : List ℕ) (f g : JsonFault) → IsFirstFault bytes f → IsFirstFault bytes g → f ≡ g
one_first_fault bytes (JsonFault.Syntax m) (JsonFault.Syntax n) f g = ap (λ (at : ℕ). JsonFault.Syntax at) (same_place m n (no_second_syntax bytes m n f g) (no_second_syntax bytes n m g f))
one_first_fault bytes (JsonFault.TooDeep m) (JsonFault.TooDeep n) f g = ap (λ (at : ℕ). JsonFault.TooDeep at) (same_place m n (no_second_depth bytes m n f g) (no_second_depth bytes n m g f))
one_first_fault bytes (JsonFault.Syntax m) (JsonFault.TooDeep n) f g = absurd (not_both bytes m n f g)
one_first_fault bytes (JsonFault.TooDeep m) (JsonFault.Syntax n) f g = absurd (not_both bytes n m g f)
one_first_fault bytes JsonFault.Memory other f g = absurd f
one_first_fault bytes (JsonFault.Syntax m) JsonFault.Memory f g = absurd g
one_first_fault bytes (JsonFault.TooDeep m) JsonFault.Memory f g = absurd g

-- ---- one or the other

pub tree_no_fault : (bytes : List ℕ) (t : Json) (f : JsonFault) → IsTextOf bytes t → ¬ IsFirstFault bytes f
tree_no_fault bytes t (JsonFault.Syntax at) s f = f.no_tree t s.spelled
tree_no_fault bytes t (JsonFault.TooDeep at) s f = (let here = s.shallow (at + 1) (let within = f.within in omega arith) in let deep = f.deep in omega arith)
tree_no_fault bytes t JsonFault.Memory s f = f

pub some_answer : CharacterFacts → (bytes : List ℕ) → ((t : Json) × IsTextOf bytes t) ⊎ ((f : JsonFault) × IsFirstFault bytes f)
some_answer facts bytes = elim (reading bytes) as (λ r. reading bytes ≡ r → ((t : Json) × IsTextOf bytes t) ⊎ ((f : JsonFault) × IsFirstFault bytes f)) [
  | Ok t ↦ λ e. inl (t, read_tree facts bytes t e)
  | Err f ↦ λ e. inr (f, read_fault facts bytes f e)
] refl
