-- What is read is the text of a value, and the fault that is read is that of the bytes, given what characters are.
use Rattle.std.proofs.Common.{◌≡◌, ◌<◌, ◌≤◌, ◌+◌, ◌-◌, ℕ, suc, refl, sym, ap, ◌∙◌, subst, inl, inr, arith, List, [], ◌∷◌, ◌++◌, length, take, append_assoc, append-nil, length-append, Option, None, Some}
use Rattle.std.specs.Prelude.{Result, Ok, Err}
use Rattle.std.proofs.lemmas.List.{take-append-le}
use Rattle.std.proofs.Math.Seq.{take-append_seam, take-append-add, take-length}
use Rattle.json_text.specs.Tree.{Json}
use Rattle.json_text.specs.Spelling.{Spells}
use Rattle.json_text.specs.Faults.{IsGoodPrefix, IsShallow, IsSyntaxFault, IsDepthFault, IsFirstFault, IsTextOf, nesting}
use Rattle.json_text.specs.Steps.{Progress, step, run, nothing, root_of, end_mode, finish, ended, ended_run, fault_at, reading}
use Rattle.json_text.specs.declared.fault.JsonFault.{JsonFault}
use Rattle.json_text.specs.declared.fault.Stop.{Stop}
use Rattle.json_text.specs.declared.fault.Stop.TheVariants.{Bad, Deep, Memory}
use Rattle.json_text.proofs.CharacterFacts.{CharacterFacts}
use Rattle.json_text.proofs.Rooms.{Agrees, step_agrees}
use Rattle.json_text.proofs.BackSteps.{CompletesIt}
use Rattle.json_text.proofs.BackRun.{step_back}
use Rattle.json_text.proofs.BackTexts.{text_back}
use Rattle.json_text.proofs.Fitting.{nothing_fits}
use Rattle.json_text.proofs.Found.{run_back, completes_spells, found}
use Rattle.json_text.proofs.Places.{place_of}
use Rattle.json_text.proofs.Outcomes.{Outcome, Overflows, step_outcome}
use Rattle.json_text.proofs.Endings.{some_rest}
use Rattle.json_text.proofs.Runs.{IsSteady, IsRun, StopsAt, one_step, all_steps, stops_at}
use Rattle.json_text.proofs.Ahead.{Leads}
use Rattle.json_text.proofs.AheadRun.{step_on, run_on, finish_on, spelled_completes}

pub steady_nothing : (limit : ℕ) → IsSteady limit nothing
steady_nothing limit = record { fits = nothing_fits; goes_on = tt; within = omega arith }

-- a text of JSON begins with its own bytes
good_whole : (bytes : List ℕ) (tree : Json) → Spells bytes tree → IsGoodPrefix bytes
good_whole bytes tree s = record { rest = []; tree = tree; spelled = subst (λ (bs : List ℕ). Spells bs tree) (sym (append-nil bytes)) s }

-- ---- what begins a text

-- what is run through begins one
run_good : CharacterFacts → (limit at : ℕ) (front : List ℕ) (q : Progress) → run limit at front nothing ≡ Ok q → IsGoodPrefix front
run_good facts limit at front q e =
    let r = all_steps limit at front nothing q (steady_nothing limit) e in
    let s = some_rest facts q.mode q.token q.stack q.root r.steady.goes_on in
    let back = run_back (text_back facts.back) limit at front nothing q nothing_fits e in
    record { rest = s.rest; tree = s.tree; spelled = completes_spells s.tree (front ++ s.rest) (back.1 s.tree s.rest s.holds) }

-- so does a further byte, where a greater limit takes it
step_good : CharacterFacts → (limit more at : ℕ) (front : List ℕ) (b : ℕ) (q next : Progress) → run limit at front nothing ≡ Ok q → IsSteady more q → step more b q ≡ Ok next → IsGoodPrefix (front ++ b ∷ [])
step_good facts limit more at front b q next e steady f =
    let one = one_step more b q next steady f in
    let s = some_rest facts next.mode next.token next.stack next.root one.steady.goes_on in
    let here = step_back (text_back facts.back) more b q next s.tree s.rest steady.fits.0 f s.holds in
    let back = run_back (text_back facts.back) limit at front nothing q nothing_fits e in
    record {
      rest = s.rest;
      tree = s.tree;
      spelled = completes_spells s.tree ((front ++ b ∷ []) ++ s.rest) (subst (λ (bs : List ℕ). CompletesIt nothing s.tree bs) (sym (append_assoc front (b ∷ []) s.rest)) (back.1 s.tree (b ∷ s.rest) here));
    }

-- what can't be taken begins none
bad_front : CharacterFacts → (limit at : ℕ) (front : List ℕ) (b : ℕ) (q : Progress) (rest : List ℕ) → run limit at front nothing ≡ Ok q → step limit b q ≡ Err Bad → ¬ (IsGoodPrefix (front ++ b ∷ rest))
bad_front facts limit at front b q rest e f g =
    let r = all_steps limit at front nothing q (steady_nothing limit) e in
    let whole : CompletesIt nothing g.tree (front ++ (b ∷ (rest ++ g.rest))) =
    subst (λ (bs : List ℕ). CompletesIt nothing g.tree bs) (append_assoc front (b ∷ rest) g.rest) (spelled_completes g.tree ((front ++ b ∷ rest) ++ g.rest) g.spelled) in
    let due = run_on facts limit at front nothing q g.tree (b ∷ (rest ++ g.rest)) (steady_nothing limit) e whole in
    subst (λ (s : Result Progress Stop). Leads s g.tree (rest ++ g.rest)) f (step_on facts limit b q g.tree (rest ++ g.rest) r.steady due)

-- ---- how deep the bytes nest

front_shallow : (front rest : List ℕ) (q : Progress) → IsRun 64 front nothing q → IsShallow (front ++ rest) (length front)
front_shallow front rest q r k h = subst (λ (bs : List ℕ). nesting bs ≤ 64) (sym (take-append-le k front rest h)) (r.shallow k)

whole_shallow : (bytes : List ℕ) (q : Progress) → IsRun 64 bytes nothing q → IsShallow bytes (length bytes)
whole_shallow bytes q r k h = r.shallow k

-- ---- the fault of a byte

bad_fault : CharacterFacts → (front : List ℕ) (b : ℕ) (rest : List ℕ) (q : Progress) → run 64 0 front nothing ≡ Ok q → step 64 b q ≡ Err Bad → IsSyntaxFault (front ++ b ∷ rest) (length front)
bad_fault facts front b rest q e f = record {
  no_tree = λ tree s. bad_front facts 64 0 front b q rest e f (good_whole (front ++ b ∷ rest) tree s);
  within = (let long = length-append front (b ∷ rest) in omega arith);
  begins = subst IsGoodPrefix (sym (take-append_seam front (b ∷ rest))) (run_good facts 64 0 front q e);
  longest = longer;
  shallow = front_shallow front (b ∷ rest) q (all_steps 64 0 front nothing q (steady_nothing 64) e);
}
  where
    longer : (k : ℕ) → length front < k → k ≤ length (front ++ b ∷ rest) → ¬ (IsGoodPrefix (take k (front ++ b ∷ rest)))
    longer k more within good =
        let m : ℕ = k - length front - 1 in
        let count : k ≡ length front + suc m = omega arith in
        let parts : take k (front ++ b ∷ rest) ≡ front ++ b ∷ take m rest = ap (λ (n : ℕ). take n (front ++ b ∷ rest)) count ∙ take-append-add front (b ∷ rest) (suc m) in
        bad_front facts 64 0 front b q (take m rest) e f (subst IsGoodPrefix parts good)

-- a limit of one more lets it in
opened : (b : ℕ) (q : Progress) → IsSteady 64 q → step 64 b q ≡ Err Deep → (next : Progress) × (step 65 b q ≡ Ok next)
opened b q s f = cases (step 65 b q) refl (step_agrees 64 65 (omega arith) b q) (step_outcome 65 b q s.goes_on)
  where
    cases : (r : Result Progress Stop) → step 65 b q ≡ r → Agrees (step 64 b q) r → Outcome 65 (length q.stack) (place_of q.mode) b r → (next : Progress) × (step 65 b q ≡ Ok next)
    cases (Ok next) e agrees out = (next, e)
    cases (Err Deep) e agrees out = absurd (let room = s.within in let full = out.full in omega arith)
    cases (Err Bad) e (inl agrees) out = absurd agrees.1
    cases (Err Bad) e (inr agrees) out = absurd (let bad : Err Deep ≡ Err Bad = sym f ∙ agrees in cc)
    cases (Err Memory) e agrees out = absurd out

deep_fault : CharacterFacts → (front : List ℕ) (b : ℕ) (rest : List ℕ) (q : Progress) → run 64 0 front nothing ≡ Ok q → step 64 b q ≡ Err Deep → IsDepthFault (front ++ b ∷ rest) (length front)
deep_fault facts front b rest q e f =
    let r = all_steps 64 0 front nothing q (steady_nothing 64) e in
    let over : Overflows 64 (length q.stack) (place_of q.mode) b =
    subst (λ (s : Result Progress Stop). Outcome 64 (length q.stack) (place_of q.mode) b s) f (step_outcome 64 b q r.steady.goes_on) in
    let next = opened b q r.steady f in
    let parts : take (length front + 1) (front ++ b ∷ rest) ≡ front ++ b ∷ [] = take-append-add front (b ∷ rest) 1 in
    let wider : IsSteady 65 q = record { fits = r.steady.fits; goes_on = r.steady.goes_on; within = (let room = r.steady.within in omega arith) } in
    let full : length q.stack + 1 ≡ 65 = (let room = r.steady.within in let all = over.full in omega arith) in
    record {
      within = (let long = length-append front (b ∷ rest) in omega arith);
      begins = subst IsGoodPrefix (sym parts) (step_good facts 64 65 0 front b q next.0 e wider next.1);
      deep = ap nesting parts ∙ r.counts (b ∷ []) ∙ over.counts [] ∙ full;
      first = front_shallow front (b ∷ rest) q r;
    }

-- the fault of the byte at which a run stops
stop_fault : CharacterFacts → (front : List ℕ) (b : ℕ) (rest : List ℕ) (q : Progress) (stop : Stop) → run 64 0 front nothing ≡ Ok q → step 64 b q ≡ Err stop → IsFirstFault (front ++ b ∷ rest) (fault_at (length front) stop)
stop_fault facts front b rest q Bad e f = bad_fault facts front b rest q e f
stop_fault facts front b rest q Deep e f = deep_fault facts front b rest q e f
stop_fault facts front b rest q Memory e f =
    let r = all_steps 64 0 front nothing q (steady_nothing 64) e in
    subst (λ (s : Result Progress Stop). Outcome 64 (length q.stack) (place_of q.mode) b s) f (step_outcome 64 b q r.steady.goes_on)

-- ---- the fault of bytes that end too early

no_root : (root : Option Json) (stop : Stop) → root_of root ≡ Err stop → stop ≡ Bad
no_root None stop e = cc
no_root (Some tree) stop e = cc

early : (p : Progress) (stop : Stop) → finish p ≡ Err stop → stop ≡ Bad
unfolding finish
early p stop e = no_root (end_mode p.mode p).root stop e

early_fault : CharacterFacts → (bytes : List ℕ) (q : Progress) (stop : Stop) → run 64 0 bytes nothing ≡ Ok q → finish q ≡ Err stop → IsSyntaxFault bytes (length bytes)
early_fault facts bytes q stop e f = record {
  no_tree = none;
  within = omega arith;
  begins = subst IsGoodPrefix (sym (take-length bytes)) (run_good facts 64 0 bytes q e);
  longest = λ k more within. absurd (omega arith);
  shallow = whole_shallow bytes q run_is;
}
  where
    run_is : IsRun 64 bytes nothing q
    run_is = all_steps 64 0 bytes nothing q (steady_nothing 64) e

    none : (tree : Json) → ¬ (Spells bytes tree)
    none tree s =
        let whole : CompletesIt nothing tree (bytes ++ []) = subst (λ (bs : List ℕ). CompletesIt nothing tree bs) (sym (append-nil bytes)) (spelled_completes tree bytes s) in
        let ends : finish q ≡ Ok tree = finish_on 64 q tree run_is.steady (run_on facts 64 0 bytes nothing q tree [] (steady_nothing 64) e whole) in
        let bad : Ok tree ≡ Err stop = sym ends ∙ f in cc

-- ---- what is read

the_fault : (f g : JsonFault) (r : Result Json JsonFault) → r ≡ Err f → r ≡ Err g → f ≡ g
the_fault f g r e h = cc

-- a fault that is read is that of the bytes
pub read_fault : CharacterFacts → (bytes : List ℕ) (fault : JsonFault) → reading bytes ≡ Err fault → IsFirstFault bytes fault
unfolding reading
read_fault facts bytes fault e = cases (run 64 0 bytes nothing) refl e
  where
    ends : (q : Progress) (r : Result Json Stop) → run 64 0 bytes nothing ≡ Ok q → finish q ≡ r → ended (length bytes) r ≡ Err fault → IsFirstFault bytes fault
    ends q (Ok tree) g h k = absurd (let bad : ended (length bytes) (Ok tree) ≡ Err fault = k in cc)
    ends q (Err stop) g h k =
        let same : fault_at (length bytes) Bad ≡ fault = ap (λ (s : Stop). fault_at (length bytes) s) (sym (early q stop h)) ∙ the_fault (fault_at (length bytes) stop) fault (ended (length bytes) (Err stop)) refl k in
        subst (λ (f : JsonFault). IsFirstFault bytes f) same (early_fault facts bytes q stop g h)

    cases : (r : Result Progress JsonFault) → run 64 0 bytes nothing ≡ r → ended_run (length bytes) r ≡ Err fault → IsFirstFault bytes fault
    cases (Ok q) g k = ends q (finish q) g refl k
    cases (Err other) g k =
        let s : StopsAt 64 0 bytes nothing other = stops_at 64 0 bytes nothing other g in
        let start : 0 + length s.front ≡ length s.front = omega arith in
        let same : fault_at (length s.front) s.stop ≡ fault =
        ap (λ (n : ℕ). fault_at n s.stop) (sym start) ∙ sym s.fault_is ∙ the_fault other fault (ended_run (length bytes) (Err other)) refl k in
        subst (λ (f : JsonFault). IsFirstFault bytes f) same
        (subst (λ (bs : List ℕ). IsFirstFault bs (fault_at (length s.front) s.stop)) (sym s.parts) (stop_fault facts s.front s.byte s.rest s.state s.stop s.before s.stops))

-- what is read is the text of that value
pub read_tree : CharacterFacts → (bytes : List ℕ) (tree : Json) → reading bytes ≡ Ok tree → IsTextOf bytes tree
unfolding reading
read_tree facts bytes tree e = record { spelled = found facts.back bytes tree e; shallow = cases (run 64 0 bytes nothing) refl e }
  where
    cases : (r : Result Progress JsonFault) → run 64 0 bytes nothing ≡ r → ended_run (length bytes) r ≡ Ok tree → IsShallow bytes (length bytes)
    cases (Ok q) g k = whole_shallow bytes q (all_steps 64 0 bytes nothing q (steady_nothing 64) g)
    cases (Err fault) g k = absurd (let bad : ended_run (length bytes) (Err fault) ≡ Ok tree = k in cc)
