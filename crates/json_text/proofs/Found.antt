-- What is read is spelled so, given what whole characters are.
use Rattle.std.proofs.Common.{◌≡◌, ℕ, ◌+◌, refl, sym, ap, ◌∙◌, subst, inl, inr, List, [], ◌∷◌, ◌++◌, length, append-nil, Option, None, Some}
use Rattle.std.specs.Prelude.{Result, Ok, Err}
use Rattle.json_text.specs.Tree.{Json, Number}
use Rattle.json_text.specs.NumberSteps.{is_whole}
use Rattle.json_text.specs.Spelling.{SpellsBare, SpellsValue, Spells}
use Rattle.json_text.specs.Stacks.{Opened}
use Rattle.json_text.specs.Steps.{Progress, root_with, step, and_then, run, nothing, root_of, end_mode, finish, ended, ended_run, reading}
use Rattle.json_text.specs.declared.mode.Mode.{Mode}
use Rattle.json_text.specs.declared.fault.JsonFault.{JsonFault}
use Rattle.json_text.specs.declared.fault.Stop.{Stop}
use Rattle.json_text.proofs.Cases.{by_cases_of}
use Rattle.json_text.proofs.Completion.{Completes, Closes, Stands, ValueDue}
use Rattle.json_text.proofs.BackMembers.{number_ended}
use Rattle.json_text.proofs.BackSteps.{CompletesIt, moved}
use Rattle.json_text.proofs.BackRun.{TextBack, step_back}
use Rattle.json_text.proofs.BackTexts.{DueBack, text_back}
use Rattle.json_text.proofs.Fitting.{HasEnded, FitsIt, step_fits, nothing_fits}

no_root : {P : Type 0} (root : Option Json) (tree : Json) → root ≡ None → root_of root ≡ Ok tree → P
no_root None tree e h = cc
no_root (Some value) tree e h = cc

the_root : (root : Option Json) (tree : Json) → root_of root ≡ Ok tree → root ≡ Some tree
the_root None tree h = cc
the_root (Some value) tree h = cc

after_end : (stack : List Opened) (root : Option Json) (tree : Json) → HasEnded Mode.After stack root → root_of root ≡ Ok tree → Stands stack root tree []
after_end [] root tree f h = (tt, the_root root tree h)
after_end (inner ∷ outer) root tree f h = no_root root tree f h

value_end : (value : Json) (stack : List Opened) (root : Option Json) (tree : Json) → root ≡ None → root_of (root_with value stack root) ≡ Ok tree → Closes stack value tree []
value_end value [] root tree f h = (tt, let same : Some value ≡ Some tree = the_root (Some value) tree h in cc)
value_end value (inner ∷ outer) root tree f h = no_root root tree f h

finish_in : (mode : Mode) (p : Progress) (tree : Json) → HasEnded mode p.stack p.root → root_of (end_mode mode p).root ≡ Ok tree → Completes mode p.token p.stack p.root tree []
finish_in Mode.After p tree f h = after_end p.stack p.root tree f h
finish_in (Mode.Number digits) p tree f h =
    by_cases_of (is_whole digits) _
    (λ e. let r : root_of (root_with (Number p.token) p.stack p.root) ≡ Ok tree = sym (rw e refl) ∙ h in
    number_ended digits p.token p.stack tree [] e (value_end (Number p.token) p.stack p.root tree f r))
    (λ e. let r : root_of p.root ≡ Ok tree = sym (rw e refl) ∙ h in no_root p.root tree f r)
finish_in Mode.Start p tree f h = no_root p.root tree f h
finish_in Mode.Mark p tree f h = no_root p.root tree f h
finish_in Mode.MarkEnd p tree f h = no_root p.root tree f h
finish_in Mode.Value p tree f h = no_root p.root tree f h
finish_in Mode.FirstItem p tree f h = no_root p.root tree f h
finish_in Mode.FirstName p tree f h = no_root p.root tree f h
finish_in Mode.Name p tree f h = no_root p.root tree f h
finish_in Mode.Colon p tree f h = no_root p.root tree f h
finish_in (Mode.Word word done) p tree f h = no_root p.root tree f h
finish_in (Mode.Text part) p tree f h = no_root p.root tree f h

finish_back : (p : Progress) (tree : Json) → FitsIt p → finish p ≡ Ok tree → CompletesIt p tree []
unfolding finish
finish_back p tree f h = finish_in p.mode p tree f.1 h

-- what bytes lead from one state to another complete the first where nothing more completes the other
pub run_back : TextBack → (limit at : ℕ) (bytes : List ℕ) (p q : Progress) → FitsIt p → run limit at bytes p ≡ Ok q → FitsIt q × ((tree : Json) (rest : List ℕ) → CompletesIt q tree rest → CompletesIt p tree (bytes ++ rest))
run_back text limit at [] p q f e =
    let same : p ≡ q = cc in (subst FitsIt same f, λ tree rest h. moved p q tree rest same h)
run_back text limit at (b ∷ bytes) p q f e = cases (λ next g k. run_back text limit (at + 1) bytes next q g k) (step limit b p) refl e
  where
    cases : ((next : Progress) → FitsIt next → run limit (at + 1) bytes next ≡ Ok q → FitsIt q × ((tree : Json) (rest : List ℕ) → CompletesIt q tree rest → CompletesIt next tree (bytes ++ rest))) →
        (r : Result Progress Stop) → step limit b p ≡ r → and_then at r (λ next. run limit (at + 1) bytes next) ≡ Ok q →
        FitsIt q × ((tree : Json) (rest : List ℕ) → CompletesIt q tree rest → CompletesIt p tree (b ∷ (bytes ++ rest)))
    cases further (Ok next) g k =
        let more = further next (step_fits limit b p next f g) k in
        (more.0, λ tree rest h. step_back text limit b p next tree (bytes ++ rest) f.0 g (more.1 tree rest h))
    cases further (Err stop) g k = absurd (let bad : and_then at (Err stop) (λ next. run limit (at + 1) bytes next) ≡ Ok q = k in cc)

value_spells : (tree : Json) (bytes : List ℕ) → ValueDue [] tree bytes → SpellsValue tree bytes
value_spells tree bytes v = record {
  before = v.space;
  bare = v.bare;
  after = v.behind;
  space_before = v.is_space;
  space_after = v.next.0;
  parts = v.parts;
  spelled = subst (λ (value : Json). SpellsBare value v.bare) v.next.1 v.spelled;
}

-- what completes nothing is a text
pub completes_spells : (tree : Json) (bytes : List ℕ) → CompletesIt nothing tree bytes → Spells bytes tree
completes_spells tree bytes h = elim h as (λ _. Spells bytes tree) [
  | inl m ↦ record { mark = 239 ∷ 187 ∷ 191 ∷ []; value = m.behind; mark_is = inr refl; spelled = value_spells tree m.behind m.next; parts = m.parts }
  | inr v ↦ record { mark = []; value = bytes; mark_is = inl refl; spelled = value_spells tree bytes v; parts = refl }
]

abbrev as_ok : Json → Result Json Stop
as_ok value = Ok value

ended_ok : (at : ℕ) (r : Result Json Stop) (tree : Json) → ended at r ≡ Ok tree → r ≡ Ok tree
ended_ok at (Ok value) tree e = ap as_ok (let same : value ≡ tree = cc in same)
ended_ok at (Err stop) tree e = cc

pub found : DueBack → (bytes : List ℕ) (tree : Json) → reading bytes ≡ Ok tree → Spells bytes tree
unfolding reading
found due bytes tree e = cases (run 64 0 bytes nothing) refl e
  where
    cases : (r : Result Progress JsonFault) → run 64 0 bytes nothing ≡ r → ended_run (length bytes) r ≡ Ok tree → Spells bytes tree
    cases (Ok q) g k =
        let back = run_back (text_back due) 64 0 bytes nothing q nothing_fits g in
        let whole : CompletesIt nothing tree (bytes ++ []) = back.1 tree [] (finish_back q tree back.0 (ended_ok (length bytes) (finish q) tree k)) in
        completes_spells tree bytes (subst (λ (bs : List ℕ). CompletesIt nothing tree bs) (append-nil bytes) whole)
    cases (Err fault) g k = absurd (let bad : ended_run (length bytes) (Err fault) ≡ Ok tree = k in cc)
