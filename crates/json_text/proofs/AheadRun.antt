-- Bytes that complete a state are run through, unless they open more than the limit.
use Rattle.std.proofs.Common.{◌≡◌, ◌<◌, ◌+◌, ℕ, zero, suc, refl, sym, ap, ◌∙◌, subst, inl, inr, arith, true, false, List, [], ◌∷◌, ◌++◌, length, drop, append-nil, Option, Some}
use Rattle.std.specs.Prelude.{Result, Ok}
use Rattle.json_text.specs.Tree.{Json, Null, Truth, Number, Str, Array, Object}
use Rattle.json_text.specs.Spelling.{IsMark, SpellsText, SpellsBare, SpellsValue, Spells}
use Rattle.json_text.specs.NumberSteps.{is_whole}
use Rattle.json_text.specs.Modes.{word_text}
use Rattle.json_text.specs.Stacks.{Opened, a_list, some_members, a_name}
use Rattle.json_text.specs.Steps.{Progress, go, step_in, step, run, nothing, root_of, root_with, end_mode, finish}
use Rattle.json_text.specs.declared.mode.Mode.{Mode}
use Rattle.json_text.specs.declared.fault.Stop.{Stop}
use Rattle.json_text.proofs.NumberLemmas.{json_from}
use Rattle.json_text.proofs.NumberRuns.{accepts, accepts_all, of_all}
use Rattle.json_text.proofs.Completion.{Completes, Closes, Stands, ValueDue, MarkDue}
use Rattle.json_text.proofs.CharacterFacts.{CharacterFacts}
use Rattle.json_text.proofs.BackSteps.{CompletesIt}
use Rattle.json_text.proofs.BackRun.{Fits}
use Rattle.json_text.proofs.Outcomes.{GoesOn}
use Rattle.json_text.proofs.Runs.{IsSteady, one_step, then_ok}
use Rattle.json_text.proofs.Ahead.{Leads, leads_at, after_on}
use Rattle.json_text.proofs.AheadModes.{value_on, first_item_on, first_name_on, name_on, colon_on, start_on, mark_on, mark_done, number_on, word_on}
use Rattle.json_text.proofs.AheadTexts.{text_on}

-- ---- each byte

step_in_on : CharacterFacts → (limit : ℕ) (mode : Mode) (b : ℕ) (p : Progress) (tree : Json) (rest : List ℕ) → Fits mode p.stack → GoesOn mode p.stack p.root → Completes mode p.token p.stack p.root tree (b ∷ rest) →
    Leads (step_in limit mode b (go mode p)) tree rest
step_in_on facts limit (Mode.Text part) b p tree rest f g h = text_on facts b part (go (Mode.Text part) p) tree rest h
step_in_on facts limit (Mode.Number digits) b p tree rest f g h = number_on limit b digits (go (Mode.Number digits) p) tree rest h
step_in_on facts limit (Mode.Word word done) b p tree rest f g h = word_on b word done (go (Mode.Word word done) p) tree rest g h
step_in_on facts limit Mode.Start b p tree rest f g h = start_on limit b p tree rest f h
step_in_on facts limit Mode.Mark b p tree rest f g h =
    let t = mark_on 187 b (191 ∷ []) Mode.MarkEnd p tree rest (λ m. m) h in leads_at (λ (x : ℕ). step_in limit Mode.Mark x (go Mode.Mark p)) b 187 tree rest t.0 t.1
step_in_on facts limit Mode.MarkEnd b p tree rest f g h =
    let t = mark_on 191 b [] Mode.Value p tree rest (mark_done p.stack tree rest) h in leads_at (λ (x : ℕ). step_in limit Mode.MarkEnd x (go Mode.MarkEnd p)) b 191 tree rest t.0 t.1
step_in_on facts limit Mode.Value b p tree rest f g h = value_on limit b p tree rest f h
step_in_on facts limit Mode.FirstItem b p tree rest f g h = first_item_on limit b p tree rest f h
step_in_on facts limit Mode.FirstName b p tree rest f g h = first_name_on limit b p tree rest f h
step_in_on facts limit Mode.Name b p tree rest f g h = name_on limit b p tree rest f h
step_in_on facts limit Mode.Colon b p tree rest f g h = colon_on limit b p tree rest h
step_in_on facts limit Mode.After b p tree rest f g h = after_on limit b p.token p.stack p.root tree rest h

pub step_on : CharacterFacts → (limit b : ℕ) (p : Progress) (tree : Json) (rest : List ℕ) → IsSteady limit p → CompletesIt p tree (b ∷ rest) → Leads (step limit b p) tree rest
unfolding step
step_on facts limit b p tree rest s h = step_in_on facts limit p.mode b p tree rest s.fits.0 s.goes_on h

-- what completes the first state completes the second with what is left
pub run_on : CharacterFacts → (limit at : ℕ) (bytes : List ℕ) (p q : Progress) (tree : Json) (rest : List ℕ) → IsSteady limit p → run limit at bytes p ≡ Ok q → CompletesIt p tree (bytes ++ rest) → CompletesIt q tree rest
run_on facts limit at [] p q tree rest s e h = subst (λ (state : Progress). CompletesIt state tree rest) (let same : p ≡ q = cc in same) h
run_on facts limit at (b ∷ bytes) p q tree rest s e h =
    let t = then_ok at (step limit b p) (λ next. run limit (at + 1) bytes next) q e in
    let first = one_step limit b p t.0 s t.1 in
    run_on facts limit (at + 1) bytes t.0 q tree rest first.steady t.2
    (subst (λ (r : Result Progress Stop). Leads r tree (bytes ++ rest)) t.1 (step_on facts limit b p tree (bytes ++ rest) s h))

-- ---- the end

no_byte : (xs : List ℕ) (c : ℕ) (ys : List ℕ) → [] ≡ xs ++ c ∷ ys → ⊥
no_byte [] c ys e = cc
no_byte (x ∷ xs) c ys e = cc

no_bytes : (ws xs : List ℕ) (c : ℕ) (ys : List ℕ) → [] ≡ ws ++ (xs ++ c ∷ ys) → ⊥
no_bytes [] xs c ys e = no_byte xs c ys e
no_bytes (w ∷ ws) xs c ys e = cc

both_empty : (xs ys : List ℕ) → [] ≡ xs ++ ys → (xs ≡ []) × (ys ≡ [])
both_empty [] ys e = (refl, sym e)
both_empty (x ∷ xs) ys e = absurd (let bad : [] ≡ x ∷ (xs ++ ys) = e in cc)

-- a value has a byte
no_value : (value : Json) → SpellsBare value [] → ⊥
no_value Null s = cc
no_value (Truth true) s = cc
no_value (Truth false) s = cc
no_value (Number number) s = let test : accepts_all number ≡ true = of_all number ∙ json_from number s.1 in let bad : false ≡ true = ap accepts_all s.0 ∙ test in cc
no_value (Str bytes) s = (let bad : [] ≡ 34 ∷ (s.inner ++ 34 ∷ []) = s.parts in cc)
no_value (Array items) s = (let bad : [] ≡ 91 ∷ (s.inner ++ 93 ∷ []) = s.parts in cc)
no_value (Object named) s = (let bad : [] ≡ 123 ∷ (s.inner ++ 125 ∷ []) = s.parts in cc)

value_left : (stack : List Opened) (tree : Json) → ValueDue stack tree [] → ⊥
value_left stack tree v =
    let e = both_empty v.space (v.bare ++ v.behind) v.parts in
    let f = both_empty v.bare v.behind (sym e.1) in
    no_value v.value (subst (λ (bare : List ℕ). SpellsBare v.value bare) f.0 v.spelled)

mark_left : (mark : List ℕ) (stack : List Opened) (tree : Json) → MarkDue mark stack tree [] → ⊥
mark_left mark stack tree v = value_left stack tree (subst (λ (bs : List ℕ). ValueDue stack tree bs) (both_empty mark v.behind v.parts).1 v.next)

-- a value stands alone where nothing is behind it
closes_alone : (stack : List Opened) (value tree : Json) (root : Option Json) → Closes stack value tree [] → root_of (root_with value stack root) ≡ Ok tree
closes_alone [] value tree root v = ap (λ (t : Json). root_of (Some t)) v.1
closes_alone (a_list trees ∷ outer) value tree root v = absurd (no_bytes v.space v.text 93 v.behind v.parts)
closes_alone (some_members pairs ∷ outer) value tree root v = absurd (no_bytes v.space v.text 125 v.behind v.parts)
closes_alone (a_name pairs name ∷ outer) value tree root v = absurd (no_bytes v.space v.text 125 v.behind v.parts)

stands_alone : (stack : List Opened) (root : Option Json) (tree : Json) → Stands stack root tree [] → root_of root ≡ Ok tree
stands_alone [] root tree v = ap root_of v.1
stands_alone (a_list trees ∷ outer) root tree v = absurd (no_bytes v.space v.text 93 v.behind v.parts)
stands_alone (some_members pairs ∷ outer) root tree v = absurd (no_bytes v.space v.text 125 v.behind v.parts)
stands_alone (a_name pairs name ∷ outer) root tree v = absurd v

no_text : (name text : List ℕ) → SpellsText name text → text ≡ [] → ⊥
no_text name text s e = (let bad : [] ≡ 34 ∷ (s.inner ++ 34 ∷ []) = sym e ∙ s.parts in cc)

long_left : (n : ℕ) (xs : List ℕ) → n < length xs → drop n xs ≡ [] → ⊥
long_left zero [] h e = omega arith
long_left zero (x ∷ xs) h e = cc
long_left (suc n) [] h e = omega arith
long_left (suc n) (x ∷ xs) h e = long_left n xs (omega arith) e

finish_in_on : (mode : Mode) (p : Progress) (tree : Json) → GoesOn mode p.stack p.root → Completes mode p.token p.stack p.root tree [] → root_of (end_mode mode p).root ≡ Ok tree
finish_in_on Mode.After p tree g h = stands_alone p.stack p.root tree h
finish_in_on (Mode.Number digits) p tree g h =
    let e = both_empty h.tail h.behind h.parts in
    let whole : is_whole digits ≡ true = subst (λ (tail : List ℕ). accepts tail digits ≡ true) e.0 h.is_tail in
    let next : Closes p.stack (Number p.token) tree [] =
    subst (λ (xs : List ℕ). Closes p.stack (Number xs) tree []) (append-nil p.token)
    (subst (λ (bs : List ℕ). Closes p.stack (Number (p.token ++ [])) tree bs) e.1 (subst (λ (tail : List ℕ). Closes p.stack (Number (p.token ++ tail)) tree h.behind) e.0 h.next)) in
    rw whole (closes_alone p.stack (Number p.token) tree p.root next)
finish_in_on Mode.Start p tree g (inl v) = absurd (mark_left (239 ∷ 187 ∷ 191 ∷ []) p.stack tree v)
finish_in_on Mode.Start p tree g (inr v) = absurd (value_left p.stack tree v)
finish_in_on Mode.Mark p tree g h = absurd (mark_left (187 ∷ 191 ∷ []) p.stack tree h)
finish_in_on Mode.MarkEnd p tree g h = absurd (mark_left (191 ∷ []) p.stack tree h)
finish_in_on Mode.Value p tree g h = absurd (value_left p.stack tree h)
finish_in_on Mode.FirstItem p tree g (inl v) = absurd (no_byte v.space 93 v.behind v.parts)
finish_in_on Mode.FirstItem p tree g (inr v) = absurd (value_left p.stack tree v)
finish_in_on Mode.FirstName p tree g (inl v) = absurd (no_byte v.space 125 v.behind v.parts)
finish_in_on Mode.FirstName p tree g (inr v) = absurd (no_text v.name v.text v.spelled (both_empty v.text v.behind (sym (both_empty v.space (v.text ++ v.behind) v.parts).1)).0)
finish_in_on Mode.Name p tree g v = absurd (no_text v.name v.text v.spelled (both_empty v.text v.behind (sym (both_empty v.space (v.text ++ v.behind) v.parts).1)).0)
finish_in_on Mode.Colon p tree g v = absurd (no_byte v.space 58 v.behind v.parts)
finish_in_on (Mode.Word word done) p tree g h = absurd (long_left done (word_text word) g (sym h.is_tail ∙ (both_empty h.tail h.behind h.parts).0))
finish_in_on (Mode.Text part) p tree g v = absurd (no_byte v.text 34 v.behind v.parts)

-- a state that nothing more completes is a text's end
pub finish_on : (limit : ℕ) (p : Progress) (tree : Json) → IsSteady limit p → CompletesIt p tree [] → finish p ≡ Ok tree
unfolding finish
finish_on limit p tree s h = finish_in_on p.mode p tree s.goes_on h

-- ---- whole texts

value_completes : (tree : Json) (bytes : List ℕ) → SpellsValue tree bytes → ValueDue [] tree bytes
value_completes tree bytes s = record {
  space = s.before;
  value = tree;
  bare = s.bare;
  behind = s.after;
  is_space = s.space_before;
  spelled = s.spelled;
  next = (s.space_after, refl);
  parts = s.parts;
}

mark_completes : (tree : Json) (bytes mark value : List ℕ) → IsMark mark → SpellsValue tree value → bytes ≡ mark ++ value → CompletesIt nothing tree bytes
mark_completes tree bytes mark value (inl e) s parts = inr (subst (λ (bs : List ℕ). ValueDue [] tree bs) (sym (parts ∙ ap (λ (xs : List ℕ). xs ++ value) e)) (value_completes tree value s))
mark_completes tree bytes mark value (inr e) s parts = inl (record { behind = value; next = value_completes tree value s; parts = parts ∙ ap (λ (xs : List ℕ). xs ++ value) e })

-- a text completes what begins with nothing
pub spelled_completes : (tree : Json) (bytes : List ℕ) → Spells bytes tree → CompletesIt nothing tree bytes
spelled_completes tree bytes s = mark_completes tree bytes s.mark s.value s.mark_is s.spelled s.parts
