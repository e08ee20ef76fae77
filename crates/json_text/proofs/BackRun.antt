-- What has been run through spells what it was completed to, given the same of each byte of a text in quotes.
use Rattle.std.proofs.Common.{◌≡◌, ◌⊎◌, ℕ, refl, sym, ap, ◌∙◌, inl, inr, true, false, cond, ◌==◌, List, [], ◌∷◌}
use Rattle.std.proofs.lemmas.Bool.Decides.{Decides-eqb}
use Rattle.json_text.specs.Tree.{Json}
use Rattle.json_text.specs.CharacterSteps.{take_byte}
use Rattle.json_text.specs.Stacks.{Opened, has_members}
use Rattle.json_text.specs.Steps.{Progress, go, between, in_text, step_in, step}
use Rattle.json_text.specs.declared.character.Part.{Part}
use Rattle.json_text.specs.declared.mode.Mode.{Mode}
use Rattle.json_text.proofs.Cases.{by_cases_of}
use Rattle.json_text.proofs.Completion.{Completes, ValueDue, MarkDue, TextDue}
use Rattle.json_text.proofs.BackSteps.{CompletesIt, made, it_is, taken, moved}
use Rattle.json_text.proofs.BackModes.{value_back, name_back, first_item_back, first_name_back, colon_back, after_back, number_back, word_back}

-- whether the stack is right for what is due: no name is due where a value is, and one is where a name is
abbrev pub Fits : Mode → List Opened → Type 0
Fits Mode.Start stack = has_members stack ≡ false
Fits Mode.Mark stack = has_members stack ≡ false
Fits Mode.MarkEnd stack = has_members stack ≡ false
Fits Mode.Value stack = has_members stack ≡ false
Fits Mode.FirstItem stack = has_members stack ≡ false
Fits Mode.FirstName stack = has_members stack ≡ true
Fits Mode.Name stack = has_members stack ≡ true
Fits Mode.Colon stack = has_members stack ≡ false
Fits Mode.After stack = Unit {0}
Fits (Mode.Word word done) stack = Unit {0}
Fits (Mode.Number digits) stack = Unit {0}
Fits (Mode.Text part) stack = Unit {0}

-- the same of each byte of a text in quotes
abbrev pub TextBack : Type 0
TextBack = (b : ℕ) (part : Part) (p q : Progress) (tree : Json) (rest : List ℕ) → in_text (take_byte part b) p ≡ made q → CompletesIt q tree rest → TextDue part p.token p.stack tree (b ∷ rest)

-- a byte of a byte order mark
mark_back : (byte : ℕ) (mark : List ℕ) (b : ℕ) (stack : List Opened) (tree : Json) (rest : List ℕ) → (b == byte) ≡ true → MarkDue mark stack tree rest → MarkDue (byte ∷ mark) stack tree (b ∷ rest)
mark_back byte mark b stack tree rest same v = record {
  behind = v.behind;
  next = v.next;
  parts = ap (λ (x : ℕ). x ∷ rest) ((Decides-eqb b byte).0 same) ∙ ap (λ (xs : List ℕ). byte ∷ xs) v.parts;
}

mark_end : (stack : List Opened) (tree : Json) (rest : List ℕ) → ValueDue stack tree rest → MarkDue [] stack tree rest
mark_end stack tree rest v = record { behind = rest; next = v; parts = refl }

start_back : (limit b : ℕ) (p q : Progress) (tree : Json) (rest : List ℕ) → has_members p.stack ≡ false →
    cond (b == 239) (made (go Mode.Mark p)) (between limit Mode.Value b (go Mode.Value p)) ≡ made q → CompletesIt q tree rest →
    MarkDue (239 ∷ 187 ∷ 191 ∷ []) p.stack tree (b ∷ rest) ⊎ ValueDue p.stack tree (b ∷ rest)
start_back limit b p q tree rest value e h =
    by_cases_of (b == 239) _
    (λ f. let r : made (go Mode.Mark p) ≡ made q = sym (rw f refl) ∙ e in inl (mark_back 239 (187 ∷ 191 ∷ []) b p.stack tree rest f (moved (go Mode.Mark p) q tree rest (it_is _ q r) h)))
    (λ f. let r : between limit Mode.Value b (go Mode.Value p) ≡ made q = sym (rw f refl) ∙ e in inr (value_back limit b p q tree rest value r h))

pub step_in_back : TextBack → (limit : ℕ) (mode : Mode) (b : ℕ) (p q : Progress) (tree : Json) (rest : List ℕ) → Fits mode p.stack → step_in limit mode b (go mode p) ≡ made q → CompletesIt q tree rest →
    Completes mode p.token p.stack p.root tree (b ∷ rest)
step_in_back text limit (Mode.Text part) b p q tree rest f e h = text b part (go (Mode.Text part) p) q tree rest e h
step_in_back text limit (Mode.Number digits) b p q tree rest f e h = number_back limit b digits (go (Mode.Number digits) p) q tree rest e h
step_in_back text limit (Mode.Word word done) b p q tree rest f e h = word_back b word done (go (Mode.Word word done) p) q tree rest e h
step_in_back text limit Mode.Start b p q tree rest f e h = start_back limit b p q tree rest f e h
step_in_back text limit Mode.Mark b p q tree rest f e h =
    let t = taken (b == 187) (made (go Mode.MarkEnd p)) q e in mark_back 187 (191 ∷ []) b p.stack tree rest t.0 (moved (go Mode.MarkEnd p) q tree rest (it_is _ q t.1) h)
step_in_back text limit Mode.MarkEnd b p q tree rest f e h =
    let t = taken (b == 191) (made (go Mode.Value p)) q e in mark_back 191 [] b p.stack tree rest t.0 (mark_end p.stack tree rest (moved (go Mode.Value p) q tree rest (it_is _ q t.1) h))
step_in_back text limit Mode.Value b p q tree rest f e h = value_back limit b p q tree rest f e h
step_in_back text limit Mode.FirstItem b p q tree rest f e h = first_item_back limit b p q tree rest f e h
step_in_back text limit Mode.FirstName b p q tree rest f e h = first_name_back limit b p q tree rest f e h
step_in_back text limit Mode.Name b p q tree rest f e h = name_back limit b p q tree rest f e h
step_in_back text limit Mode.Colon b p q tree rest f e h = colon_back limit b p q tree rest e h
step_in_back text limit Mode.After b p q tree rest f e h = after_back limit b p q tree rest e h

pub step_back : TextBack → (limit b : ℕ) (p q : Progress) (tree : Json) (rest : List ℕ) → Fits p.mode p.stack → step limit b p ≡ made q → CompletesIt q tree rest → CompletesIt p tree (b ∷ rest)
unfolding step
step_back text limit b p q tree rest f e h = step_in_back text limit p.mode b p q tree rest f e h
