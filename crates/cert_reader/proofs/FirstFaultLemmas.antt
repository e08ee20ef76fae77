-- The first fault, as the walk over the lines that are due finds it.
use Rattle.std.proofs.Common.{◌≡◌, ℕ, zero, suc, ◌+◌, ◌<◌, ◌≤◌, ◌==◌, Bool, true, false, cond, List, [], ◌∷◌, ◌++◌, length, Option, None, Some, Result, Ok, Err, refl, ap, sym, subst, ◌∙◌, arith, rules, inl, inr}
use Rattle.std.specs.Prelude.{◌⊎◌}
use Rattle.std.proofs.lemmas.Bool.Decides.{Decides-eqb}
use Rattle.cert_reader.specs.Lines.{line_text, IsInRange}
use Rattle.cert_reader.specs.declared.line.Line.{Line as LineValue}
use Rattle.cert_text.specs.declared.fault.CertFault.{CertFault}
use Rattle.cert_text.specs.declared.fault.CertFault.TheVariants.{Line, TooDeep, Limit, Memory}
use Rattle.cert_reader.specs.LineReading.{line_in}
use Rattle.cert_reader.specs.Due.{Due, VersionDue, after}
use Rattle.cert_reader.specs.Faults.{Size, no_size, grown, is_past_limit, is_too_deep, after_line, with_size, after_text, or_go_on, texts_in, fault_from, first_fault}
use Rattle.cert_reader.specs.FirstFaults.{Says, IsWrong, IsRight, IsFaultFrom, IsFirstFault}
use Rattle.cert_reader.proofs.LineLemmas.{line_in_is}
use Rattle.cert_reader.proofs.AgainLemmas.{line_again}

-- a text says what it is read as
said_as : (text : List ℕ) (line : LineValue) → Says text line → line_in text ≡ Some line
said_as text line s = ap line_in s.0 ∙ line_again line s.1

said_alone : (text : List ℕ) (a b : LineValue) → Says text a → Says text b → a ≡ b
said_alone text a b s t = let e : Some a ≡ Some b = sym (said_as text a s) ∙ said_as text b t in cc

-- what stands behind a line, by what the line says and whether it is due
abbrev behind : List Due → ℕ → List (List ℕ) → List Due × Size → Option CertFault
behind due number texts a = fault_from (a.0 ++ due) (number + 1) a.1 texts

abbrev by_line : List Due → ℕ → Size → Due → List (List ℕ) → LineValue → Option (List Due) → Option CertFault
by_line due number size next texts line o = or_go_on (with_size (after_line number size next line o) (grown line size)) (behind due number texts)

abbrev by_text : List Due → ℕ → Size → Due → List (List ℕ) → Option LineValue → Option CertFault
by_text due number size next texts o = or_go_on (after_text number size next o) (behind due number texts)

abbrev by_tests : List Due → ℕ → Size → List (List ℕ) → LineValue → List Due → Bool → Bool → Option CertFault
by_tests due number size texts line later deep past =
    or_go_on (with_size (cond deep (Err (TooDeep number)) (cond past (Err (Limit number)) (Ok later))) (grown line size)) (behind due number texts)

-- ---- the walk finds each fault

found_wrong : (next : Due) (due : List Due) (n : ℕ) (size : Size) (text more : List ℕ) (texts : List (List ℕ)) (f : CertFault) → IsWrong n size next text f → fault_from (next ∷ due) n size (text ∷ more ∷ texts) ≡ Some f
found_wrong next due n size text more texts (Line m) w = by_said (line_in text) refl
  where
    by_said : (o : Option LineValue) → line_in text ≡ o → fault_from (next ∷ due) n size (text ∷ more ∷ texts) ≡ Some (Line m)
    by_said None e = ap (by_text due n size next (more ∷ texts)) e ∙ ap (λ k. Some (Line k)) (sym w.0)
    by_said (Some line) e =
        ap (by_text due n size next (more ∷ texts)) e ∙ ap (by_line due n size next (more ∷ texts) line) (w.1 line (line_in_is text line e)) ∙ ap (λ k. Some (Line k)) (sym w.0)
found_wrong next due n size text more texts (TooDeep m) w =
    let line = w.1.0 in
    let later = w.1.1 in
    ap (by_text due n size next (more ∷ texts)) (said_as text line w.1.2)
    ∙ ap (by_line due n size next (more ∷ texts) line) w.1.3
    ∙ ap (λ b. by_tests due n size (more ∷ texts) line later b (is_past_limit line size)) w.1.4
    ∙ ap (λ k. Some (TooDeep k)) (sym w.0)
found_wrong next due n size text more texts (Limit m) w =
    let line = w.1.0 in
    let later = w.1.1 in
    ap (by_text due n size next (more ∷ texts)) (said_as text line w.1.2)
    ∙ ap (by_line due n size next (more ∷ texts) line) w.1.3
    ∙ ap (λ b. by_tests due n size (more ∷ texts) line later b (is_past_limit line size)) w.1.4
    ∙ ap (λ b. by_tests due n size (more ∷ texts) line later false b) w.1.5
    ∙ ap (λ k. Some (Limit k)) (sym w.0)
found_wrong next due n size text more texts Memory w = absurd w

past_right : (next : Due) (due : List Due) (n : ℕ) (size : Size) (text more : List ℕ) (texts : List (List ℕ)) (line : LineValue) (later : List Due) → IsRight size next text line later
    → fault_from (next ∷ due) n size (text ∷ more ∷ texts) ≡ fault_from (later ++ due) (n + 1) (grown line size) (more ∷ texts)
past_right next due n size text more texts line later r =
    ap (by_text due n size next (more ∷ texts)) (said_as text line r.says)
    ∙ ap (by_line due n size next (more ∷ texts) line) r.is_due
    ∙ ap (λ b. by_tests due n size (more ∷ texts) line later b (is_past_limit line size)) r.deep
    ∙ ap (λ b. by_tests due n size (more ∷ texts) line later false b) r.past

not_none : (n : ℕ) → 0 < n → (n == 0) ≡ false
not_none n h = by_case (n == 0) refl
  where
    by_case : (b : Bool) → (n == 0) ≡ b → b ≡ false
    by_case true e = let z = (Decides-eqb n 0).0 e in absurd (omega arith)
    by_case false e = refl

pub found : (due : List Due) (n : ℕ) (size : Size) (texts : List (List ℕ)) (f : CertFault) → IsFaultFrom due n size texts f → fault_from due n size texts ≡ Some f
found due n size [] f is = ap Some (sym is)
found [] n size (rest ∷ []) f is = ap (λ b. cond b None (Some (Line n))) (not_none (length rest) is.0) ∙ ap Some (sym is.1)
found (next ∷ due) n size (rest ∷ []) f is = ap Some (sym is)
found [] n size (text ∷ more ∷ texts) f is = ap Some (sym is)
found (next ∷ due) n size (text ∷ more ∷ texts) f (inl w) = found_wrong next due n size text more texts f w
found (next ∷ due) n size (text ∷ more ∷ texts) f (inr g) =
    past_right next due n size text more texts g.0 g.1 g.2 ∙ found (g.1 ++ due) (n + 1) (grown g.0 size) (more ∷ texts) f g.3

-- ---- what the walk finds is a fault

some_is : {X : Type 0} (x y : X) → Some x ≡ Some y → y ≡ x
some_is x y e = cc

none_some : (f : CertFault) → None ≡ Some f → ⊥
none_some f e = (cc)

rest_fault : (n : ℕ) (rest : List ℕ) (f : CertFault) → cond (length rest == 0) None (Some (Line n)) ≡ Some f → (0 < length rest) × (f ≡ Line n)
rest_fault n [] f e = absurd (none_some f e)
rest_fault n (b ∷ rest) f e = (omega arith, some_is (Line n) f (sym (ap (λ t. cond t None (Some (Line n))) (not_none (length (b ∷ rest)) (omega arith))) ∙ e))

-- a text is wrong where that line is due, or it is right
abbrev WrongOrRight : ℕ → Size → Due → List ℕ → Type 0
WrongOrRight n size next text = ((f : CertFault) × IsWrong n size next text f) ⊎ ((line : LineValue) × (later : List Due) × IsRight size next text line later)

by_limit : (n : ℕ) (size : Size) (next : Due) (text : List ℕ) (line : LineValue) (later : List Due) → Says text line → after next line ≡ Some later → is_too_deep next ≡ false
    → (b : Bool) → is_past_limit line size ≡ b → WrongOrRight n size next text
by_limit n size next text line later s d deep true e = inl (Limit n, (refl, (line, later, s, d, deep, e)))
by_limit n size next text line later s d deep false e = inr (line, later, record { says = s; is_due = d; deep = deep; past = e })

by_depth : (n : ℕ) (size : Size) (next : Due) (text : List ℕ) (line : LineValue) (later : List Due) → Says text line → after next line ≡ Some later → (b : Bool) → is_too_deep next ≡ b → WrongOrRight n size next text
by_depth n size next text line later s d true e = inl (TooDeep n, (refl, (line, later, s, d, e)))
by_depth n size next text line later s d false e = by_limit n size next text line later s d e (is_past_limit line size) refl

by_due : (n : ℕ) (size : Size) (next : Due) (text : List ℕ) (line : LineValue) → Says text line → (o : Option (List Due)) → after next line ≡ o → WrongOrRight n size next text
by_due n size next text line s None e = inl (Line n, (refl, λ l t. ap (after next) (said_alone text l line t s) ∙ e))
by_due n size next text line s (Some later) e = by_depth n size next text line later s e (is_too_deep next) refl

never_said : (text : List ℕ) (line : LineValue) → line_in text ≡ None → Says text line → ⊥
never_said text line e s = let f : Some line ≡ None = sym (said_as text line s) ∙ e in (cc)

by_said : (n : ℕ) (size : Size) (next : Due) (text : List ℕ) (o : Option LineValue) → line_in text ≡ o → WrongOrRight n size next text
by_said n size next text None e = inl (Line n, (refl, λ l t. absurd (never_said text l e t)))
by_said n size next text (Some line) e = by_due n size next text line (line_in_is text line e) (after next line) refl

by_step : (next : Due) (due : List Due) (n : ℕ) (size : Size) (text more : List ℕ) (texts : List (List ℕ)) (f : CertFault)
    → ((d : List Due) (m : ℕ) (s : Size) → fault_from d m s (more ∷ texts) ≡ Some f → IsFaultFrom d m s (more ∷ texts) f)
    → fault_from (next ∷ due) n size (text ∷ more ∷ texts) ≡ Some f → WrongOrRight n size next text → IsFaultFrom (next ∷ due) n size (text ∷ more ∷ texts) f
by_step next due n size text more texts f later e (inl w) =
    inl (subst (IsWrong n size next text) (some_is f w.0 (sym e ∙ found_wrong next due n size text more texts w.0 w.1)) w.1)
by_step next due n size text more texts f later e (inr g) =
    inr (g.0, g.1, g.2, later (g.1 ++ due) (n + 1) (grown g.0 size) (sym (past_right next due n size text more texts g.0 g.1 g.2) ∙ e))

pub fault_is : (due : List Due) (n : ℕ) (size : Size) (texts : List (List ℕ)) (f : CertFault) → fault_from due n size texts ≡ Some f → IsFaultFrom due n size texts f
fault_is due n size [] f e = some_is (Line n) f e
fault_is [] n size (rest ∷ []) f e = rest_fault n rest f e
fault_is (next ∷ due) n size (rest ∷ []) f e = some_is (Line n) f e
fault_is [] n size (text ∷ more ∷ texts) f e = some_is (Line n) f e
fault_is (next ∷ due) n size (text ∷ more ∷ texts) f e =
    by_step next due n size text more texts f (λ d m s h. fault_is d m s (more ∷ texts) f h) e (by_said n size next text (line_in text) refl)

-- ---- of the whole text

pub first_is : (text : List ℕ) (f : CertFault) → first_fault text ≡ Some f → IsFirstFault text f
unfolding first_fault
first_is text f e = fault_is (VersionDue ∷ []) 1 no_size (texts_in text) f e

pub is_first : (text : List ℕ) (f : CertFault) → IsFirstFault text f → first_fault text ≡ Some f
unfolding first_fault
is_first text f e = found (VersionDue ∷ []) 1 no_size (texts_in text) f e
