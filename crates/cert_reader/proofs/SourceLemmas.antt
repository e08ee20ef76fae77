-- What a line that was read makes of what is due.
use Rattle.std.proofs.Common.{◌≡◌, ℕ, ◌+◌, ◌<◌, ◌≤◌, zero, All, length-append, Bool, true, false, cond, List, [], ◌∷◌, ◌++◌, length, map, replicate, ◌-◌, suc, Option, None, Some, Result, Ok, Err, refl, ap, sym, subst, ◌∙◌, arith, append_assoc, append-nil}
use Rattle.std.proofs.lemmas.List.{map-append}
use Rattle.cert_reader.specs.Lines.{line_text, IsInRange}
use Rattle.cert_reader.specs.LineReading.{line_in}
use Rattle.cert_reader.specs.Due.{Due, after}
use Rattle.cert_reader.specs.Faults.{Size, grown, is_past_limit, is_too_deep, after_line, with_size, after_text, or_go_on, fault_from}
use Rattle.cert_reader.specs.Reads.{Left, fault_at, IsNext, Fails, Reads, ReadsPlainly}
use Rattle.cert_reader.specs.declared.line.Line.{Line as LineValue}
use Rattle.cert_text.specs.declared.fault.CertFault.{CertFault}
use Rattle.cert_text.specs.declared.fault.CertFault.TheVariants.{Line, TooDeep, Limit, Memory}
use Rattle.cert_reader.proofs.LineLemmas.{line_in_is}

texts_step : (next : Due) (due : List Due) (n : ℕ) (size : Size) (text : List ℕ) (texts : List (List ℕ)) (o : Option LineValue) → 0 < length texts → line_in text ≡ o
    → fault_from (next ∷ due) n size (text ∷ texts) ≡ or_go_on (after_text n size next o) (λ a. fault_from (a.0 ++ due) (n + 1) a.1 texts)
texts_step next due n size text [] o more said = absurd (omega arith)
texts_step next due n size text (t ∷ ts) o more said = ap (λ o. or_go_on (after_text n size next o) (λ a. fault_from (a.0 ++ due) (n + 1) a.1 (t ∷ ts))) said

-- where the next line does not say anything
pub unread : (next : Due) (due : List Due) (n : ℕ) (size : Size) (text : List ℕ) (texts : List (List ℕ)) → 0 < length texts → line_in text ≡ None
    → fault_from (next ∷ due) n size (text ∷ texts) ≡ Some (Line n)
unread next due n size text texts more said = texts_step next due n size text texts None more said

step : (next : Due) (due : List Due) (old new : Left) (line : LineValue) → IsNext old new line
    → fault_at (next ∷ due) old ≡ or_go_on (with_size (after_line old.number old.size next line (after next line)) (grown line old.size)) (λ a. fault_from (a.0 ++ due) (old.number + 1) a.1 new.texts)
step next due old new line is =
    ap (fault_from (next ∷ due) old.number old.size) is.texts_are ∙ texts_step next due old.number old.size is.text new.texts (Some line) is.more is.said

abbrev outcome : Due → List Due → Left → Left → LineValue → Option (List Due) → Option CertFault
outcome next due old new line o = or_go_on (with_size (after_line old.number old.size next line o) (grown line old.size)) (λ a. fault_from (a.0 ++ due) (old.number + 1) a.1 new.texts)

-- the line is not the one that is due
pub wrong_line : (next : Due) (old new : Left) (line : LineValue) → IsNext old new line → after next line ≡ None → Fails (next ∷ []) old (Line old.number)
wrong_line next old new line is e = λ due. step next due old new line is ∙ ap (outcome next due old new line) e

-- the line is a node that is too deep
pub deep_line : (next : Due) (old new : Left) (line : LineValue) (later : List Due) → IsNext old new line → after next line ≡ Some later → is_too_deep next ≡ true
    → Fails (next ∷ []) old (TooDeep old.number)
deep_line next old new line later is e deep = λ due.
    step next due old new line is ∙ ap (outcome next due old new line) e
    ∙ ap (λ b. or_go_on (with_size (cond b (Err (TooDeep old.number)) (cond (is_past_limit line old.size) (Err (Limit old.number)) (Ok later))) (grown line old.size)) (λ a. fault_from (a.0 ++ due) (old.number + 1) a.1 new.texts)) deep

-- the line is past a limit
pub limit_line : (next : Due) (old new : Left) (line : LineValue) (later : List Due) → IsNext old new line → after next line ≡ Some later → is_too_deep next ≡ false
    → is_past_limit line old.size ≡ true → Fails (next ∷ []) old (Limit old.number)
limit_line next old new line later is e deep past = λ due.
    step next due old new line is ∙ ap (outcome next due old new line) e
    ∙ ap (λ b. or_go_on (with_size (cond b (Err (TooDeep old.number)) (cond (is_past_limit line old.size) (Err (Limit old.number)) (Ok later))) (grown line old.size)) (λ a. fault_from (a.0 ++ due) (old.number + 1) a.1 new.texts)) deep
    ∙ ap (λ b. or_go_on (with_size (cond b (Err (Limit old.number)) (Ok later)) (grown line old.size)) (λ a. fault_from (a.0 ++ due) (old.number + 1) a.1 new.texts)) past

-- the line is right
pub right_line : (next : Due) (old new : Left) (line : LineValue) (later : List Due) → IsNext old new line → after next line ≡ Some later → is_too_deep next ≡ false
    → is_past_limit line old.size ≡ false → (counted : Left) → counted ≡ record new { size = grown line old.size } → Reads (next ∷ []) later (line ∷ []) old counted
right_line next old new line later is e deep past counted same = subst (Reads (next ∷ []) later (line ∷ []) old) (sym same) (record {
  texts_are = is.texts_are ∙ ap (λ t. t ∷ new.texts) (line_in_is is.text line is.said).0;
  faults = λ due.
      step next due old new line is ∙ ap (outcome next due old new line) e
      ∙ ap (λ b. or_go_on (with_size (cond b (Err (TooDeep old.number)) (cond (is_past_limit line old.size) (Err (Limit old.number)) (Ok later))) (grown line old.size)) (λ a. fault_from (a.0 ++ due) (old.number + 1) a.1 new.texts)) deep
      ∙ ap (λ b. or_go_on (with_size (cond b (Err (Limit old.number)) (Ok later)) (grown line old.size)) (λ a. fault_from (a.0 ++ due) (old.number + 1) a.1 new.texts)) past
      ∙ ap (λ n. fault_from (later ++ due) n (grown line old.size) new.texts) (sym is.number_is);
})

-- a line that counts neither marks nor splits, and is no node
pub plain_line_read : (next : Due) (old new : Left) (line : LineValue) (later : List Due) → IsNext old new line → after next line ≡ Some later → is_too_deep next ≡ false
    → is_past_limit line old.size ≡ false → grown line old.size ≡ old.size → ReadsPlainly (next ∷ []) later (line ∷ []) old new
plain_line_read next old new line later is e deep past same = record {
  reads = right_line next old new line later is e deep past new (ap (λ s. record new { size = s }) (is.size_is ∙ sym same));
  size_is = is.size_is;
}

-- what a line that was read says is in range
pub next_in_range : (old new : Left) (line : LineValue) → IsNext old new line → IsInRange line
next_in_range old new line is = (line_in_is is.text line is.said).1

-- ---- lines, one behind the other

pub reads_then : (first mid last : List Due) (xs ys : List LineValue) (a b c : Left) → Reads first mid xs a b → Reads mid last ys b c → Reads first last (xs ++ ys) a c
reads_then first mid last xs ys a b c r s = record {
  texts_are = r.texts_are ∙ ap (λ t. map line_text xs ++ t) s.texts_are ∙ sym (append_assoc (map line_text xs) (map line_text ys) c.texts) ∙ ap (λ t. t ++ c.texts) (sym (map-append line_text xs ys));
  faults = λ more. r.faults more ∙ s.faults more;
}

pub reads_front : (due later rest : List Due) (xs : List LineValue) (a b : Left) → Reads due later xs a b → Reads (due ++ rest) (later ++ rest) xs a b
reads_front due later rest xs a b r = record {
  texts_are = r.texts_are;
  faults = λ more. ap (λ d. fault_at d a) (append_assoc due rest more) ∙ r.faults (rest ++ more) ∙ ap (λ d. fault_at d b) (sym (append_assoc later rest more));
}

-- a fault is the same where more is due behind
pub fails_front : (due rest : List Due) (a : Left) (f : CertFault) → Fails due a f → Fails (due ++ rest) a f
fails_front due rest a (Line n) e = λ more. ap (λ d. fault_at d a) (append_assoc due rest more) ∙ e (rest ++ more)
fails_front due rest a (TooDeep n) e = λ more. ap (λ d. fault_at d a) (append_assoc due rest more) ∙ e (rest ++ more)
fails_front due rest a (Limit n) e = λ more. ap (λ d. fault_at d a) (append_assoc due rest more) ∙ e (rest ++ more)
fails_front due rest a Memory e = e

-- a fault behind lines that were read
pub fails_later : (first mid : List Due) (xs : List LineValue) (a b : Left) (f : CertFault) → Reads first mid xs a b → Fails mid b f → Fails first a f
fails_later first mid xs a b (Line n) r e = λ more. r.faults more ∙ e more
fails_later first mid xs a b (TooDeep n) r e = λ more. r.faults more ∙ e more
fails_later first mid xs a b (Limit n) r e = λ more. r.faults more ∙ e more
fails_later first mid xs a b Memory r e = e

-- no line
pub reads_nothing : (due : List Due) (a b : Left) → a ≡ b → Reads due due [] a b
reads_nothing due a b e = subst (Reads due due [] a) e (record { texts_are = refl; faults = λ more. refl })

-- ---- the same line due more than once

replicate_next : {X : Type 0} (x : X) (n m : ℕ) → n ≡ m + 1 → replicate n x ≡ x ∷ replicate m x
replicate_next x n m e = ap (λ k. replicate k x) (e ∙ next m)
  where
    next : (m : ℕ) → m + 1 ≡ suc m
    next m = omega arith

pub reads_more : (x : Due) (count place : ℕ) (lines : List LineValue) (line : LineValue) (a b c : Left) → place < count
    → Reads (replicate count x) (replicate (count - place) x) lines a b → Reads (x ∷ []) [] (line ∷ []) b c
    → Reads (replicate count x) (replicate (count - (place + 1)) x) (lines ++ line ∷ []) a c
reads_more x count place lines line a b c h r s =
    let rest = replicate (count - (place + 1)) x in
    let e : replicate (count - place) x ≡ x ∷ rest = replicate_next x (count - place) (count - (place + 1)) (omega arith) in
    reads_then (replicate count x) (x ∷ rest) rest lines (line ∷ []) a b c (subst (λ d. Reads (replicate count x) d lines a b) e r) (reads_front (x ∷ []) [] rest (line ∷ []) b c s)

pub fails_more : (x : Due) (count place : ℕ) (lines : List LineValue) (a b : Left) (f : CertFault) → place < count
    → Reads (replicate count x) (replicate (count - place) x) lines a b → Fails (x ∷ []) b f → Fails (replicate count x) a f
fails_more x count place lines a b f h r e =
    let rest = replicate (count - (place + 1)) x in
    let is : replicate (count - place) x ≡ x ∷ rest = replicate_next x (count - place) (count - (place + 1)) (omega arith) in
    fails_later (replicate count x) (x ∷ rest) lines a b f (subst (λ d. Reads (replicate count x) d lines a b) is r) (fails_front (x ∷ []) rest b f e)

-- where all have been read
pub reads_all : (x : Due) (count place : ℕ) (lines : List LineValue) (a b : Left) → count ≤ place → Reads (replicate count x) (replicate (count - place) x) lines a b → Reads (replicate count x) [] lines a b
reads_all x count place lines a b h r = subst (λ n. Reads (replicate count x) (replicate n x) lines a b) (let e : count - place ≡ 0 = omega arith in e) r

-- the same of lines that count neither marks nor splits

pub plainly_then : (first mid last : List Due) (xs ys : List LineValue) (a b c : Left) → ReadsPlainly first mid xs a b → ReadsPlainly mid last ys b c → ReadsPlainly first last (xs ++ ys) a c
plainly_then first mid last xs ys a b c r s = record { reads = reads_then first mid last xs ys a b c r.reads s.reads; size_is = s.size_is ∙ r.size_is }

pub plainly_more : (x : Due) (count place : ℕ) (lines : List LineValue) (line : LineValue) (a b c : Left) → place < count
    → ReadsPlainly (replicate count x) (replicate (count - place) x) lines a b → ReadsPlainly (x ∷ []) [] (line ∷ []) b c
    → ReadsPlainly (replicate count x) (replicate (count - (place + 1)) x) (lines ++ line ∷ []) a c
plainly_more x count place lines line a b c h r s = record { reads = reads_more x count place lines line a b c h r.reads s.reads; size_is = s.size_is ∙ r.size_is }

pub plainly_all : (x : Due) (count place : ℕ) (lines : List LineValue) (a b : Left) → count ≤ place → ReadsPlainly (replicate count x) (replicate (count - place) x) lines a b → ReadsPlainly (replicate count x) [] lines a b
plainly_all x count place lines a b h r = record { reads = reads_all x count place lines a b h r.reads; size_is = r.size_is }

pub plainly_none : (x : Due) (count : ℕ) (a : Left) → ReadsPlainly (replicate count x) (replicate (count - 0) x) [] a a
plainly_none x count a = record {
  reads = subst (λ n. Reads (replicate count x) (replicate n x) [] a a) (let e : count ≡ count - 0 = omega arith in e) (reads_nothing (replicate count x) a a refl);
  size_is = refl;
}

pub plainly_item : {X : Type 0} (f : X → LineValue) (x : Due) (count place : ℕ) (items : List X) (item : X) (a b c : Left) → place < count
    → ReadsPlainly (replicate count x) (replicate (count - place) x) (map f items) a b → ReadsPlainly (x ∷ []) [] (f item ∷ []) b c
    → ReadsPlainly (replicate count x) (replicate (count - (place + 1)) x) (map f (items ++ item ∷ [])) a c
plainly_item f x count place items item a b c h r s =
    subst (λ ls. ReadsPlainly (replicate count x) (replicate (count - (place + 1)) x) ls a c) (sym (map-append f items (item ∷ []))) (plainly_more x count place (map f items) (f item) a b c h r s)

-- ---- facts of each item

pub all_none : {X : Type 0} (P : X → Type 0) → All P []
all_none P k d h = absurd (omega arith)

pub all_snoc : {X : Type 0} (P : X → Type 0) (xs : List X) (x : X) → All P xs → P x → All P (xs ++ x ∷ [])
all_snoc P [] x all h zero d k = h
all_snoc P [] x all h (suc i) d k = absurd (omega arith)
all_snoc P (y ∷ ys) x all h zero d k = all 0 d (omega arith)
all_snoc P (y ∷ ys) x all h (suc i) d k = all_snoc P ys x (λ j e l. all (suc j) e (omega arith)) h i d (omega arith)

pub count_snoc : {X : Type 0} (xs : List X) (x : X) (n : ℕ) → length xs ≡ n → length (xs ++ x ∷ []) ≡ n + 1
count_snoc xs x n e = length-append xs (x ∷ []) ∙ ap (λ m. m + 1) e
