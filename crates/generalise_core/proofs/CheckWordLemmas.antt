-- What the words of a check say.
use Rattle.std.proofs.Common.{◌≡◌, ◌≢◌, ℕ, List, [], ◌∷◌, drop, get_or, Option, Some, None, codes, refl, sym, ◌∙◌, ap, subst, arith}
use Rattle.std.specs.List.{slice_get}
use Rattle.generalise_core.specs.declared.most_splits.TheConstants.{DEFAULT_SPLITS}
use Rattle.generalise_core.specs.Words.{Request, Draft, Says, SaysSplits, IsForm, Spells, empty_draft}
use Rattle.generalise_core.specs.CheckWords.{CheckRequest, IsCheckForm, SpellsCheck, IsCheck, AreUnspelled}
use Rattle.generalise_core.proofs.FormLemmas.{one_form, unequal}
use Rattle.generalise_core.proofs.DraftLemmas.{one_said, drop_word}

-- the request with the number of splits that stands for none said
abbrev pub with_splits : CheckRequest → Request
with_splits q = record { format = q.format; map = q.map; table = q.table; out = q.out; certificate = q.certificate; splits = DEFAULT_SPLITS }

abbrev pub without_splits : Request → CheckRequest
without_splits r = record { format = r.format; map = r.map; table = r.table; out = r.out; certificate = r.certificate }

pub as_form : (said : Draft) (q : CheckRequest) → IsCheckForm said q → IsForm said (with_splits q)
as_form said q h = record { word = h.word; names = h.names; format = h.format; splits = subst (λ (s : Option (List ℕ)). SaysSplits s DEFAULT_SPLITS) (sym h.no_splits) refl }

pub as_check_form : (said : Draft) (r : Request) → said.splits ≡ None → IsForm said r → IsCheckForm said (without_splits r)
as_check_form said r none h = record { word = h.word; names = h.names; format = h.format; no_splits = none }

-- the command, and what the words behind it say
pub spelled_check : (words : List (List ℕ)) (said : Draft) (r : Request) → IsCheck words → said.splits ≡ None → Says empty_draft (drop 1 words) said → IsForm said r → SpellsCheck words (without_splits r)
spelled_check words said r here none says form =
    record { rest = drop 1 words; draft = said; command = drop_word words 0 (codes "check") here; says = says; form = as_check_form said r none form }

-- what the words of a check say behind the command
pub check_behind : (words : List (List ℕ)) (q : CheckRequest) → (s : SpellsCheck words q) → Says empty_draft (drop 1 words) s.draft
check_behind words q s = subst (λ ws. Says empty_draft ws s.draft) (sym (ap (drop 1) s.command)) s.says

-- words that say no form, or a number of splits, are of no check
pub no_check : (words : List (List ℕ)) (said : Draft) → Says empty_draft (drop 1 words) said → ((r : Request) → ¬ IsForm said r) → (q : CheckRequest) → ¬ SpellsCheck words q
no_check words said says never q s =
    never (with_splits q) (subst (λ x. IsForm x (with_splits q)) (one_said empty_draft (drop 1 words) s.draft said (check_behind words q s) says) (as_form s.draft q s.form))

pub no_check_splits : (words : List (List ℕ)) (said : Draft) → Says empty_draft (drop 1 words) said → ¬ (said.splits ≡ None) → (q : CheckRequest) → ¬ SpellsCheck words q
no_check_splits words said says some q s =
    some (subst (λ (x : Draft). x.splits ≡ None) (one_said empty_draft (drop 1 words) s.draft said (check_behind words q s) says) s.form.no_splits)

pub no_check_unsaid : (words : List (List ℕ)) → ((said : Draft) → ¬ Says empty_draft (drop 1 words) said) → (q : CheckRequest) → ¬ SpellsCheck words q
no_check_unsaid words never q s = never s.draft (check_behind words q s)

pub one_check : (words : List (List ℕ)) (p q : CheckRequest) → SpellsCheck words p → SpellsCheck words q → p ≡ q
one_check words p q h k =
    let e = h.command in
    let f = k.command in
    let rest : k.rest ≡ h.rest = (cc) in
    let said : k.draft ≡ h.draft = one_said empty_draft h.rest k.draft h.draft (subst (λ x. Says empty_draft x k.draft) rest k.says) h.says in
    let same : with_splits p ≡ with_splits q = one_form h.draft (with_splits p) (with_splits q) (as_form h.draft p h.form) (subst (λ x. IsForm x (with_splits q)) said (as_form k.draft q k.form)) in
    ap without_splits same

-- ---- which command it is

pub check_is : (words : List (List ℕ)) (q : CheckRequest) → SpellsCheck words q → IsCheck words
check_is words q s = ap (λ (ws : List (List ℕ)). slice_get ws 0) s.command

pub other_is_no_check : (words : List (List ℕ)) → ¬ IsCheck words → (q : CheckRequest) → ¬ SpellsCheck words q
other_is_no_check words other q s = other (check_is words q s)

-- the first letter of a word, where there is one
first_letter : Option (List ℕ) → ℕ
first_letter None = 0
first_letter (Some word) = get_or word 0 0

pub check_apart : (words : List (List ℕ)) → IsCheck words → (r : Request) → ¬ Spells words r
unfolding first_letter
check_apart words is r s =
    let e : Some (codes "generalise") ≡ Some (codes "check") = sym (ap (λ (ws : List (List ℕ)). slice_get ws 0) s.command) ∙ is in
    unequal 99 103 (omega arith) (sym (ap first_letter e))
