-- What words say, word by word.
use Rattle.std.proofs.Common.{◌≡◌, ◌≢◌, ◌↔◌, inl, inr, ◌+◌, ◌≤◌, ℕ, List, [], ◌∷◌, length, drop, get_or, Option, IfSome, IfNone, Some, None, Result, Ok, Err, IfOk, codes, refl, sym, ◌∙◌, ap, subst, arith}
use Rattle.std.specs.List.{slice_get}
use Rattle.std.proofs.lemmas.Bool.{cases_lt}
use Rattle.std.proofs.lemmas.List.{drop_more, drop_all}
use Rattle.std.proofs.lemmas.Option.{slice_get_within, get_or_from_slice_get, slice_get-get_or}
use Rattle.std.specs.Borrow.{Bor}
use Rattle.generalise_core.specs.Texts.{texts}
use Rattle.generalise_core.specs.Words.{Draft, IsName, TakesValue, Says, IsForm, Request, Spells, empty_draft, with_operand, word_of, value_in, with_value}
use Rattle.generalise_core.specs.declared.setting.Setting.{Setting}
use Rattle.generalise_core.specs.declared.setting.Setting.TheVariants.{Splits, Class, Object}
use Rattle.agg_base.specs.declared.limits.TheConstants.{SPLITS}
use Rattle.generalise_core.proofs.FormLemmas.{one_form, form_splits, unequal}

-- an option is no operand
pub option_no_name : (s : Setting) → ¬ IsName (word_of s)
option_no_name Splits h = h.no_minus refl
option_no_name Class h = h.no_minus refl
option_no_name Object h = h.no_minus refl

-- words with other third letters differ
third : (v w : List ℕ) → v ≡ w → get_or v 2 0 ≡ get_or w 2 0
third v w e = ap (λ (x : List ℕ). get_or x 2 0) e

-- an option has one word
same_setting : (s t : Setting) → word_of s ≡ word_of t → s ≡ t
same_setting Splits Splits e = refl
same_setting Class Class e = refl
same_setting Object Object e = refl
same_setting Splits Class e = absurd (unequal 99 115 (omega arith) (sym (third (word_of Splits) (word_of Class) e)))
same_setting Splits Object e = absurd (unequal 111 115 (omega arith) (sym (third (word_of Splits) (word_of Object) e)))
same_setting Class Splits e = absurd (unequal 99 115 (omega arith) (third (word_of Class) (word_of Splits) e))
same_setting Class Object e = absurd (unequal 99 111 (omega arith) (third (word_of Class) (word_of Object) e))
same_setting Object Splits e = absurd (unequal 111 115 (omega arith) (third (word_of Object) (word_of Splits) e))
same_setting Object Class e = absurd (unequal 99 111 (omega arith) (sym (third (word_of Object) (word_of Class) e)))

pub operand_says : (had : Draft) (word : List ℕ) (rest : List (List ℕ)) (all : Draft) → IsName word → Says (with_operand had word) rest all → Says had (word ∷ rest) all
operand_says had word [] all name says = (name, says)
operand_says had word (next ∷ more) all name says = inl (name, says)

pub says_operand : (had : Draft) (word : List ℕ) (rest : List (List ℕ)) (all : Draft) → IsName word → Says had (word ∷ rest) all → Says (with_operand had word) rest all
says_operand had word [] all name says = says.1
says_operand had word (next ∷ more) all name (inl says) = says.1
says_operand had word (next ∷ more) all name (inr says) = absurd (option_no_name says.0 (subst IsName says.1.word_is name))

-- a value is taken by the option of the word alone
pub takes_that : (had : Draft) (word value : List ℕ) (s t : Setting) → word ≡ word_of s → TakesValue had word value t → TakesValue had word value s
takes_that had word value s t is takes = subst (λ x. TakesValue had word value x) (same_setting t s (sym takes.word_is ∙ is)) takes

pub option_says : (had : Draft) (word value : List ℕ) (rest : List (List ℕ)) (all : Draft) (s : Setting) → TakesValue had word value s
    → Says (with_value had s value) rest all → Says had (word ∷ value ∷ rest) all
option_says had word value rest all s takes says = inr (s, takes, says)

pub says_option : (had : Draft) (word value : List ℕ) (rest : List (List ℕ)) (all : Draft) (s : Setting) → word ≡ word_of s
    → Says had (word ∷ value ∷ rest) all → Says (with_value had s value) rest all
says_option had word value rest all s is (inl says) = absurd (option_no_name s (subst IsName is says.0))
says_option had word value rest all s is (inr says) =
    subst (λ x. Says (with_value had x value) rest all) (same_setting says.0 s (sym says.1.word_is ∙ is)) says.2

-- a word that is no operand and has no value behind it
pub no_value : (had : Draft) (word : List ℕ) (all : Draft) → ¬ IsName word → ¬ Says had (word ∷ []) all
no_value had word all never says = never says.0

pub no_option : (had : Draft) (word value : List ℕ) (rest : List (List ℕ)) (all : Draft) → ¬ IsName word
    → ((s : Setting) → ¬ TakesValue had word value s) → ¬ Says had (word ∷ value ∷ rest) all
no_option had word value rest all nameless never (inl says) = nameless says.0
no_option had word value rest all nameless never (inr says) = never says.0 says.1

-- ---- at a place in the words

-- the word at a place, and those behind it
pub drop_word : (words : List (List ℕ)) (at : ℕ) (word : List ℕ) → slice_get words at ≡ Some word → drop at words ≡ word ∷ drop (at + 1) words
drop_word words at word here =
    drop_more words at [] (slice_get_within words at word here) ∙ ap (λ w. w ∷ drop (at + 1) words) (get_or_from_slice_get words at word [] here)

pub taken_operand : (had new : Draft) (words : List (List ℕ)) (at : ℕ) (word : List ℕ) → slice_get words at ≡ Some word → IsName word
    → new ≡ with_operand had word → (all : Draft) → Says new (drop (at + 1) words) all ↔ Says had (drop at words) all
taken_operand had new words at word here name is all =
    let rest = drop (at + 1) words in (
      λ says. subst (λ ws. Says had ws all) (sym (drop_word words at word here)) (operand_says had word rest all name (subst (λ x. Says x rest all) is says)),
      λ says. subst (λ x. Says x rest all) (sym is) (says_operand had word rest all name (subst (λ ws. Says had ws all) (drop_word words at word here) says)),
    )

two_words : (words : List (List ℕ)) (at : ℕ) (word value : List ℕ) → slice_get words at ≡ Some word → slice_get words (at + 1) ≡ Some value
    → drop at words ≡ word ∷ value ∷ drop (at + 2) words
two_words words at word value here next =
    let two : at + 1 + 1 ≡ at + 2 = omega arith in
    drop_word words at word here ∙ ap (λ ws. word ∷ ws) (drop_word words (at + 1) value next ∙ ap (λ n. value ∷ drop n words) two)

pub taken_option : (had new : Draft) (words : List (List ℕ)) (at : ℕ) (word value : List ℕ) (s : Setting) → slice_get words at ≡ Some word
    → slice_get words (at + 1) ≡ Some value → word ≡ word_of s → IsName value → value_in had s ≡ None → new ≡ with_value had s value
    → (all : Draft) → Says new (drop (at + 2) words) all ↔ Says had (drop at words) all
taken_option had new words at word value s here next option name lacks is all =
    let rest = drop (at + 2) words in
    let takes : TakesValue had word value s = record { word_is = option; value_is = name; first = lacks } in
    let e = two_words words at word value here next in (
      λ says. subst (λ ws. Says had ws all) (sym e) (option_says had word value rest all s takes (subst (λ x. Says x rest all) is says)),
      λ says. subst (λ x. Says x rest all) (sym is) (says_option had word value rest all s option (subst (λ ws. Says had ws all) e says)),
    )

-- a word that is no operand, and is no option with a value
pub not_taken : (had : Draft) (words : List (List ℕ)) (at : ℕ) (word : List ℕ) → slice_get words at ≡ Some word → ¬ IsName word
    → ((value : List ℕ) → slice_get words (at + 1) ≡ Some value → (s : Setting) → ¬ TakesValue had word value s)
    → (all : Draft) → ¬ Says had (drop at words) all
not_taken had words at word here nameless never all says =
    elim (cases_lt (at + 1) (length words)) [
      | inl more ↦ (
          let next = slice_get-get_or words (at + 1) [] more in
          let value = get_or words (at + 1) [] in
          no_option had word value (drop (at + 2) words) all nameless (never value next) (subst (λ ws. Says had ws all) (two_words words at word value here next) says)
          )
      | inr last ↦ (
          let none : drop (at + 1) words ≡ [] = drop_all (at + 1) words last in
          no_value had word all nameless (subst (λ ws. Says had ws all) (drop_word words at word here ∙ ap (λ ws. word ∷ ws) none) says)
          )
    ]

-- five lent texts
pub five_texts : (xs : List (Bor (List ℕ))) (d : Bor (List ℕ)) → length xs ≡ 5
    → texts xs ≡ (get_or xs 0 d).now ∷ (get_or xs 1 d).now ∷ (get_or xs 2 d).now ∷ (get_or xs 3 d).now ∷ (get_or xs 4 d).now ∷ []
five_texts [] d h = absurd (omega arith)
five_texts (a ∷ []) d h = absurd (omega arith)
five_texts (a ∷ b ∷ []) d h = absurd (omega arith)
five_texts (a ∷ b ∷ c ∷ []) d h = absurd (omega arith)
five_texts (a ∷ b ∷ c ∷ e ∷ []) d h = absurd (omega arith)
five_texts (a ∷ b ∷ c ∷ e ∷ f ∷ []) d h = refl
five_texts (a ∷ b ∷ c ∷ e ∷ f ∷ g ∷ more) d h = absurd (omega arith)

-- ---- all words

-- words say one thing
pub one_said : (had : Draft) (words : List (List ℕ)) (a b : Draft) → Says had words a → Says had words b → a ≡ b
one_said had [] a b h k = sym h ∙ k
one_said had (word ∷ []) a b h k = sym h.1 ∙ k.1
one_said had (word ∷ next ∷ more) a b (inl h) (inl k) = one_said (with_operand had word) (next ∷ more) a b h.1 k.1
one_said had (word ∷ next ∷ more) a b (inl h) (inr k) = absurd (option_no_name k.0 (subst IsName k.1.word_is h.0))
one_said had (word ∷ next ∷ more) a b (inr h) (inl k) = absurd (option_no_name h.0 (subst IsName h.1.word_is k.0))
one_said had (word ∷ next ∷ more) a b (inr h) (inr k) =
    let same : k.0 ≡ h.0 = same_setting k.0 h.0 (sym k.1.word_is ∙ h.1.word_is) in
    one_said (with_value had h.0 next) more a b h.2 (subst (λ s. Says (with_value had s next) more b) same k.2)

pub one_request : (words : List (List ℕ)) (r s : Request) → Spells words r → Spells words s → r ≡ s
one_request words r s h k =
    let e = h.command in
    let f = k.command in
    let rest : k.rest ≡ h.rest = (cc) in
    let said : k.draft ≡ h.draft = one_said empty_draft h.rest k.draft h.draft (subst (λ x. Says empty_draft x k.draft) rest k.says) h.says in
    one_form h.draft r s h.form (subst (λ x. IsForm x s) said k.form)

-- words ask for no more splits than a tree may have
pub few_splits : (words : List (List ℕ)) (r : Request) → Spells words r → r.splits ≤ SPLITS
few_splits words r s = form_splits s.draft r s.form

-- the command, and what the words behind it say
pub spelled : (words : List (List ℕ)) (word : List ℕ) (said : Draft) (r : Request) → slice_get words 0 ≡ Some word → word ≡ codes "generalise"
    → Says empty_draft (drop 1 words) said → IsForm said r → Spells words r
spelled words word said r here command says form =
    record { rest = drop 1 words; draft = said; command = drop_word words 0 word here ∙ ap (λ w. w ∷ drop 1 words) command; says = says; form = form }

-- what spelled words say behind the command
pub behind : (words : List (List ℕ)) (r : Request) → (s : Spells words r) → Says empty_draft (drop 1 words) s.draft
behind words r s = subst (λ ws. Says empty_draft ws s.draft) (sym (ap (drop 1) s.command)) s.says

pub other_command : (words : List (List ℕ)) (word : List ℕ) (r : Request) → slice_get words 0 ≡ Some word → word ≢ codes "generalise" → ¬ Spells words r
other_command words word r here other s =
    let e = drop_word words 0 word here in
    let f = s.command in
    other (cc)

-- ---- answers

pub some_weaker : {T E : Type 0} (r : Result (Option T) E) (P Q : T → Type 0) → ((x : T) → P x → Q x) → IfOk r (λ o. IfSome o P) → IfOk r (λ o. IfSome o Q)
some_weaker (Ok None) P Q f h = h
some_weaker (Ok (Some x)) P Q f h = f x h
some_weaker (Err e) P Q f h = h

pub none_weaker : {T E : Type 0} (r : Result (Option T) E) (P Q : Type 0) → (P → Q) → IfOk r (λ o. IfNone o P) → IfOk r (λ o. IfNone o Q)
none_weaker (Ok None) P Q f h = f h
none_weaker (Ok (Some x)) P Q f h = h
none_weaker (Err e) P Q f h = h
