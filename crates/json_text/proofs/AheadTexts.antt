-- What stands behind a byte of a text in quotes, given what characters are.
use Rattle.std.proofs.Common.{◌≡◌, ℕ, refl, sym, ap, ◌∙◌, subst, List, [], ◌∷◌, ◌++◌, append_assoc, append-nil, flat_map, Option, None, Some}
use Rattle.std.specs.Prelude.{Ok}
use Rattle.std.specs.List.{AllByRecursion}
use Rattle.std.specs.Char.{encode_utf8}
use Rattle.json_text.specs.Tree.{Json, Str}
use Rattle.json_text.specs.Strings.{SpellsCharacter, SpellsCharacters}
use Rattle.json_text.specs.CharacterSteps.{take_byte}
use Rattle.json_text.specs.Stacks.{has_members}
use Rattle.json_text.specs.Steps.{Progress, end_text, in_text}
use Rattle.json_text.specs.declared.character.Part.{Part}
use Rattle.json_text.specs.declared.character.Taken.{Taken}
use Rattle.json_text.proofs.Cases.{by_cases_of}
use Rattle.json_text.proofs.Completion.{Finishes, FinishesOn, EndsPart, EndsText, TextDue, BehindText}
use Rattle.json_text.proofs.CharacterFacts.{CharacterFacts}
use Rattle.json_text.proofs.BackTexts.{ends_text}
use Rattle.json_text.proofs.Ahead.{Leads, heads, leads_at, closes_stands}

-- what stands behind a text's last character
abbrev Behind : Progress → List ℕ → Json → List ℕ → Type 0
Behind p bytes tree behind = BehindText (has_members p.stack) p.stack (p.token ++ bytes) tree behind

-- the closing quote
quote_leads : (p : Progress) (tree : Json) (rest : List ℕ) → Behind p [] tree rest → Leads (Ok (end_text p)) tree rest
quote_leads p tree rest h =
    let ends : BehindText (has_members p.stack) p.stack p.token tree rest = subst (λ (bytes : List ℕ). BehindText (has_members p.stack) p.stack bytes tree rest) (append-nil p.token) h in
    by_cases_of (has_members p.stack) _
    (λ f. rw f (rw f at ends))
    (λ f. rw f (closes_stands p.stack p.root (Str p.token) tree rest (rw f at ends)))

-- a byte of a character
part_in : CharacterFacts → (b : ℕ) (part : Part) (p : Progress) (tree : Json) (rest bytes front more text_behind behind : List ℕ) (character : ℕ) → Finishes front character part → SpellsCharacters more text_behind →
    bytes ≡ encode_utf8 character ++ more → Behind p bytes tree behind → b ∷ rest ≡ (front ++ text_behind) ++ 34 ∷ behind → Leads (in_text (take_byte part b) p) tree rest
part_in facts b part p tree rest bytes [] more text_behind behind character first others are next e = absurd first
part_in facts b part p tree rest bytes (x ∷ front) more text_behind behind character first others are next e =
    let t = heads b x rest ((front ++ text_behind) ++ 34 ∷ behind) e in
    leads_at (λ (y : ℕ). in_text (take_byte part y) p) b x tree rest t.0 (cases (take_byte part x) first t.1)
  where
    cases : (o : Option Taken) → FinishesOn front o character (λ m. Finishes front character m) → rest ≡ (front ++ text_behind) ++ 34 ∷ behind → Leads (in_text o p) tree rest
    cases None f parts = absurd f
    cases (Some (Taken.More part_next)) f parts = record {
      bytes = bytes;
      text = front ++ text_behind;
      behind = behind;
      spelled = ends_text facts.back part_next bytes (front ++ text_behind) (record { character = character; front = front; more = more; text_behind = text_behind; first = f; others = others; text_is = refl; bytes_are = are });
      next = next;
      parts = parts;
    }
    cases (Some (Taken.Whole other)) f parts = record {
      bytes = more;
      text = text_behind;
      behind = behind;
      spelled = others;
      next = subst (λ (bs : List ℕ). BehindText (has_members p.stack) p.stack bs tree behind)
          (ap (λ (bs : List ℕ). p.token ++ bs) (are ∙ ap (λ (c : ℕ). encode_utf8 c ++ more) (sym f.0)) ∙ sym (append_assoc p.token (encode_utf8 other) more)) next;
      parts = parts ∙ ap (λ (xs : List ℕ). (xs ++ text_behind) ++ 34 ∷ behind) f.1;
    }
    cases (Some Taken.Quote) f parts = absurd f

part_on : CharacterFacts → (b : ℕ) (part : Part) (p : Progress) (tree : Json) (rest bytes text behind : List ℕ) → EndsPart part bytes text → Behind p bytes tree behind → b ∷ rest ≡ text ++ 34 ∷ behind →
    Leads (in_text (take_byte part b) p) tree rest
part_on facts b part p tree rest bytes text behind v next e =
    part_in facts b part p tree rest bytes v.front v.more v.text_behind behind v.character v.first v.others v.bytes_are next (e ∙ ap (λ (xs : List ℕ). xs ++ 34 ∷ behind) v.text_is)

-- the first byte of a character, or the closing quote
due_on : CharacterFacts → (b : ℕ) (p : Progress) (tree : Json) (rest bytes text behind : List ℕ) (characters : List (List ℕ × List ℕ)) → AllByRecursion (λ c. SpellsCharacter c.0 c.1) characters →
    text ≡ flat_map (λ c. c.0) characters → bytes ≡ flat_map (λ c. c.1) characters → Behind p bytes tree behind → b ∷ rest ≡ text ++ 34 ∷ behind → Leads (in_text (take_byte Part.Due b) p) tree rest
due_on facts b p tree rest bytes text behind [] each text_is bytes_are next e =
    let t = heads b 34 rest behind (e ∙ ap (λ (xs : List ℕ). xs ++ 34 ∷ behind) text_is) in
    leads_at (λ (y : ℕ). in_text (take_byte Part.Due y) p) b 34 tree rest t.0
    (quote_leads p tree rest (subst (λ (bs : List ℕ). Behind p [] tree bs) (sym t.1) (subst (λ (bs : List ℕ). Behind p bs tree behind) bytes_are next)))
due_on facts b p tree rest bytes text behind (c ∷ characters) each text_is bytes_are next e =
    let whole = facts.on c.0 c.1 each.0 in
    let more : List ℕ = flat_map (λ (d : List ℕ × List ℕ). d.1) characters in
    let text_behind : List ℕ = flat_map (λ (d : List ℕ × List ℕ). d.0) characters in
    part_in facts b Part.Due p tree rest bytes c.0 more text_behind behind whole.0 whole.1
    (record { characters = characters; each = each.1; text_is = refl; bytes_are = refl })
    (bytes_are ∙ ap (λ (xs : List ℕ). xs ++ more) whole.2) next (e ∙ ap (λ (xs : List ℕ). xs ++ 34 ∷ behind) text_is)

ends_on : CharacterFacts → (b : ℕ) (part : Part) (p : Progress) (tree : Json) (rest bytes text behind : List ℕ) → EndsText part bytes text → Behind p bytes tree behind → b ∷ rest ≡ text ++ 34 ∷ behind →
    Leads (in_text (take_byte part b) p) tree rest
ends_on facts b Part.Due p tree rest bytes text behind v next e = due_on facts b p tree rest bytes text behind v.characters v.each v.text_is v.bytes_are next e
ends_on facts b (Part.Utf8 left front) p tree rest bytes text behind v next e = part_on facts b (Part.Utf8 left front) p tree rest bytes text behind v next e
ends_on facts b Part.Escape p tree rest bytes text behind v next e = part_on facts b Part.Escape p tree rest bytes text behind v next e
ends_on facts b (Part.Code digits value) p tree rest bytes text behind v next e = part_on facts b (Part.Code digits value) p tree rest bytes text behind v next e
ends_on facts b (Part.High high) p tree rest bytes text behind v next e = part_on facts b (Part.High high) p tree rest bytes text behind v next e
ends_on facts b (Part.Slash high) p tree rest bytes text behind v next e = part_on facts b (Part.Slash high) p tree rest bytes text behind v next e
ends_on facts b (Part.Low high digits value) p tree rest bytes text behind v next e = part_on facts b (Part.Low high digits value) p tree rest bytes text behind v next e

-- a byte of a text
pub text_on : CharacterFacts → (b : ℕ) (part : Part) (p : Progress) (tree : Json) (rest : List ℕ) → TextDue part p.token p.stack tree (b ∷ rest) → Leads (in_text (take_byte part b) p) tree rest
text_on facts b part p tree rest v = ends_on facts b part p tree rest v.bytes v.text v.behind v.spelled v.next v.parts
