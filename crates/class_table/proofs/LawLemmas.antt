-- A text spells a table or has a first fault, and never both or two.
use Rattle.std.proofs.Common.{◌≡◌, ℕ, ◌+◌, ◌≤◌, nat_le, Bool, true, false, cond, List, [], ◌∷◌, ◌++◌, length, Result, Ok, Err, IfErr, inl, inr, ◌⊎◌, ap, refl, ◌∙◌, subst, arith}
use Rattle.std.proofs.lemmas.Bool.Decides.{nat_tests, Decides-eqb}
use Rattle.agg_base.specs.Lines.{Row, rows_from}
use Rattle.class_table.specs.Table.{Table, IsTable}
use Rattle.class_table.specs.Content.{Content, no_content, table_of}
use Rattle.class_table.specs.Reading.{is_whole, ◌then◌, line_says, lines_say, whole, whole_at, reading}
use Rattle.class_table.specs.Breaks.{BreaksFirst, EndsEarly}
use Rattle.class_table.specs.Steps.{Adds}
use Rattle.class_table.specs.Words.{is_counted}
use Rattle.class_table.specs.TableTexts.{IsTableText, lines_of}
use Rattle.class_table.specs.Faults.{IsFirstFault}
use Rattle.class_table.specs.declared.draft.Due.{Due}
use Rattle.class_table.specs.declared.draft.Due.TheVariants.{Head, Scale, Border, Body}
use Rattle.class_table.specs.declared.fault.Why.TheVariants.{Version, End}
use Rattle.class_table.specs.declared.fault.TableFault.{TableFault}
use Rattle.class_table.specs.declared.fault.TableFault.TheVariants.{Line}
use Rattle.class_table.proofs.Steps.{line_ok, line_back, line_passed}
use Rattle.class_table.proofs.Faulty.{line_fault}
use Rattle.class_table.proofs.Breaking.{breaks_says, whole_fault, early_says}
use Rattle.class_table.proofs.Rounds.{then_ok, lines_add, lines_back}
use Rattle.class_table.proofs.Stages.{body_at, table_adds, adds_table}

-- the end

le_holds : (a b : ℕ) → a ≤ b → nat_le a b ≡ true
le_holds a b l = grind (arith, nat_tests)

whole_body : (t : Table) (last : ℕ) → IsTable t → whole (body_at (length t.names) t) last ≡ Ok t
unfolding whole
whole_body t last content = rw (le_holds 1 (length t.names) content.some, (Decides-eqb (length t.names) (length t.names)).1 refl) refl

tested : (b : Bool) (t u : Table) (fault : TableFault) → cond b (Ok t) (Err fault) ≡ Ok u → (b ≡ true) × (t ≡ u)
tested true t u fault e = (refl, let same : Ok t ≡ Ok u = e in cc)
tested false t u fault e = absurd (let never : Err fault ≡ Ok u = e in cc)

whole_due : (due : Due) (d : Content) (last : ℕ) (t : Table) → whole_at due d last ≡ Ok t → (due ≡ Body) × (is_whole d ≡ true) × (table_of d ≡ t)
whole_due Head d last t e = absurd (let never : Err (Line (last + 1) Version) ≡ Ok t = e in cc)
whole_due Scale d last t e = absurd (let never : Err (Line (last + 1) End) ≡ Ok t = e in cc)
whole_due Border d last t e = absurd (let never : Err (Line (last + 1) End) ≡ Ok t = e in cc)
whole_due Body d last t e = let test = tested (is_whole d) (table_of d) t (Line (last + 1) End) e in (refl, test.0, test.1)

whole_ok : (d : Content) (last : ℕ) (t : Table) → whole d last ≡ Ok t → (d.due ≡ Body) × (is_whole d ≡ true) × (table_of d ≡ t)
unfolding whole
whole_ok d last t e = whole_due d.due d last t e

-- What a text spells is read.
pub table_read : (text : List ℕ) (t : Table) → IsTableText text t → reading text ≡ Ok t
unfolding reading
table_read text t is =
    let rows = rows_from 1 text in
    ap (λ r. r then (λ d. whole d (length rows))) (lines_back no_content rows (body_at (length t.names) t) (table_adds (lines_of rows) t is)) ∙ whole_body t (length rows) is.content

-- What is read is spelled.
pub read_table : (text : List ℕ) (t : Table) → reading text ≡ Ok t → IsTableText text t
unfolding reading
read_table text t is =
    let rows = rows_from 1 text in
    let step = then_ok (lines_say no_content rows) (λ d. whole d (length rows)) t is in
    let end = whole_ok step.0 (length rows) t step.2 in
    subst (λ u. IsTableText text u) end.2 (adds_table (lines_of rows) step.0 (lines_add no_content rows step.0 step.1) end.0 end.1)

-- faults

lines_append : (a b : List Row) (d e : Content) → lines_say d a ≡ Ok e → lines_say d (a ++ b) ≡ lines_say e b
lines_append [] b d e is = ap (λ m. lines_say m b) (let same : Ok d ≡ Ok e = is in cc)
lines_append (row ∷ a) b d e is =
    let step = then_ok (line_says d row.number row.text) (λ m. lines_say m a) e is in
    ap (λ r. r then (λ m. lines_say m (a ++ b))) step.1 ∙ lines_append a b step.0 e step.2

-- A first fault is read.
pub fault_read : (text : List ℕ) (f : TableFault) → IsFirstFault text f → reading text ≡ Err f
unfolding reading
fault_read text f is =
    let rows = rows_from 1 text in
    elim is as (λ _. (lines_say no_content rows then (λ d. whole d (length rows))) ≡ Err f) [
      | inl at ↦ ap (λ r. r then (λ d. whole d (length rows))) (ap (λ rs. lines_say no_content rs) at.lines_are ∙ lines_append at.before (at.line ∷ at.after) no_content at.said (lines_back no_content at.before at.said at.right)
          ∙ ap (λ r. r then (λ m. lines_say m at.after)) (breaks_says at.said at.line.number at.line.text f at.counted at.broken))
      | inr end ↦ ap (λ r. r then (λ d. whole d (length rows))) (lines_back no_content rows end.said end.right) ∙ early_says end.said (length rows) f end.early
    ]

record Broken (d : Content) (rows : List Row) (f : TableFault) : Type 0 where
  before : List Row
  line : Row
  after : List Row
  said : Content
  lines_are : rows ≡ before ++ line ∷ after
  right : lines_say d before ≡ Ok said
  broken : line_says said line.number line.text ≡ Err f

broken_line : (d : Content) (rows : List Row) (f : TableFault) → lines_say d rows ≡ Err f → Broken d rows f
broken_line d [] f is = absurd (let never : Ok d ≡ Err f = is in cc)
broken_line d (row ∷ rows) f is =
    elim (line_says d row.number row.text) as (λ r. line_says d row.number row.text ≡ r → (r then (λ m. lines_say m rows)) ≡ Err f → Broken d (row ∷ rows) f) [
      | Ok m ↦ λ first rest. (let more = broken_line m rows f rest in
          record {
            before = row ∷ more.before;
            line = more.line;
            after = more.after;
            said = more.said;
            lines_are = ap (λ rs. row ∷ rs) more.lines_are;
            right = ap (λ r. r then (λ e. lines_say e more.before)) first ∙ more.right;
            broken = more.broken;
          })
      | Err g ↦ λ first rest. record { before = []; line = row; after = rows; said = d; lines_are = refl; right = refl; broken = first ∙ rest }
    ] refl is

-- a line with a fault counts
counted : (d : Content) (number : ℕ) (line : List ℕ) (f : TableFault) → line_says d number line ≡ Err f → is_counted line ≡ true
counted d number line f is = elim (is_counted line) as (λ b. is_counted line ≡ b → b ≡ true) [
  | true ↦ λ e. refl
  | false ↦ λ e. absurd (let passed : line_says d number line ≡ Ok d = line_passed d number line e in cc)
] refl

same_fault : (f g : TableFault) (r : Result Table TableFault) → r ≡ Err f → r ≡ Err g → f ≡ g
same_fault f g r is also = cc

-- A fault that is read is the first one.
pub read_fault : (text : List ℕ) (f : TableFault) → reading text ≡ Err f → IsFirstFault text f
unfolding reading
read_fault text f is =
    let rows = rows_from 1 text in
    elim (lines_say no_content rows) as (λ r. lines_say no_content rows ≡ r → (r then (λ d. whole d (length rows))) ≡ Err f → IsFirstFault text f) [
      | Ok d ↦ λ all end. inr (record { said = d; right = lines_add no_content rows d all; early = subst (λ r. IfErr r (EndsEarly d (length rows))) end (whole_fault d (length rows)) })
      | Err g ↦ λ all end. (let same : g ≡ f = same_fault g f (Err g) refl end in let at = broken_line no_content rows f (all ∙ ap (λ h. Err h) same) in
          let counting = counted at.said at.line.number at.line.text f at.broken in
          inl (record {
            before = at.before;
            line = at.line;
            after = at.after;
            said = at.said;
            lines_are = at.lines_are;
            right = lines_add no_content at.before at.said at.right;
            counted = counting;
            broken = subst (λ r. IfErr r (BreaksFirst at.said at.line.number at.line.text)) at.broken (line_fault at.said at.line.number at.line.text counting);
          }))
    ] refl is

-- the laws

pub one_table_text : (text : List ℕ) (t u : Table) → IsTableText text t → IsTableText text u → t ≡ u
one_table_text text t u is also = let a : reading text ≡ Ok t = table_read text t is in let b : reading text ≡ Ok u = table_read text u also in cc

pub one_first_fault : (text : List ℕ) (f g : TableFault) → IsFirstFault text f → IsFirstFault text g → f ≡ g
one_first_fault text f g is also = let a : reading text ≡ Err f = fault_read text f is in let b : reading text ≡ Err g = fault_read text g also in cc

pub table_no_fault : (text : List ℕ) (t : Table) (f : TableFault) → IsTableText text t → ¬ IsFirstFault text f
table_no_fault text t f is fault = let a : reading text ≡ Ok t = table_read text t is in let b : reading text ≡ Err f = fault_read text f fault in cc

pub some_answer : (text : List ℕ) → ((t : Table) × IsTableText text t) ⊎ ((f : TableFault) × IsFirstFault text f)
some_answer text = elim (reading text) as (λ r. reading text ≡ r → ((t : Table) × IsTableText text t) ⊎ ((f : TableFault) × IsFirstFault text f)) [
  | Ok t ↦ λ is. inl (t, read_table text t is)
  | Err f ↦ λ is. inr (f, read_fault text f is)
] refl

-- A line that counts is right, or breaks a rule first.
pub right_or_broken : (d : Content) (number : ℕ) (line : List ℕ) → is_counted line ≡ true → ((e : Content) × Adds d line e) ⊎ ((f : TableFault) × BreaksFirst d number line f)
right_or_broken d number line due = elim (line_says d number line) as (λ r. line_says d number line ≡ r → ((e : Content) × Adds d line e) ⊎ ((f : TableFault) × BreaksFirst d number line f)) [
  | Ok e ↦ λ is. inl (e, line_ok d number line e due is)
  | Err f ↦ λ is. inr (f, subst (λ r. IfErr r (BreaksFirst d number line)) is (line_fault d number line due))
] refl

pub never_both : (d e : Content) (number : ℕ) (line : List ℕ) (f : TableFault) → is_counted line ≡ true → Adds d line e → ¬ BreaksFirst d number line f
never_both d e number line f due adds broken =
    let a : line_says d number line ≡ Ok e = line_back d number line e due adds in let b : line_says d number line ≡ Err f = breaks_says d number line f due broken in cc

same_said : (e f : Content) (r : Result Content TableFault) → r ≡ Ok e → r ≡ Ok f → e ≡ f
same_said e f r is also = cc

pub one_said : (d e f : Content) (line : List ℕ) → is_counted line ≡ true → Adds d line e → Adds d line f → e ≡ f
one_said d e f line due is also = same_said e f (line_says d 0 line) (line_back d 0 line e due is) (line_back d 0 line f due also)

same_said_fault : (f g : TableFault) (r : Result Content TableFault) → r ≡ Err f → r ≡ Err g → f ≡ g
same_said_fault f g r is also = cc

pub one_rule : (d : Content) (number : ℕ) (line : List ℕ) (f g : TableFault) → is_counted line ≡ true → BreaksFirst d number line f → BreaksFirst d number line g → f ≡ g
one_rule d number line f g due is also = same_said_fault f g (line_says d number line) (breaks_says d number line f due is) (breaks_says d number line g due also)
