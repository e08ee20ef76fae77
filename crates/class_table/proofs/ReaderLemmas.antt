-- How many lines a text has, and what is answered of what was read.
use Rattle.std.proofs.Common.{◌≡◌, ℕ, ◌+◌, ◌≤◌, ◌==◌, Bool, true, false, List, [], ◌∷◌, length, cond, Result, Ok, Err, IfOk, IfErr, sym, ap, ◌∙◌, subst, arith}
use Rattle.std.specs.List.{slice_split}
use Rattle.std.proofs.lemmas.List.Splits.{length-slice_split}
use Rattle.std.proofs.lemmas.List.Sums.{count_by-le-length}
use Rattle.agg_base.specs.Lines.{Row, rows_of_parts, rows_from}
use Rattle.agg_base.specs.declared.line.Ending.TheVariants.{Missing}
use Rattle.class_table.specs.Table.{Table, IsTable}
use Rattle.class_table.specs.Content.{Content, no_content}
use Rattle.class_table.specs.Reading.{◌then◌, lines_say, whole, reading}
use Rattle.class_table.specs.TableTexts.{IsTableText}
use Rattle.class_table.specs.Faults.{IsFaultOf, IsFirstFault}
use Rattle.class_table.specs.Gives.{Gives}
use Rattle.class_table.specs.declared.fault.TableFault.{TableFault}
use Rattle.class_table.specs.declared.fault.TableFault.TheVariants.{Line, RepeatedClass, Limit, Memory}
use Rattle.class_table.proofs.LawLemmas.{read_table, table_read, read_fault, fault_read}

one_row : (b : Bool) (line : Row) → length (cond b [] (line ∷ [])) ≤ 1
one_row true line = omega arith
one_row false line = omega arith

parts_rows : (n : ℕ) (parts : List (List ℕ)) → length (rows_of_parts n parts) ≤ length parts
parts_rows n [] = omega arith
parts_rows n (part ∷ []) = one_row (length part == 0) (record { number = n; text = part; ending = Missing })
parts_rows n (part ∷ next ∷ parts) = let more = parts_rows (n + 1) (next ∷ parts) in omega arith

-- a text has at most one line more than bytes
pub rows_few : (text : List ℕ) → length (rows_from 1 text) ≤ length text + 1
rows_few text =
    let a = parts_rows 1 (slice_split (λ b. b == 10) text) in
    let b = length-slice_split (λ b. b == 10) text in
    let c = count_by-le-length (λ b. b == 10) text in
    omega arith

-- a table that is read keeps what every table keeps
pub read_content : (text : List ℕ) (d : Content) (last : ℕ) (t : Table) → lines_say no_content (rows_from 1 text) ≡ Ok d → last ≡ length (rows_from 1 text) → whole d last ≡ Ok t → IsTable t
unfolding reading
read_content text d last t all count end =
    let read : reading text ≡ Ok t = ap (λ r. r then (λ e. whole e (length (rows_from 1 text)))) all ∙ ap (λ n. whole d n) (sym count) ∙ end in
    (read_table text t read).content

-- what was read is the table
pub gives_table : (text : List ℕ) (r : Result Table TableFault) → Gives (λ t. t) r (reading text) → IfOk r (λ t. IsTableText text t)
gives_table text (Ok t) is = read_table text t is
gives_table text (Err f) is = tt

-- what was read is the fault
pub gives_fault : (text : List ℕ) (r : Result Table TableFault) → Gives (λ t. t) r (reading text) → IfErr r (λ f. IsFaultOf text f)
gives_fault text (Ok t) is = tt
gives_fault text (Err Memory) is = tt
gives_fault text (Err (Line number why)) is = read_fault text (Line number why) is
gives_fault text (Err (RepeatedClass line)) is = read_fault text (RepeatedClass line) is
gives_fault text (Err (Limit line)) is = read_fault text (Limit line) is

-- a text that spells a table is read as it
pub gives_spelled : (text : List ℕ) (r : Result Table TableFault) (t : Table) → Gives (λ u. u) r (reading text) → IsTableText text t → Gives (λ u. u) r (Ok t)
gives_spelled text r t is spelled = subst (λ read. Gives (λ u. u) r read) (table_read text t spelled) is

-- a text with a first fault is refused by it
pub gives_faulty : (text : List ℕ) (r : Result Table TableFault) (f : TableFault) → Gives (λ u. u) r (reading text) → IsFirstFault text f → Gives {X = Table} {Y = Table} (λ u. u) r (Err f)
gives_faulty text r f is first = subst (λ read. Gives (λ u. u) r read) (fault_read text f first) is
